pub mod Same
pub mod Rank
pub mod Find
pub mod LawsRank
pub mod Texts
