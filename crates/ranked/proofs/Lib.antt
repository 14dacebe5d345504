pub mod Sames
pub mod Places
pub mod Ranks
pub mod Finds
mod Steps
mod Sorted
