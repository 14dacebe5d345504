pub mod Row
pub mod Boxes
pub mod Plans
pub mod LawsBoxes
pub mod Rewritten
