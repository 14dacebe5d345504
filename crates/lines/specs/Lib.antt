pub mod Lines
pub mod Fields
pub mod Faults
pub mod LawsLines
