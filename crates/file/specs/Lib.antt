pub mod Faults
pub mod Checked
pub mod Cut
pub mod Reads
pub mod Writes
pub mod LawsFile
