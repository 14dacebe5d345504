pub mod Steps
pub mod Sets
pub mod Areas
pub mod Arounds
pub mod Faults
pub mod Growth
pub mod Words
pub mod Rewrites
