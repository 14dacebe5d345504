pub mod Runnings
pub mod Enterings
pub mod Replayings
pub mod Readings
