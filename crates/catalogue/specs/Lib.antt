pub mod Seen
pub mod Runs
pub mod Loads
pub mod Replays
pub mod Reads
