pub mod Nodes
pub mod Leaving
pub mod Standing
pub mod Tables
pub mod Seen
pub mod Calls
pub mod Listing
