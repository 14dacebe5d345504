pub mod Said
pub mod Commands
pub mod Rows
pub mod Libraries
pub mod Answers
pub mod Sessions
