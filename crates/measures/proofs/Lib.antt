pub mod Tallies
pub mod Countings
pub mod Lists
pub mod Spares
