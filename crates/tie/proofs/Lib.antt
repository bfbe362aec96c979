pub mod Codes
pub mod Swaps
pub mod Turns
pub mod Joins
pub mod Between
pub mod Listings
pub mod Stamping
pub mod Tyings
