pub mod Walk
pub mod Reading
pub mod Counting
pub mod Searching
pub mod Advancing
pub mod Accepted
