pub mod Turning
pub mod Listing
pub mod Keeping
pub mod Tying
