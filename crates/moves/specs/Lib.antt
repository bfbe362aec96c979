pub mod Sound
pub mod Moving
pub mod Listing
pub mod Deciding
pub mod Stepping
