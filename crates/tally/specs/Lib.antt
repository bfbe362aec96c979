pub mod Tally
pub mod Ring
pub mod Stretch
pub mod Block
pub mod Counts
