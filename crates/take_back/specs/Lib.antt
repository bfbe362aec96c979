pub mod TakeBack
pub mod Taken
