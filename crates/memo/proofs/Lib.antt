pub mod Slots
pub mod Keys
pub mod Filling
pub mod Learning
