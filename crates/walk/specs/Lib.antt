pub mod Branch
pub mod Walk
pub mod Learning
