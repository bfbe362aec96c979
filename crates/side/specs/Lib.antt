pub mod Side
pub mod Branch
