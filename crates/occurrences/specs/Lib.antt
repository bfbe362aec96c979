pub mod Index
pub mod Building
