pub mod Scanning
pub mod Partners
pub mod Keeping
pub mod Lowest
pub mod Settling
