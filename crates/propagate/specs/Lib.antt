pub mod Code
pub mod Partners
