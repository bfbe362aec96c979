pub mod Lines
pub mod Reports
pub mod Input
pub mod Promises
pub mod Examples
