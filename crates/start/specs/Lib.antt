pub mod Opening
pub mod Counting
pub mod Undoubling
pub mod Signs
pub mod Starting
