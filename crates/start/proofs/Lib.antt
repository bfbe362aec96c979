pub mod Rooms
pub mod Opening
pub mod Initial
pub mod Counting
pub mod Repeating
pub mod Undoubling
pub mod Signs
pub mod Starting
