pub mod Found
pub mod List
pub mod Parts
pub mod Report
pub mod Unread
