pub mod Faults
pub mod Grammar
pub mod Kept
pub mod Lines
pub mod Printed
pub mod Unread
pub mod Views
pub mod Words
