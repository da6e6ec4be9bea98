pub mod Firsts
pub mod Met
pub mod Near
pub mod Rows
pub mod Steps
pub mod Tables
