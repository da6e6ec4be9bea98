pub mod Ends
pub mod Kept
pub mod Leads
pub mod Places
pub mod Runs
pub mod Tables
