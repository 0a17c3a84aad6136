pub mod Members
pub mod Turned
pub mod Rows
pub mod Counted
