pub mod Faults
pub mod Setting
pub mod Rows
pub mod Climbing
pub mod Positions
