pub mod Limits
pub mod Division
pub mod Quantity
