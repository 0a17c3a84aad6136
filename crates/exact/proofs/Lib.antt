pub mod Rounding
pub mod Products
