pub mod Decimals
pub mod Widths
