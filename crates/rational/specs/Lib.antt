pub mod Rational
pub mod Line
