pub mod Decimal
pub mod Words
pub mod Text
pub mod Thousandths
