pub mod Low
pub mod Best
pub mod Narrowest
