pub mod Sheet
pub mod Slopes
pub mod Serials
pub mod Mirror
pub mod Values
