pub mod Ends
pub mod Setting
pub mod Scaled
