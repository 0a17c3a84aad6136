pub mod Limits
pub mod Ends
pub mod Model
pub mod Setting
pub mod Truth
pub mod Rounded
