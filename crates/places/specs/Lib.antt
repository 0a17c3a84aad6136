pub mod Held
pub mod Search
pub mod Samples
