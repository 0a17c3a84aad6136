pub mod Lines
pub mod Runs
pub mod Steps
pub mod Told
