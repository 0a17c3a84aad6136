pub mod Sayings
pub mod Lines
pub mod Script
pub mod Steps
pub mod Played
