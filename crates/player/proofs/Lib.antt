pub mod Frames
pub mod Lines
pub mod Making
pub mod Playing
pub mod Putting
pub mod Reaching
