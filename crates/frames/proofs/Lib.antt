pub mod Lengths
pub mod Complement
pub mod Writing
pub mod Cut
