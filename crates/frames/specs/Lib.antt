pub mod Tape
pub mod Answers
pub mod Writing
