pub mod Meaning
pub mod Chains
pub mod Soundness
