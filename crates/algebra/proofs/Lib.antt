pub mod Ring
pub mod Normal
