pub mod Exits
pub mod Thirteen
