pub mod Lines
pub mod Functions
