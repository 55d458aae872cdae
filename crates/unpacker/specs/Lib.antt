pub mod Coded
pub mod Groups
pub mod Ops
