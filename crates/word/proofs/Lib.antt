pub mod Bases
pub mod Bytes
pub mod Copies
pub mod Zeros
