pub mod Bytes
pub mod Right
pub mod Places
pub mod Claims
pub mod Packing
pub mod Stores
pub mod Stored
