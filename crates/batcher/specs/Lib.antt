pub mod Model
pub mod Batched
pub mod Going
