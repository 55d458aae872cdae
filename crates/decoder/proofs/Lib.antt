pub mod Ops
pub mod Sizes
pub mod Batches
pub mod Blocks
pub mod Kept
pub mod Taken
