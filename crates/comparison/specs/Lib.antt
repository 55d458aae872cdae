pub mod Entries
pub mod Replies
pub mod Model
pub mod Block
