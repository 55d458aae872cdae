pub mod Replies
pub mod Stages
pub mod Opened
