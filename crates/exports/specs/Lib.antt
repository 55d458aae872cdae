pub mod Replies
pub mod Flat
pub mod OneAnswer
pub mod ShutOut
pub mod Through
