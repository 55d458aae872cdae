pub mod Keeps
pub mod InHand
pub mod Join
