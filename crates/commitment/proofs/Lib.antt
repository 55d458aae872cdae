pub mod Stages
pub mod Numbers
pub mod Groups
pub mod Slots
pub mod Owed
