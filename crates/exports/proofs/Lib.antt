pub mod Whole
pub mod Rooms
pub mod Indexes
pub mod Guards
pub mod Tables
pub mod Builds
pub mod OneAnswer
pub mod ShutOut
