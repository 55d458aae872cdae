pub mod Places
pub mod Good
pub mod Draft
pub mod Groups
pub mod View
