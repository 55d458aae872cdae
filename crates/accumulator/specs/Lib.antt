pub mod Good
pub mod Model
pub mod View
