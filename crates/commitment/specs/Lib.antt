pub mod Walk
pub mod View
