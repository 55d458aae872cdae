pub mod Draft
pub mod Model
pub mod Walk
