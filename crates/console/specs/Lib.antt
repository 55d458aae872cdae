pub mod Said
pub mod Took
