pub mod Scan
pub mod Faults
pub mod Pairs
