pub mod Lines
pub mod Split
pub mod Faults
pub mod Writing
pub mod Parsing
