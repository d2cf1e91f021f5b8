pub mod Faults
pub mod Heard
pub mod Typed
pub mod Meaning
