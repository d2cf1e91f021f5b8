pub mod Records
pub mod Faults
pub mod Checking
pub mod Count
pub mod Penalties
pub mod Meaning
