pub mod Weighings
pub mod Chances
