pub mod Refusals
pub mod Line
pub mod Printing
