pub mod Lists
pub mod Faults
pub mod Printing
