pub mod Penalizing
