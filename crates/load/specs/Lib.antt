pub mod Load
pub mod Pair
