pub mod Compare
pub mod Listed
pub mod Pair
pub mod Tables
