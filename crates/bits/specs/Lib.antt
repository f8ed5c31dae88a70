pub mod Bits
pub mod Reader
