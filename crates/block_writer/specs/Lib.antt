pub mod Block
pub mod Call
pub mod Reads
pub mod Source
