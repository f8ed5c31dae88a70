pub mod Calls
pub mod Bytes
