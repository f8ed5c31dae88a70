pub mod Decoded
pub mod Layer
pub mod Source
pub mod Ready
