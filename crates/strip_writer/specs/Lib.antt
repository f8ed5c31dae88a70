pub mod Pack
pub mod Pixels
pub mod Rows
pub mod BitWriter
pub mod Place
