pub mod Image
pub mod Fault
pub mod Pixel
pub mod Gathered
pub mod Rows
