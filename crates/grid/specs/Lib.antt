pub mod Grid
pub mod Strip
pub mod Mask
