pub mod Sizes
pub mod Hidden
pub mod Corner
pub mod Stamp
