pub mod Tag
pub mod Tree
