pub mod Number
pub mod Buffer
