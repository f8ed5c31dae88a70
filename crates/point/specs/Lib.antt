pub mod Objects
pub mod Point
pub mod Tables
pub mod Call
