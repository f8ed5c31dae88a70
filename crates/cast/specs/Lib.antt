pub mod Order
pub mod Sort
pub mod Turns
pub mod Call
