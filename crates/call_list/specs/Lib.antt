pub mod Coded
pub mod Run
pub mod Promise
