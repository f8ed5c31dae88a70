pub mod Objects
pub mod Climb
pub mod Tables
