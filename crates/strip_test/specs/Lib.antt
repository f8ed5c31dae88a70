pub mod Outcome
pub mod WholeOps
pub mod Leap
