pub mod Size
pub mod Verdict
