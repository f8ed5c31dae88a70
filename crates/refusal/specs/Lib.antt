pub mod Answer
pub mod Reason
pub mod Refusal
