pub mod OutcomeLaws
pub mod WholeOpsLaws
pub mod RowLaws
pub mod SkipLaws
pub mod LeapLaws
