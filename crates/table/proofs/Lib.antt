pub mod BlockLaws
pub mod TableLaws
pub mod BodyLaws
pub mod TestLaws
