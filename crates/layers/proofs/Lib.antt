pub mod EveryLaws
pub mod ByteLaws
pub mod SourceLaws
pub mod EntryLaws
pub mod LayerLaws
pub mod PaintLaws
pub mod RangeLaws
