pub mod SortLaws
pub mod PairLaws
pub mod OrderLaws
pub mod NumberLaws
pub mod PaintedLaws
pub mod InsertLaws
pub mod SweptLaws
mod Examples
