pub mod PointLaws
pub mod TableLaws
pub mod CallLaws
