pub mod PutLaws
pub mod DecimalLaws
pub mod LineLaws
pub mod SizeLaws
pub mod CallLaws
pub mod Example
