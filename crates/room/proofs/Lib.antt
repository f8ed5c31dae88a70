pub mod HeadLaws
pub mod PictureLaws
pub mod TestLaws
