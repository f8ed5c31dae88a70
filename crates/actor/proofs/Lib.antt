pub mod CornerLaws
pub mod SizeLaws
pub mod MaskLaws
pub mod StampLaws
pub mod ActorLaws
pub mod PictureLaws
mod Examples
