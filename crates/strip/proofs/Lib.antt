pub mod StripLaws
pub mod OpLaws
pub mod PictureLaws
pub mod PlaceLaws
