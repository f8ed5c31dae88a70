pub mod RunLaws
pub mod EndLaws
