pub mod WalkLaws
pub mod ImageLaws
pub mod RowLaws
pub mod GatherLaws
pub mod FaultLaws
pub mod PixelLaws
pub mod CountLaws
pub mod Examples
