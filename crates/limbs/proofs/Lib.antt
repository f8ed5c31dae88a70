pub mod LimbLaws
pub mod AfterLaws
pub mod DrawLaws
pub mod TickLaws
pub mod Theorems
pub mod Examples
