pub mod FlatLaws
pub mod FineLaws
pub mod CallLaws
pub mod LoadedLaws
pub mod Demand3
pub mod IndexRoom
