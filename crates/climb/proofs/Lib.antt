pub mod ClimbLaws
pub mod LinksSuffice
