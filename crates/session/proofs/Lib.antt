pub mod PlanLaws
pub mod TouchLaws
pub mod BridgeLaws
pub mod Caller
pub mod CalledLaws
