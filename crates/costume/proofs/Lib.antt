pub mod RecordLaws
pub mod StartLaws
pub mod Theorems
pub mod Examples
