pub mod ObjectLaws
pub mod NameLaws
