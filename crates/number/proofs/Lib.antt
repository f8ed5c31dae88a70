pub mod BoolLaws
pub mod BufferLaws
pub mod StoreLaws
