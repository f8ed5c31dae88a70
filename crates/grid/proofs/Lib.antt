pub mod Upd
pub mod Box
pub mod Masks
