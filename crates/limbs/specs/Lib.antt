pub mod Limb
pub mod Tick
