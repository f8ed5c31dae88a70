pub mod Strip
pub mod Picture
pub mod Place
