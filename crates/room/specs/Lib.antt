pub mod Head
pub mod Picture
pub mod Test
