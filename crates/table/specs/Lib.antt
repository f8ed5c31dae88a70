pub mod Table
pub mod Body
pub mod Test
