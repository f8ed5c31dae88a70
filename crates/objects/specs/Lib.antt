pub mod Record
pub mod Object
pub mod Name
