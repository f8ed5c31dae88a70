pub mod CountLaws
pub mod PlaceLaws
pub mod ListLaws
pub mod ContentLaws
pub mod TableLaws
pub mod OutcomeLaws
pub mod ComparedRooms
