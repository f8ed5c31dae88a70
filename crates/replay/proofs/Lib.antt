pub mod Lists
pub mod TablesLaws
pub mod GroundLaws
pub mod ReplayLaws
pub mod PlacesLaws
pub mod JudgedLaws
