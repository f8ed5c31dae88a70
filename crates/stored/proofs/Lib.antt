pub mod Lists
pub mod BytesLaws
