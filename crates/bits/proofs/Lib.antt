pub mod BitLaws
pub mod CursorLaws
pub mod ReaderExample
pub mod ReaderLaws
pub mod ZeroLaws
