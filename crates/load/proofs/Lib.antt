pub mod CellLaws
pub mod BoxLaws
pub mod LoadLaws
pub mod JoinLaws
pub mod PairLaws
