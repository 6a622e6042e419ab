pub mod RowSheets
pub mod Sporadic
