pub mod Declarations
pub mod Sheets
