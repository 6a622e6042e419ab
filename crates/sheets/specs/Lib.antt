pub mod Faults
pub mod Fields
pub mod Kinds
pub mod Lines
pub mod Over
pub mod Rows
pub mod Sheets
pub mod Texts
