pub mod Placing
pub mod Tasks
