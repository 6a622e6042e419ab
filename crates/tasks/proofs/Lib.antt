mod Ordered
mod Placed
mod Rounding
mod Tasked
pub mod Grouping
