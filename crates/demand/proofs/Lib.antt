pub mod Admitted
pub mod Fields
pub mod Firsts
mod Least
mod Totals
