pub mod Admission
pub mod Fields
pub mod Sides
pub mod Verdicts
pub mod SidesLemmas
