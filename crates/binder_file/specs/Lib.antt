pub mod Boot
pub mod Format
pub mod Writing
