pub mod Encoding
pub mod Facts
pub mod Format
pub mod Nearness
pub mod Rewriting
pub mod Words
