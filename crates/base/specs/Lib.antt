pub mod Adler
pub mod Areas
pub mod Fields
pub mod Limits
pub mod Refusals
