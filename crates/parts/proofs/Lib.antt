pub mod Listed
pub mod Lowest
