pub mod Joining
pub mod Places
pub mod Tables
pub mod Known
pub mod Meaning
