pub mod Images
pub mod Looks
pub mod Mapping
pub mod Meaning
pub mod Reading
pub mod Tables
