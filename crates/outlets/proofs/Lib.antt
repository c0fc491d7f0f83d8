pub mod Images
pub mod Tables
