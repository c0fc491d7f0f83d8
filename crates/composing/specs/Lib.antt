pub mod Composing
pub mod Data
pub mod Lines
