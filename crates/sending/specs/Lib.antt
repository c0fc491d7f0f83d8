pub mod Joining
pub mod Packing
pub mod Repacking
pub mod Round
pub mod Writing
