pub mod Racks
pub mod Sounds
pub mod Sifting
pub mod Heaps
