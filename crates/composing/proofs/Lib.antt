pub mod Areas
pub mod Fronts
pub mod Hexes
pub mod Loops
pub mod Messages
pub mod Packs
pub mod Prepared
pub mod WordLists
