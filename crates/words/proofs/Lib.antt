pub mod Hexes
pub mod Lists
pub mod Numbers
pub mod Places
