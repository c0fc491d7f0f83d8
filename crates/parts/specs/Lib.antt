pub mod Coders
pub mod Entries
pub mod Given
pub mod Holdings
pub mod Listings
