pub mod Places
pub mod Tidying
pub mod Shelving
pub mod Sorts
pub mod HeapOrders
pub mod Moves
pub mod Racking
pub mod Counting
