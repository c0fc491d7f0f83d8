pub mod Shifts
pub mod Orders
pub mod Upto
pub mod Mappings
pub mod Rises
