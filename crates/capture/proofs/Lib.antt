pub mod Framed
pub mod Nexts
pub mod Rooms
pub mod Taken
pub mod Written
