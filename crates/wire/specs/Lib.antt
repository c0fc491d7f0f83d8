pub mod Bodies
pub mod Bounds
pub mod Flags
pub mod Header
pub mod Joining
pub mod Messages
pub mod Reading
pub mod Splitting
