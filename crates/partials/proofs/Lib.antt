pub mod Cuts
pub mod Finds
pub mod Tables
pub mod Keeps
pub mod Ends
pub mod Standing
