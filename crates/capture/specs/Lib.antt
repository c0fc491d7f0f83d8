pub mod Framing
pub mod Inspecting
pub mod Records
