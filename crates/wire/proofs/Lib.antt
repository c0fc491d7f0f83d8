pub mod Cuts
pub mod Exactly
pub mod Heads
pub mod MessageLemmas
