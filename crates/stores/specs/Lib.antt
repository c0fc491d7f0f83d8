pub mod Tokens
pub mod Unchanged
pub mod Xor
