pub mod OneLine
pub mod Texts
