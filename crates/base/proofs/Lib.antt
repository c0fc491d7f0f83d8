pub mod AdlerSteps
pub mod Areas
pub mod Fields
