pub mod Outcomes
pub mod Quotes
pub mod NoteTimes
pub mod Lines
pub mod PartsLines
