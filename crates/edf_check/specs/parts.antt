pub mod Parts
pub mod PartsFirst
pub mod PartsFound
pub mod PartsVerdicts
pub mod Ends
pub mod Together
pub mod Counted
