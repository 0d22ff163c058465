pub mod FaultTexts
pub mod Lists
pub mod Distinct
pub mod Parts
pub mod Tests
pub mod in_out
pub mod texts
pub mod fields
