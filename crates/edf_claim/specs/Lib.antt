pub mod Claims
pub mod ClaimValues
pub mod Faults
pub mod Keeps
pub mod KeepsReading
pub mod Reading
pub mod Spellings
