pub mod Tals
pub mod Timekeeping
pub mod Reading
pub mod Faults
pub mod Views
pub mod Zeros
pub mod Times
