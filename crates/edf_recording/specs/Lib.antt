pub mod Readings
pub mod Times
