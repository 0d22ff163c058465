pub mod Better
pub mod Changes
pub mod Parts
pub mod Tries
