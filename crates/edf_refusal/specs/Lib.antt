pub mod Refusals
pub mod Statuses
