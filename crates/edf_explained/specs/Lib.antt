pub mod Appending
pub mod Explained
