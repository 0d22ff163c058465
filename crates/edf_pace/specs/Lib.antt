pub mod Words
pub mod Premises
pub mod Kept
pub mod Annotations
pub mod Laws
pub mod PartsStops
pub mod notes
pub mod walk
