pub mod Instants
pub mod InstantOrder
pub mod Starts
pub mod StartsReading
