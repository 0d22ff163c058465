pub mod Records
pub mod RecordsReading
pub mod Readers
pub mod Steps
