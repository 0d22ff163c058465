pub mod Samples
pub mod SamplesReading
pub mod Values
