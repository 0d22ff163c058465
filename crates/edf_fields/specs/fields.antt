pub mod Layout
pub mod LayoutReading
pub mod SubfieldNames
pub mod SubfieldNamesReading
