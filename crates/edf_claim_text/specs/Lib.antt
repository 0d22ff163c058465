pub mod PlainTexts
pub mod Printed
