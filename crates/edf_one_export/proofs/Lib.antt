pub mod TextFacts
pub mod DateFacts
pub mod SubfieldFacts
pub mod SignalFacts
pub mod InstantFacts
pub mod SampleFacts
pub mod NoteFacts
pub mod ExportFacts
