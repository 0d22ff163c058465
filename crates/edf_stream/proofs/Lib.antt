pub mod ListFacts
pub mod ConformFacts
pub mod ConformForms
pub mod FileFacts
pub mod ForCallers
pub mod FaultlessFacts
pub mod MeaningFacts
