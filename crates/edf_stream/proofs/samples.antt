pub mod SampleFacts
pub mod SampleLawFacts
pub mod RisingFacts
pub mod MemberFacts
pub mod BoundFacts
pub mod CountFacts
