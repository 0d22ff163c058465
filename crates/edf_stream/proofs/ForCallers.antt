-- What the crates above cite of this crate's proofs; they cite nothing else of it.
pub use Rattle.edf_stream.proofs.FaultlessFacts.{head-is, conforming_is_faultless, records_follow_on}
pub use Rattle.edf_stream.proofs.FileFacts.{header_first}
pub use Rattle.edf_stream.proofs.records.ReadFacts.{sound-of, starts_late, notes_are_read}
pub use Rattle.edf_stream.proofs.samples.RisingFacts.{starts-behind}
pub use Rattle.edf_stream.proofs.samples.SampleLawFacts.{samples_are_listed, samples_are_of_channels, samples_rise, one_at_an_instant}
pub use Rattle.edf_stream.proofs.samples.BoundFacts.{instants_fit, start_is_of_least}
pub use Rattle.edf_stream.proofs.samples.CountFacts.{samples_are_counted, notes_are_counted}
pub use Rattle.edf_stream.proofs.records.PlaceFacts.{fault_is_of_body, passed_stand_before}
