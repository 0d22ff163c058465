-- What the crates above cite of this crate's proofs; they cite nothing else of it.
pub use Rattle.edf_tal.proofs.LawFacts.{lane-spelled}
pub use Rattle.edf_tal.proofs.ReadFacts.{lane-read}
pub use Rattle.edf_tal.proofs.StartFacts.{starts-at, start_small}
