-- What the crates above cite of this crate's proofs; they cite nothing else of it.
pub use Rattle.edf_findings.proofs.CountedFacts.{AreFoundOfCounts, AreToldOfCounts, IsToldOfCount, found_of_counts, notes_of_all}
pub use Rattle.edf_findings.proofs.LabelFacts.{one-order}
pub use Rattle.edf_findings.proofs.NoneFacts.{place-told}
