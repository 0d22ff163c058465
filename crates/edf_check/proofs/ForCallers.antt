-- What the crates above cite of this crate's proofs; they cite nothing else of it.
pub use Rattle.edf_check.proofs.ColumnFacts.{Column}
pub use Rattle.edf_check.proofs.CourseFacts.{agree-back, agree-self, differ-alike, first-alike}
pub use Rattle.edf_check.proofs.JoinFacts.{back-differ, differ-back, differ-front, front-differ}
pub use Rattle.edf_check.proofs.NightFacts.{IsColumnOf, exported-there, is-column, kept-there, place-there, there-exported, there-kept}
pub use Rattle.edf_check.proofs.parts.NoneFacts.{nothing_found, ordered_parts}
pub use Rattle.edf_check.proofs.parts.SerialFacts.{counted_each, serial_later}
pub use Rattle.edf_check.proofs.parts.SeriesFacts.{KeptFrom, KeptUntil, all-kept, kept-cut, one-alone, parts-cut}
pub use Rattle.edf_check.proofs.parts.TogetherFacts.{before-all}
