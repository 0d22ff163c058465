-- What the crates above cite of this crate's proofs; they cite nothing else of it.
pub use Rattle.edf_layout.proofs.plain.DigitFacts.{digits-same}
pub use Rattle.edf_layout.proofs.FieldFacts.{join-parts, nothing-behind}
pub use Rattle.edf_layout.proofs.HeadFacts.{annotation-first, get-some, layout-at, layouts-long, other-first}
pub use Rattle.edf_layout.proofs.SpacesFacts.{behind-subfield, spaces-more}
pub use Rattle.edf_layout.proofs.StartFacts.{same-byte}
pub use Rattle.edf_layout.proofs.body.LineLawFacts.{lines_and_meaning_are_the_file, lines_tell_layout}
