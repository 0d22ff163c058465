-- What the crates above cite of this crate's proofs; they cite nothing else of it.
pub use Rattle.edf_claim.proofs.AnyLengthFacts.{short_says, text_says_one}
pub use Rattle.edf_claim.proofs.BorderFacts.{kept-alike}
pub use Rattle.edf_claim.proofs.DraftFacts.{interval_decides, same_all, same_more, so_true}
pub use Rattle.edf_claim.proofs.KeepsFacts.{instant_kept}
