-- What the crates above cite of this crate's proofs; they cite nothing else of it.
pub use Rattle.edf_heads.proofs.HeadFacts.{labels-distinct, has-label, label-has}
pub use Rattle.edf_heads.proofs.LabelFacts.{not_below, one-label}
pub use Rattle.edf_heads.proofs.ListFacts.{Parted, parted}
pub use Rattle.edf_heads.proofs.OneHeadFacts.{One, Made, Else, one-made, either-one}
pub use Rattle.edf_heads.proofs.SomeHeadFacts.{not-above-self, not-above-behind, one-not-above}
pub use Rattle.edf_heads.proofs.SubfieldFacts.{has-all}
pub use Rattle.edf_heads.proofs.SameHeadFacts.{AreSamePairs, same-heads-self, blank-alike-self}
pub use Rattle.edf_heads.proofs.KindFacts.{agree-apart, one_head_verdict, AgreeOrDiffer, agree_or_differ, agree_carried, head_verdict_carried, none-broken, nothing_is_broken}
