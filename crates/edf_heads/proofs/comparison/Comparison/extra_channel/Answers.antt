use Rattle.std.proofs.Common.{ℕ, List, Bor, sym, subst, MatchOption}
use Rattle.edf_heads.specs.differences.ChannelDifferences.{IsLeastExtra}
use Rattle.edf_heads.specs.Comparisons.{Compared, AreSorted, HasOnly}
use Rattle.edf_heads.proofs.HeadFacts.{only_said}
use Rattle.edf_heads.proofs.comparison.Comparison.extra_channel.Goals as goal

pub returns : goal.returns
returns c =
    subst (λ (m : Compared). MatchOption c.least_extra.result (HasOnly m.export m.claim.channels) (λ label. IsLeastExtra m.export m.claim.channels label.now)) c.self.view_is
    (only_said c.self.inside.export c.self.inside.claim.now c.least_extra.result c.self.invariant.export_sound c.self.invariant.claim_sound
    (c.least_extra.ensures c.self.inside.claim.now.channels
    (subst (λ (ls : List (Bor (List ℕ))). AreSorted c.self.inside.claim.now.channels ls) (sym c.deref.ensures.value) c.self.invariant.labels_are)))
