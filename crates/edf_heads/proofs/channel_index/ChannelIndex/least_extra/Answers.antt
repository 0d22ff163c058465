use Rattle.std.proofs.Common.{subst, MatchOption}
use Rattle.edf_header.specs.Heads.{Head}
use Rattle.edf_heads.specs.differences.ChannelDifferences.{IsLeastExtra}
use Rattle.edf_heads.specs.Comparisons.{HasNoExtra}
use Rattle.edf_heads.proofs.ComparisonFacts.{extra_said}
use Rattle.edf_heads.proofs.channel_index.ChannelIndex.least_extra.Goals as goal

pub returns : goal.returns
returns c = λ labels is.
    subst (λ (h : Head). MatchOption c.least_other.result (HasNoExtra h labels) (λ label. IsLeastExtra h labels label.now)) c.self.view_is
    (extra_said c.self.inside.header.now c.self.inside.sorted.items c.deref.result.now c.args.claimed.now c.least_other.result labels c.self.invariant c.deref.ensures.value is c.least_other.ensures)
