use Rattle.std.proofs.Common.{subst, MatchOption}
use Rattle.edf_heads.specs.Channels.{AllAlike}
use Rattle.edf_heads.specs.ChannelTexts.{HaveSameTexts}
use Rattle.edf_heads.specs.differences.TextDifference.{IsTextDifference}
use Rattle.edf_heads.specs.Comparisons.{Compared}
use Rattle.edf_heads.proofs.ContentFacts.{texts_said}
use Rattle.edf_heads.proofs.comparison.Comparison.text_difference.Goals as goal

pub returns : goal.returns
returns c =
    subst (λ (m : Compared). MatchOption c.first_text_difference.result (AllAlike HaveSameTexts m.original m.export m.claim) (λ d. IsTextDifference m.original m.export m.claim d.label.now d.field)) c.self.view_is
    (texts_said c.self.inside.original.now c.self.inside.export c.self.inside.claim.now c.self.inside.claimed.items c.self.inside.labels.items c.deref.result.now c.first_text_difference.result c.self.invariant c.deref.ensures.value c.first_text_difference.ensures)
