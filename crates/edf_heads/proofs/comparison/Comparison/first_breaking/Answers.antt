use Rattle.std.proofs.Common.{subst, MatchOption}
use Rattle.edf_heads.specs.Comparisons.{Compared, Breaks, Keep}
use Rattle.edf_heads.specs.Firsts.{IsFirstWith}
use Rattle.edf_heads.proofs.KindFacts.{rule_said}
use Rattle.edf_heads.proofs.comparison.Comparison.first_breaking.Goals as goal

pub returns : goal.returns
returns c =
    subst (λ (m : Compared). MatchOption c.first_breaking.result (Keep c.args.rule m) (λ label. IsFirstWith (Breaks c.args.rule m) m.claim.channels label.now)) c.self.view_is
    (rule_said c.args.rule (record { original = c.self.inside.original.now; export = c.self.inside.export; claim = c.self.inside.claim.now }) c.self.inside.claimed.items c.self.inside.labels.items c.deref.result.now c.first_breaking.result c.self.invariant c.deref.ensures.value c.first_breaking.ensures)
