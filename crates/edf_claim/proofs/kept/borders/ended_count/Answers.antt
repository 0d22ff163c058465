use Rattle.std.proofs.Common.{rules, of_calls, int_le}
use Rattle.std.proofs.lemmas.Fn.{always_returns_same}
use Rattle.edf_claim.proofs.BorderFacts.{ends_rise}
use Rattle.edf_claim.proofs.kept.borders.ended_count.Goals as goal

pub returns-clause-point : goal.returns-clause-point
returns-clause-point c =
    c.partition_point.ensures.partitioned (λ i. int_le i.to_ps c.args.time.ps) (always_returns_same _ _ _ (λ a r f k. search (rules, of_calls))) (ends_rise c.args.intervals.now c.args.time.ps c.requires.kept)
