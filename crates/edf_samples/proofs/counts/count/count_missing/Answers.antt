use Rattle.std.proofs.Common.{◌∙◌, ap, arith}
use Rattle.edf_verdict.specs.declared.verdict.SampleMismatch.TheVariants.{Missing}
use Rattle.edf_samples.specs.Tallies.{all_missing, joined}
use Rattle.edf_samples.proofs.FrontFacts.{rest_ended, rest_missing}
use Rattle.edf_samples.proofs.counts.count.count_missing.Goals as goal

pub returns-then-from-count_in : goal.returns-then-from-count_in
returns-then-from-count_in c =
    c.add_missing.ensures ∙ ap (joined c.args.tally.now) (ap all_missing c.alone_behind.ensures ∙ rest_missing c.args.x c.args.from)

pub returns-else-from-count_in : goal.returns-else-from-count_in
returns-else-from-count_in c = rest_ended Missing c.args.x c.args.from c.args.tally.now (omega (arith, c.if-from-count_in.false, c.count_in.ensures.all))
