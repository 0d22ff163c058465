use Rattle.std.proofs.Common.{◌∙◌, ap, arith}
use Rattle.edf_verdict.specs.declared.verdict.SampleMismatch.TheVariants.{Extra}
use Rattle.edf_samples.specs.Tallies.{all_extra, joined}
use Rattle.edf_samples.proofs.FrontFacts.{rest_ended, rest_extra}
use Rattle.edf_samples.proofs.counts.count.count_extra.Goals as goal

pub returns-then-from-count_in : goal.returns-then-from-count_in
returns-then-from-count_in c =
    c.add_extra.ensures ∙ ap (joined c.args.tally.now) (ap all_extra c.alone_behind.ensures ∙ rest_extra c.args.y c.args.from)

pub returns-else-from-count_in : goal.returns-else-from-count_in
returns-else-from-count_in c = rest_ended Extra c.args.y c.args.from c.args.tally.now (omega (arith, c.if-from-count_in.false, c.count_in.ensures.all))
