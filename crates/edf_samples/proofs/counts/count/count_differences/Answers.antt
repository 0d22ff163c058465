use Rattle.std.proofs.Common.{◌∙◌}
use Rattle.edf_samples.proofs.TallyFacts.{both_counted}
use Rattle.edf_samples.proofs.counts.count.count_differences.Goals as goal

pub returns : goal.returns
returns c =
    both_counted c.args.tally.now c.count_both-i.new.tally c.count_missing.new.tally c.count_extra.new.tally c.args.x c.args.y c.count_both-i.result.0 c.count_both-i.result.1
    c.count_both-i.ensures.over (c.count_both-i.ensures.value ∙ c.count_front-x_from.ensures.value) c.count_missing.ensures c.count_extra.ensures
