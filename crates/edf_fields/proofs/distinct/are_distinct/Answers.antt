use Rattle.edf_fields.proofs.DistinctFacts.{distinct_said}
use Rattle.edf_fields.proofs.distinct.are_distinct.Goals as goal

pub returns-clause-distinct : goal.returns-clause-distinct
returns-clause-distinct c = distinct_said c.args.texts.now c.sort_unstable.new.self c.neighbours_differ.result c.sort_unstable.ensures.permutation c.neighbours_differ.ensures
