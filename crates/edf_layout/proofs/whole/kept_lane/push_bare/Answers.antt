use Rattle.std.proofs.Common.{rules, ◌∙◌}
use Rattle.edf_layout.proofs.reading.KeptFacts.{bare-noted}
use Rattle.edf_layout.proofs.whole.kept_lane.push_bare.Goals as goal

pub loop-lanes-preserved : goal.loop-lanes-preserved
loop-lanes-preserved c = record {
  few = search rules;
  same = λ start sizes long.
      bare-noted start sizes c.args.count c.loop-lanes.lanes.items c.push.new.self.items long (search rules) c.in_ok-push.ensures.items ∙ c.loop-lanes.invariant.same start sizes long;
}
