use Rattle.std.proofs.Common.{sym, ◌∙◌}
use Rattle.edf_tal.specs.Views.{items_left}
use Rattle.edf_layout.proofs.lanes.BareLaneFacts.{zeros_told, tals_told}
use Rattle.edf_layout.proofs.whole.kept_lane.has_zeros_alone.Goals as goal

pub returns-in-None : goal.returns-in-None
returns-in-None c = zeros_told c.args.lane.now (sym c.new.ensures.items ∙ c.in-None.ensures.steps.0)

pub returns-in-Some : goal.returns-in-Some
returns-in-Some c = tals_told c.args.lane.now _ (items_left c.next.new.self) (sym c.new.ensures.items ∙ c.in-Some.ensures.steps)
