use mir.Syntax.{w128}
use mir.Val.{to_z, of_z}
use Rattle.std.proofs.Common.{◌≡◌, rules, sym, ap, ◌∙◌, subst}
use Rattle.std.proofs.lemmas.Int.{to_z-of_z}
use Rattle.edf_tal.specs.Timekeeping.{IsTimeAlone}
use Rattle.edf_layout.proofs.lanes.BareLaneFacts.{alone_told, other_told, none_told}
use Rattle.edf_layout.proofs.whole.kept_lane.keeps_time_alone.Goals as goal

pub returns : goal.returns
returns c =
    let same : c.in-Some.onset ≡ c.args.start = sym (to_z-of_z w128 c.in-Some.onset (search rules)) ∙ ap (to_z w128) c.if-onset-start.false ∙ to_z-of_z w128 c.args.start (search rules) in
    alone_told c.args.lane.now c.args.start c.has_plain_onset.result c.requires (subst (IsTimeAlone c.args.lane.now) same c.in-Some.ensures.alone) c.has_plain_onset.ensures

pub returns-then-onset-start : goal.returns-then-onset-start
returns-then-onset-start c = other_told c.args.lane.now c.args.start c.in-Some.onset c.requires c.in-Some.ensures.alone (λ e. c.if-onset-start.true (ap (of_z w128) e))

pub returns-in_default : goal.returns-in_default
returns-in_default c = none_told c.args.lane.now c.args.start c.requires c.in_default.ensures.alone
