use Rattle.std.proofs.Common.{◌≡◌, ◌*◌, ◌-◌, take, drop, ap, refl, ◌∙◌, rules}
use Rattle.std.proofs.lemmas.Int.{to_z-of_z}
use mir.Val.{SFits}
use mir.Syntax.{w128}
use Rattle.edf_samples.specs.Stretches.{stretch_points, front_count, whole, since, until}
use Rattle.edf_samples.proofs.StretchFacts.{points-part, points-ascending}
use Rattle.edf_samples.proofs.CutFacts.{between_is}
use Rattle.edf_samples.proofs.between.part_by.Goals as goal

pub returns-clause-value : goal.returns-clause-value
returns-clause-value c = λ a w p sh.
    let n = c.args.share.now.samples in
    let b = c.args.share.now.begin in
    let e = c.args.share.now.end in
    let d = c.args.step in
    let lane = c.args.lane.now in
    let f : SFits w128 c.args.share.now.num = search rules in
    let g : SFits w128 d = search rules in
    let part : stretch_points c.args.share.now.num d (take (2 * e - 2 * b) (drop (2 * b) lane)) ≡ until n (w.to).ps (since n (w.from).ps (stretch_points a d lane)) =
    ap (λ z. stretch_points z d (take (2 * e - 2 * b) (drop (2 * b) lane))) sh.num
    ∙ points-part b e a d lane
    ∙ ap (λ k. take (k - b) (drop b (stretch_points a d lane))) (sh.end lane c.requires.lane)
    ∙ between_is n (w.from).ps (w.to).ps b (front_count n (stretch_points a d lane) (whole (w.to).ps)) (stretch_points a d lane) c.requires.some (points-ascending a d lane p) w.order (sh.begin lane c.requires.lane) refl in
    simp to_z-of_z part
