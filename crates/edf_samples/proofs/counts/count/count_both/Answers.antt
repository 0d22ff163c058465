use Rattle.std.proofs.Common.{◌≡◌, ◌+◌, ◌*◌, ◌<◌, ◌≤◌, not, Bool, true, false, MatchOption, Option, [], ◌∷◌, length, arith, ap, subst, sym, ◌∙◌}
use Rattle.std.specs.Int.{from_bool}
use Rattle.edf_samples.specs.declared.difference.PointDifference.{PointDifference}
use Rattle.edf_samples.specs.Tallies.{all_behind, joined, lacks_first, lacks_second, tally_of}
use Rattle.edf_samples.proofs.TallyFacts.{both_step}
use Rattle.edf_samples.proofs.counts.count.count_both.Goals.{in-Some, in-None}
use Rattle.edf_samples.proofs.counts.count.count_both.Goals as goal

one_at_most : (b : Bool) → from_bool b ≤ 1
one_at_most true = omega arith
one_at_most false = omega arith

pub loop-here-preserved : goal.loop-here-preserved
loop-here-preserved c =
    let inv = c.loop-here.invariant in
    let x = c.args.x in
    let y = c.args.y in
    let i = (c.loop-here.here).place in
    let j = (c.loop-here.there).place in
    let lx : 2 * i + 1 < length x.bytes.now = omega (arith, c.loop-here-test.true, c.count_in-x_count.ensures.within) in
    let ly : 2 * j + 1 < length y.bytes.now = omega (arith, c.if-there-y_count.true, c.count_in-y_count.ensures.within) in
    let found = c.difference_at-found.result in
    let More : Option PointDifference → Type 0 = λ o. MatchOption o (c.match-found.tally ≡ c.loop-here.tally) (λ d. c.match-found.tally ≡ joined c.loop-here.tally (tally_of (d ∷ []))) in
    let more : More found = elim c.match-found.branch [
      | in-Some w ↦ subst More (sym w.in-Some.is) (w.tally-is ∙ w.add_one.ensures)
      | in-None w ↦ subst More (sym w.in-None.is) w.tally-is
    ]
    in
    let same : c.match-found.found ≡ found = elim c.match-found.branch [ in-Some w ↦ w.found-is ∙ sym w.in-Some.is | in-None w ↦ w.found-is ] in
    let ei : (c.head_behind-here.result).place ≡ i + from_bool (not (lacks_first found)) =
    c.head_behind-here.ensures.place ∙ ap (λ b. i + from_bool (not b)) (c.is_extra.ensures ∙ ap lacks_first same) in
    let ej : (c.head_behind-there.result).place ≡ j + from_bool (not (lacks_second found)) =
    c.head_behind-there.ensures.place ∙ ap (λ b. j + from_bool (not b)) (c.is_missing.ensures ∙ ap lacks_second same) in
    let li = one_at_most (not (lacks_first found)) in
    let lj = one_at_most (not (lacks_second found)) in
    record {
      x_head = c.head_behind-here.ensures.value;
      y_head = c.head_behind-there.ensures.value;
      x_within = omega (arith, c.loop-here-test.true, ei, li);
      y_within = omega (arith, c.if-there-y_count.true, ej, lj);
      value = ap (λ k. joined c.match-found.tally (tally_of (all_behind x k y (c.head_behind-there.result).place))) ei
          ∙ ap (λ k. joined c.match-found.tally (tally_of (all_behind x (i + from_bool (not (lacks_first found))) y k))) ej
          ∙ both_step c.loop-here.tally c.match-found.tally x y i j found lx ly c.difference_at-found.ensures more ∙ inv.value;
    }
