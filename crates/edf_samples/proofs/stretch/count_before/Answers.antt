use Rattle.std.proofs.Common.{◌≤◌, sym, arith, rules}
use Rattle.std.proofs.lemmas.Int.{ints, to_z-of_z}
use mir.Val.{SFits}
use mir.Syntax.{w128}
use Rattle.edf_samples.proofs.StretchFacts.{count-all, count-some, steps-within}
use Rattle.edf_samples.proofs.stretch.count_before.Goals as goal

pub returns-then-distance-gap-clause-value : goal.returns-then-distance-gap-clause-value
returns-then-distance-gap-clause-value c =
    let s = c.args.stretch in
    let f : SFits w128 c.gap_before-gap.result = search rules in
    let g : SFits w128 s.step = search rules in
    let h : SFits w128 c.distance.result = search rules in
    let reached = simp to_z-of_z at c.if-distance-gap.true in
    let value = simp to_z-of_z at c.distance.ensures.value in
    sym (count-all s.den c.count_in-count.result s.num s.step c.args.time.ps c.gap_before-gap.result s.bytes.now c.requires.stretch.1 c.gap_before-gap.ensures.value (omega (arith, ints)) c.count_in-count.ensures.within c.count_in-count.ensures.all)

pub overflow_cast-result : goal.overflow_cast-result
overflow_cast-result c =
    let s = c.args.stretch in
    let f : SFits w128 c.gap_before-gap.result = search rules in
    let g : SFits w128 s.step = search rules in
    let h : SFits w128 c.distance.result = search rules in
    let ahead = simp to_z-of_z at c.if-gap-le0.false in
    let short = simp to_z-of_z at c.if-distance-gap.false in
    let value = simp to_z-of_z at c.distance.ensures.value in
    let gv = simp to_z-of_z at c.unsigned_abs.ensures.value in
    let sv = simp to_z-of_z at c.unsigned_abs-2.ensures.value in
    let le : c.steps_below.result ≤ c.count_in-count.result =
    steps-within c.count_in-count.result c.steps_below.result s.step c.gap_before-gap.result c.requires.stretch.1 (omega (arith, ints)) (rw (← gv, ← sv) c.steps_below.ensures.last) (omega (arith, ints)) in
    search rules

pub returns-clause-within : goal.returns-clause-within
returns-clause-within c =
    let s = c.args.stretch in
    let f : SFits w128 c.gap_before-gap.result = search rules in
    let g : SFits w128 s.step = search rules in
    let h : SFits w128 c.distance.result = search rules in
    let ahead = simp to_z-of_z at c.if-gap-le0.false in
    let short = simp to_z-of_z at c.if-distance-gap.false in
    let value = simp to_z-of_z at c.distance.ensures.value in
    let gv = simp to_z-of_z at c.unsigned_abs.ensures.value in
    let sv = simp to_z-of_z at c.unsigned_abs-2.ensures.value in
    let within = c.count_in-count.ensures.within in
    let le : c.steps_below.result ≤ c.count_in-count.result =
    steps-within c.count_in-count.result c.steps_below.result s.step c.gap_before-gap.result c.requires.stretch.1 (omega (arith, ints)) (rw (← gv, ← sv) c.steps_below.ensures.last) (omega (arith, ints)) in
    omega (arith, le, within)

pub returns-clause-value : goal.returns-clause-value
returns-clause-value c =
    let s = c.args.stretch in
    let f : SFits w128 c.gap_before-gap.result = search rules in
    let g : SFits w128 s.step = search rules in
    let h : SFits w128 c.distance.result = search rules in
    let ahead = simp to_z-of_z at c.if-gap-le0.false in
    let short = simp to_z-of_z at c.if-distance-gap.false in
    let value = simp to_z-of_z at c.distance.ensures.value in
    let gv = simp to_z-of_z at c.unsigned_abs.ensures.value in
    let sv = simp to_z-of_z at c.unsigned_abs-2.ensures.value in
    let le : c.steps_below.result ≤ c.count_in-count.result =
    steps-within c.count_in-count.result c.steps_below.result s.step c.gap_before-gap.result c.requires.stretch.1 (omega (arith, ints)) (rw (← gv, ← sv) c.steps_below.ensures.last) (omega (arith, ints)) in
    sym (count-some s.den c.count_in-count.result c.steps_below.result s.num s.step c.args.time.ps c.gap_before-gap.result s.bytes.now c.requires.stretch.1 c.gap_before-gap.ensures.value (omega (arith, ints)) le
    (rw (← gv, ← sv) c.steps_below.ensures.last) (rw (← gv, ← sv) c.steps_below.ensures.next) c.count_in-count.ensures.within c.count_in-count.ensures.all)
