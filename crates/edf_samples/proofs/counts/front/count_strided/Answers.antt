use Rattle.std.proofs.Common.{◌≡◌, ◌*◌, ◌<◌, ◌∙◌, cond, nat_lt, length, map, filter, arith, refl, ap, Some}
use Rattle.std.specs.List.{range_with_len}
use Rattle.std.specs.Option.{option_or}
use Rattle.edf_samples.specs.declared.counts.places.Places.{Places}
use Rattle.edf_samples.specs.declared.counts.tally.Tally.{Tally}
use Rattle.edf_samples.specs.Others.{values_differ_at}
use Rattle.edf_samples.specs.Tallies.{change, counted}
use Rattle.edf_samples.proofs.rates.NumberFacts.{some_within}
use Rattle.edf_samples.proofs.rates.StrideFacts.{begins_apart, strided_counted}
use Rattle.edf_samples.proofs.TallyFacts.{kinds_joined}
use Rattle.edf_samples.proofs.counts.front.count_strided.Goals as goal

pub add_changes-requires-clause-first_here : goal.add_changes-requires-clause-first_here
add_changes-requires-clause-first_here c =
    let w = c.args.whole.now in
    some_within c.numbers_at-numbers.result (λ (p : Places). p.first) (w.strides).here w.count (length c.args.x.bytes.now) (c.requires.whole).strides.some_here (c.requires.whole).here c.numbers_at-numbers.ensures.first

pub add_changes-requires-clause-last_here : goal.add_changes-requires-clause-last_here
add_changes-requires-clause-last_here c =
    let w = c.args.whole.now in
    some_within c.numbers_at-numbers.result (λ (p : Places). p.last) (w.strides).here w.count (length c.args.x.bytes.now) (c.requires.whole).strides.some_here (c.requires.whole).here c.numbers_at-numbers.ensures.last

pub add_changes-requires-clause-first_there : goal.add_changes-requires-clause-first_there
add_changes-requires-clause-first_there c =
    let w = c.args.whole.now in
    some_within c.numbers_at-numbers.result (λ (p : Places). p.first) (w.strides).there w.count (length c.args.y.bytes.now) (c.requires.whole).strides.some_there (c.requires.whole).there c.numbers_at-numbers.ensures.first

pub add_changes-requires-clause-last_there : goal.add_changes-requires-clause-last_there
add_changes-requires-clause-last_there c =
    let w = c.args.whole.now in
    some_within c.numbers_at-numbers.result (λ (p : Places). p.last) (w.strides).there w.count (length c.args.y.bytes.now) (c.requires.whole).strides.some_there (c.requires.whole).there c.numbers_at-numbers.ensures.last

pub returns-clause-value : goal.returns-clause-value
returns-clause-value c =
    let x = c.args.x in
    let y = c.args.y in
    let w = c.args.whole.now in
    let whole = c.requires.whole in
    let p = (w.strides).here in
    let q = (w.strides).there in
    let px : 0 < x.den = omega (arith, c.requires.x) in
    let py : 0 < y.den = omega (arith, c.requires.y) in
    let test = values_differ_at p q x.bytes.now y.bytes.now in
    let changed = counted (map (λ k. change x (p * k) y (q * k)) (filter test (range_with_len 0 w.count))) in
    let a = c.args.tally.now in
    let alone = cond (nat_lt q p) w.missing.first w.extra.first in
    let first = cond (test 0) (Some (change x 0 y 0)) alone in
    let t : Tally = record { missing = w.missing; extra = w.extra; changed = changed; first = first } in
    let kept : c.keep_first_apart.new.first ≡ option_or a.first first =
    c.keep_first_apart.ensures ∙ ap (λ b. option_or a.first (cond b (Some (change x 0 y 0)) alone)) (begins_apart p q x.bytes.now y.bytes.now) in
    strided_counted a _ t changed w.missing w.extra x y p q w.count px py whole.start whole.strides whole.some whole.here whole.there
    refl whole.missing whole.extra refl
    (kinds_joined a t c.add.new.self c.add-2.new.self c.add_changes.new.changed c.keep_first_apart.new.first c.add.ensures c.add-2.ensures (c.add_changes.ensures test w.count c.numbers_at-numbers.ensures.value) kept)
