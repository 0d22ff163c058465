use Rattle.std.proofs.Common.{◌≡◌, ◌∙◌, ◌++◌, ◌+ℤ◌, sym, ap, map, arith}
use Rattle.std.specs.Option.{option_map}
use Rattle.std.proofs.lemmas.Int.{ints}
use Rattle.edf_stream.specs.times.Starts.{file_start}
use Rattle.edf_stream.specs.Views.{note_value}
use Rattle.edf_pace.specs.declared.walk.gather.Delay.{Delay}
use Rattle.edf_pace.specs.walk.Gathered.{claim_of, gathered_in}
use Rattle.edf_pace.proofs.walk.KeeperFacts.{gathered-more, where-none}
use Rattle.edf_pace.proofs.walk.reading.gather_next.Goals as goal

pub returns-then-gathering-clause-gathered : goal.returns-then-gathering-clause-gathered
returns-then-gathering-clause-gathered g c =
    let ok = c.in-Ok-None.ensures in
    let made = c.new-gathering.ensures in
    let claim = claim_of c.args.view in
    let ps = (c.args.view.moved).ps in
    let new = c.go_on.new.reader in
    let sum = ap (λ (d : Delay). d.ps) made.by in
    let value = c.file_start_ps.ensures.value in
    let small = c.file_start_ps.ensures.small in
    let near = (c.args.view.moved).near in
    let head = ap (λ (r : _). file_start r) c.header.ensures in
    let by : c.new-gathering.result.by.ps ≡ file_start c.args.reading.now.reader.head +ℤ ps = omega (arith, ints, sum, value, small, near, head) in
    gathered-more claim ps new c.new-gathering.result c.go_on.new.keeper (ap (option_map (λ c. c.now)) made.claim)
    (by ∙ ap (λ (h : _). file_start h +ℤ ps) (sym c.go_on.ensures.head)) c.if-gathering.true
    (where-none c.in-Ok-None.field-0 _ c.in-Ok-None.field-0-is ok.kept) (where-none c.in-Ok-None.field-0 _ c.in-Ok-None.field-0-is ok.none)
    ∙ ap (λ (v : _). map note_value v.items ++ gathered_in claim ps new) (made.notes ∙ c.replace-notes.ensures.value)
