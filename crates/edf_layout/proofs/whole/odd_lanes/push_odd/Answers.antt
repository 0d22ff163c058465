use Rattle.std.proofs.Common.{◌≡◌, ◌++◌, ◌==◌, List, map, ap, ◌∙◌, sym}
use Rattle.std.specs.Str.{bytes_eq}
use Rattle.std.proofs.lemmas.List.{map-append, append-nil}
use Rattle.edf_stream.specs.Views.{note_value}
use Rattle.edf_layout.specs.body.LaidTals.{laid_view}
use Rattle.edf_layout.specs.body.OddLanes.{tal_lines}
use Rattle.edf_layout.specs.body.PlainLanes.{plain_view}
use Rattle.edf_layout.specs.declared.laid_tal.LaidTal.{LaidTal}
use Rattle.edf_layout.specs.whole.LaneRows.{plainly_laid, odd_view, tals_at}
use Rattle.edf_layout.proofs.lanes.BareLaneFacts.{none_odd}
use Rattle.edf_layout.proofs.lanes.OddRowFacts.{odd-same, odd-other}
use Rattle.edf_layout.proofs.whole.odd_lanes.push_odd.Goals as goal

pub returns-in_ok-push : goal.returns-in_ok-push
returns-in_ok-push c = λ start size laid near h.
    let notes = map note_value c.args.notes.now in
    let keeps = c.args.lane.number == 0 in
    let plain = plainly_laid notes keeps (map (plain_view notes) (tals_at c.args.plain.now c.args.lane.number)) in
    let one : map laid_view c.in_ok-tals.tals.items ≡ laid =
    c.in_ok-tals.ensures start size laid near h in
    let two : map laid_view c.deref-2.result.now ≡ plain = ap (map laid_view) c.deref-2.ensures.value ∙ c.in_ok-expected.ensures in
    let same = c.in_ok-have_same_lines.ensures ∙ ap (λ (xs : List LaidTal). bytes_eq (tal_lines (map laid_view xs)) (tal_lines (map laid_view c.deref-2.result.now))) c.deref.ensures.value in
    ap (map odd_view) c.in_ok-push.ensures.items ∙ map-append odd_view c.args.odd.now.items _
    ∙ ap (λ xs. map odd_view c.args.odd.now.items ++ xs)
    (sym (odd-other c.args.lane.data_record c.args.lane.number laid plain (map laid_view c.in_ok-tals.tals.items) (map laid_view c.deref-2.result.now) c.in_ok-have_same_lines.field-0 one two same c.if-not-branch.true))

pub returns-else-not-branch : goal.returns-else-not-branch
returns-else-not-branch c = λ start size laid near h.
    let notes = map note_value c.args.notes.now in
    let keeps = c.args.lane.number == 0 in
    let plain = plainly_laid notes keeps (map (plain_view notes) (tals_at c.args.plain.now c.args.lane.number)) in
    let one : map laid_view c.in_ok-tals.tals.items ≡ laid =
    c.in_ok-tals.ensures start size laid near h in
    let two : map laid_view c.deref-2.result.now ≡ plain = ap (map laid_view) c.deref-2.ensures.value ∙ c.in_ok-expected.ensures in
    let same = c.in_ok-have_same_lines.ensures ∙ ap (λ (xs : List LaidTal). bytes_eq (tal_lines (map laid_view xs)) (tal_lines (map laid_view c.deref-2.result.now))) c.deref.ensures.value in
    sym (ap (λ xs. map odd_view c.args.odd.now.items ++ xs)
    (odd-same c.args.lane.data_record c.args.lane.number laid plain (map laid_view c.in_ok-tals.tals.items) (map laid_view c.deref-2.result.now) c.in_ok-have_same_lines.field-0 one two same c.if-not-branch.false)
    ∙ append-nil (map odd_view c.args.odd.now.items))

pub returns-then-are_bare : goal.returns-then-are_bare
returns-then-are_bare c = λ start size laid near h.
    let notes = map note_value c.args.notes.now in
    let keeps = c.args.lane.number == 0 in
    let plain = plainly_laid notes keeps (map (plain_view notes) (tals_at c.args.plain.now c.args.lane.number)) in
    sym (ap (λ xs. map odd_view c.args.odd.now.items ++ xs)
    (none_odd (λ bytes. bytes.now) notes c.args.lane.data_record c.args.lane.number c.args.lane.bytes plain start size laid c.if-is_none.ensures (c.are_bare.ensures c.if-are_bare.true notes) near h)
    ∙ append-nil (map odd_view c.args.odd.now.items))
