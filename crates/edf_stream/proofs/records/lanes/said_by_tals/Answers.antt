use Rattle.std.proofs.Common.{◌≡◌, ◌≤◌, ◌∷◌, ◌++◌, Ok, ap, sym, ◌∙◌, subst, arith}
use Rattle.std.specs.Iterator.{YieldsFirstBy}
use Rattle.edf_tal.specs.Reading.{items_of}
use Rattle.edf_tal.specs.Views.{tal_view, item_view, items_left}
use Rattle.edf_stream.specs.annotation.Keeping.{behind_time}
use Rattle.edf_stream.specs.annotation.Notes.{notes_of_tal}
use Rattle.edf_stream.specs.annotation.NotesReading.{notes_of_items, notes_of_lane}
use Rattle.edf_stream.proofs.annotation.KeepFacts.{parts-behind}
use Rattle.edf_stream.proofs.records.lanes.said_by_tals.Goals as goal

pub returns-in_ok-texts-in-Some-clause-kept : goal.returns-in_ok-texts-in-Some-clause-kept
returns-in_ok-texts-in-Some-clause-kept g c = λ fits.
    let before = c.args.before in
    let count = c.keep_tal-count.result in
    let first = c.keep_tal-count.new.keeper in
    let last = c.rest_texts.new.keeper in
    let left = items_left c.next.new.self in
    let item = tal_view c.in_ok-item-in-Some.field-0 in
    let tal = notes_of_tal item in
    let few : count ≤ c.args.most = let n = c.in_ok-texts-in-Some.ensures.counted.1 in omega (arith, fits, n) in
    let some = subst (λ r. YieldsFirstBy item_view items_left c.new-tals.result r c.next.new.self) c.in-Some.is c.next.ensures.steps in
    let step : items_of c.args.lane.now ≡ Ok item ∷ left = sym c.new-tals.ensures.items ∙ some ∙ ap (λ item. item_view item ∷ left) c.in_ok-item-in-Some.was in
    let notes : notes_of_lane c.args.lane.now ≡ tal ++ notes_of_items left = ap notes_of_items step in
    subst (λ all. g.K.NoteKeeper.got c.args.keeper.now all last)
    (sym (ap (behind_time before) notes ∙ parts-behind before count tal (notes_of_items left) c.keep_tal-count.ensures.texts))
    (g.met.K.NoteKeeper.got_both c.args.keeper.now first last (behind_time before tal) (behind_time count (notes_of_items left))
    (c.keep_tal-count.ensures.kept few) (c.in_ok-texts-in-Some.ensures.kept fits))
