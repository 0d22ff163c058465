use Rattle.std.proofs.Common.{◌≡◌, ◌+◌, ◌-◌, ◌^◌, min, [], ◌∷◌, ◌++◌, Ok, ap, sym, ◌∙◌, subst, length, arith}
use Rattle.edf_tal.specs.Views.{tal_view, item_view, items_left}
use Rattle.edf_stream.specs.annotation.Keeping.{behind_time}
use Rattle.edf_stream.specs.annotation.Notes.{notes_of_tal}
use Rattle.edf_stream.specs.annotation.NotesReading.{notes_of_items}
use Rattle.edf_stream.specs.Faults.{cause_of}
use Rattle.edf_stream.proofs.annotation.KeepFacts.{parts-behind, parts-counted, none-behind}
use Rattle.edf_stream.proofs.records.lanes.rest_texts.Goals as goal

pub loop-item-preserved : goal.loop-item-preserved
loop-item-preserved g c =
    let before = c.loop-item.invariant in
    let tal = notes_of_tal (tal_view c.in_ok-tal.tal) in
    let rest = notes_of_items (items_left c.next.new.self) in
    let texts = c.keep_tal-texts.result in
    let step : items_left c.loop-item.item-iterator ≡ Ok (tal_view c.in_ok-tal.tal) ∷ items_left c.next.new.self =
    c.in-Some.ensures.steps ∙ ap (λ item. item_view item ∷ items_left c.next.new.self) c.in_ok-tal.was in
    let notes : notes_of_items (items_left c.loop-item.item-iterator) ≡ tal ++ rest = ap notes_of_items step in
    record {
      cause = sym (ap cause_of step) ∙ before.cause;
      count = parts-counted c.loop-item.texts texts tal rest c.keep_tal-texts.ensures.texts
          ∙ ap (λ all. min (c.loop-item.texts + length all) (2 ^ 32 - 1)) (sym notes) ∙ before.count;
      few = let n = c.keep_tal-texts.ensures.texts in omega (arith, n);
      kept = λ fits last behind. before.kept (let n = c.keep_tal-texts.ensures.texts in omega (arith, n, fits)) last
          (subst (λ all. g.K.NoteKeeper.got c.loop-item.keeper all last) (sym (ap (behind_time c.loop-item.texts) notes ∙ parts-behind c.loop-item.texts texts tal rest c.keep_tal-texts.ensures.texts))
          (g.met.K.NoteKeeper.got_both c.loop-item.keeper c.keep_tal-texts.new.keeper last (behind_time c.loop-item.texts tal) (behind_time texts rest) (c.keep_tal-texts.ensures.kept fits) behind));
    }

pub returns-clause-counted : goal.returns-clause-counted
returns-clause-counted g c =
    let none : items_left c.loop-item.item-iterator ≡ [] = c.in-None.ensures.steps.0 in
    let empty : length (notes_of_items (items_left c.loop-item.item-iterator)) ≡ 0 = ap (λ items. length (notes_of_items items)) none in
    let count = c.loop-item.invariant.count in
    let few = c.loop-item.invariant.few in
    (sym c.loop-item.invariant.cause ∙ ap cause_of none, omega (arith, empty, count, few))

pub returns-clause-kept : goal.returns-clause-kept
returns-clause-kept g c = λ fits.
    let none : items_left c.loop-item.item-iterator ≡ [] = c.in-None.ensures.steps.0 in
    let last = c.loop-item.keeper in
    let empty = ap (λ items. behind_time c.loop-item.texts (notes_of_items items)) none ∙ none-behind c.loop-item.texts in
    c.loop-item.invariant.kept fits last (subst (λ notes. g.K.NoteKeeper.got last notes last) (sym empty) (g.met.K.NoteKeeper.got_none last))
