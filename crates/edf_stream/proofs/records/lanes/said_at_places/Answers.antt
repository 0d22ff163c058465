use Rattle.std.proofs.Common.{◌≡◌, ◌≤◌, ◌+◌, ◌-◌, ◌^◌, ◌∷◌, min, length, map, drop, ap, sym, ◌∙◌, subst, refl, arith}
use Rattle.std.proofs.lemmas.List.{drop_more}
use Rattle.edf_stream.specs.annotation.Keeping.{behind_time}
use Rattle.edf_stream.specs.annotation.NotesReading.{notes_of_lane, notes_of_lanes}
use Rattle.edf_fields.specs.Tests.{first}
use Rattle.edf_tal.specs.Reading.{items_of}
use Rattle.edf_stream.specs.Views.{placed_lanes, start_with, texts_said}
use Rattle.edf_stream.specs.Faults.{cause_of, cause_of_lanes}
use Rattle.edf_stream.proofs.annotation.KeepFacts.{parts-behind, parts-counted, start-with}
use Rattle.edf_stream.proofs.records.lanes.said_at_places.Goals as goal

pub loop-place-init : goal.loop-place-init
loop-place-init g c = record {
  cause = refl;
  start = refl;
  count = omega arith;
  few = omega arith;
  small = tt;
  kept = λ fits last k. k;
}

pub loop-place-preserved : goal.loop-place-preserved
loop-place-preserved g c =
    let old = c.loop-place in
    let had = old.invariant in
    let bytes = c.args.bytes.now in
    let places = c.args.places.now in
    let lane = c.placed_lane.result.now in
    let rest = placed_lanes (drop (old.place-index + 1) places) bytes in
    let step : placed_lanes (drop old.place-index places) bytes ≡ lane ∷ rest = ap (λ left. placed_lanes left bytes) (drop_more places old.place-index _ c.loop-place-test.true)
    ∙ ap (λ x. x ∷ rest) (sym c.placed_lane.ensures) in
    let notes = ap notes_of_lanes step in
    let said = c.in_ok-said.ensures.said in
    let texts = c.said_with.result.texts in
    let before = texts_said old.found in
    let counted : texts ≡ min (before + length (notes_of_lane lane)) (2 ^ 32 - 1) = c.said_with.ensures.texts ∙ said.2 ∙ ap (λ n. min (n + length (notes_of_lane lane)) (2 ^ 32 - 1)) c.texts_of.ensures in
    let kept : texts ≤ c.args.most → g.K.NoteKeeper.got old.keeper (behind_time before (notes_of_lane lane)) c.said_by_lane.new.keeper =
    λ fits. subst (λ n. g.K.NoteKeeper.got old.keeper (behind_time n (notes_of_lane lane)) c.said_by_lane.new.keeper) c.texts_of.ensures
    (c.in_ok-said.ensures.kept (let e = c.said_with.ensures.texts in omega (arith, e, fits))) in
    record {
      cause = sym (ap (λ cause. first (cause ∷ map (λ x. cause_of (items_of x)) rest)) said.0) ∙ sym (ap cause_of_lanes step) ∙ had.cause;
      start = start-with old.found lane rest c.said_with.result c.in_ok-said.said c.said_with.ensures.first c.said_with.ensures.later said.1
          ∙ sym (ap (start_with old.found) step) ∙ had.start;
      count = parts-counted before texts (notes_of_lane lane) (notes_of_lanes rest) counted
          ∙ ap (λ all. min (before + length all) (2 ^ 32 - 1)) (sym notes) ∙ had.count;
      few = omega (arith, counted);
      small = c.said_with.ensures.small;
      kept = λ fits last behind. had.kept (omega (arith, counted, fits)) last
          (subst (λ all. g.K.NoteKeeper.got old.keeper all last) (sym (ap (behind_time before) notes ∙ parts-behind before texts (notes_of_lane lane) (notes_of_lanes rest) counted))
          (g.met.K.NoteKeeper.got_both old.keeper c.said_by_lane.new.keeper last (behind_time before (notes_of_lane lane)) (behind_time texts (notes_of_lanes rest)) (kept fits) behind));
    }
