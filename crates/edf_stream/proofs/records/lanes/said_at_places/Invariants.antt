use Rattle.std.proofs.Common.{◌≡◌, ◌+◌, ◌-◌, ◌<◌, ◌≤◌, ◌^◌, min, length, drop, IfSome, IfOk, unsigned_abs}
use Rattle.edf_stream.specs.annotation.Keeping.{behind_time}
use Rattle.edf_stream.specs.annotation.NotesReading.{notes_of_lanes}
use Rattle.edf_stream.specs.times.StartsReading.{start_by_lanes}
use Rattle.edf_stream.specs.Faults.{cause_of_lanes}
use Rattle.edf_stream.specs.Views.{start_with, texts_said, placed_lanes}
use Rattle.edf_stream.proofs.records.lanes.said_at_places.Given as goal

-- whoever gets the annotations that are left gets all
abbrev pub invariant-loop-place : goal.invariant-loop-place
invariant-loop-place g l = record {
  cause : cause_of_lanes (placed_lanes (drop l.place-index l.places) l.bytes) ≡ cause_of_lanes (placed_lanes l.places l.bytes);
  start : start_with l.found (placed_lanes (drop l.place-index l.places) l.bytes) ≡ start_by_lanes (placed_lanes l.places l.bytes);
  count : min (texts_said l.found + length (notes_of_lanes (placed_lanes (drop l.place-index l.places) l.bytes))) (2 ^ 32 - 1) ≡ min (length (notes_of_lanes (placed_lanes l.places l.bytes))) (2 ^ 32 - 1);
  few : texts_said l.found ≤ 2 ^ 32 - 1;
  small : IfSome l.found (λ s. IfOk s.start (λ v. unsigned_abs v < 10 ^ 21));
  kept : texts_said l.found ≤ l.most → (last : _) → g.K.NoteKeeper.got l.keeper (behind_time (texts_said l.found) (notes_of_lanes (placed_lanes (drop l.place-index l.places) l.bytes))) last
      → g.K.NoteKeeper.got l.fn.keeper (drop 1 (notes_of_lanes (placed_lanes l.places l.bytes))) last;
}
