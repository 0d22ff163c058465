use Rattle.std.proofs.Common.{◌≡◌, ◌+◌, ◌-◌, ◌≤◌, ◌^◌, min, length}
use Rattle.edf_tal.specs.Views.{items_left}
use Rattle.edf_stream.specs.annotation.Keeping.{behind_time}
use Rattle.edf_stream.specs.annotation.NotesReading.{notes_of_items}
use Rattle.edf_stream.specs.Faults.{cause_of}
use Rattle.edf_stream.proofs.records.lanes.rest_texts.Given as goal

-- whoever gets the annotations that are left gets all
abbrev pub invariant-loop-item : goal.invariant-loop-item
invariant-loop-item g l = record {
  cause : cause_of (items_left l.item-iterator) ≡ cause_of (items_left l.fn.tals);
  count : min (l.texts + length (notes_of_items (items_left l.item-iterator))) (2 ^ 32 - 1) ≡ min (l.fn.count + length (notes_of_items (items_left l.fn.tals))) (2 ^ 32 - 1);
  few : l.texts ≤ 2 ^ 32 - 1;
  kept : l.texts ≤ l.most → (last : _) → g.K.NoteKeeper.got l.keeper (behind_time l.texts (notes_of_items (items_left l.item-iterator))) last
      → g.K.NoteKeeper.got l.fn.keeper (behind_time l.fn.count (notes_of_items (items_left l.fn.tals))) last;
}
