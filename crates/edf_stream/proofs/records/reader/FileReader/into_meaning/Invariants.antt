use Rattle.std.proofs.Common.{◌≡◌, ◌-◌, ℕ, List, map, IsTrue}
use Rattle.std.specs.List.{All}
use Rattle.edf_stream.specs.times.InstantOrder.{IsSmall}
use Rattle.edf_stream.specs.annotation.NotesReading.{moved_notes_before}
use Rattle.edf_stream.specs.records.Readers.{IsOpen, StandsIn}
use Rattle.edf_stream.specs.samples.SamplesReading.{samples_before}
use Rattle.edf_stream.specs.Views.{note_value, IsNear}
use Rattle.edf_stream.proofs.records.reader.FileReader.into_meaning.Given as goal

abbrev pub invariant-loop-meaning : goal.invariant-loop-meaning
invariant-loop-meaning g l = record {
  going : IsOpen (l.reader).status;
  head : (l.reader).head ≡ (l.fn.self).head;
  failures : g.S.Source.reads l.source ≡ g.S.Source.reads l.fn.source;
  honesty : IsTrue (g.S.Source.is_honest l.fn.source) → IsTrue (g.S.Source.is_honest l.source);
  gathered : IsTrue (g.S.Source.is_honest l.fn.source) → (file : List ℕ) → StandsIn l.fn.self (g.S.Source.left l.fn.source) file
      → StandsIn l.reader (g.S.Source.left l.source) file
      × (l.meaning.samples.items ≡ samples_before file (l.reader).head (l.reader).read)
      × (map note_value l.meaning.notes.items ≡ moved_notes_before file (l.reader).head (l.reader).read);
  small : All (λ x. IsSmall x.instant) l.meaning.samples.items;
  near : All IsNear l.meaning.notes.items;
}

abbrev pub decreases-loop-meaning : goal.decreases-loop-meaning
decreases-loop-meaning g l = ((l.reader).head).records - (l.reader).read
