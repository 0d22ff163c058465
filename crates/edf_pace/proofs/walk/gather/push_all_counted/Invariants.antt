use Rattle.std.proofs.Common.{◌≡◌, ◌++◌, map, option_map}
use Rattle.edf_stream.specs.annotation.Keeping.{tal_notes_left}
use Rattle.edf_stream.specs.Views.{note_value}
use Rattle.edf_pace.specs.walk.Gathered.{gathered_of}
use Rattle.edf_pace.proofs.walk.gather.push_all_counted.Given as goal

abbrev pub invariant-loop-note : goal.invariant-loop-note
invariant-loop-note l =
    map note_value l.notes.items ++ gathered_of (option_map (λ c. c.now) l.claim) l.by.ps (tal_notes_left l.note-iterator)
    ≡ map note_value (l.initial.notes).items ++ gathered_of (option_map (λ c. c.now) l.claim) l.by.ps (tal_notes_left (l.fn).annotations)
