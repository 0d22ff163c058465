use Rattle.std.proofs.Common.{◌≡◌, ◌++◌, map}
use Rattle.edf_stream.specs.Views.{note_value}
use Rattle.edf_tal.specs.Views.{tal_view, texts_left}
use Rattle.edf_layout.specs.body.BodyLayouts.{note_places}
use Rattle.edf_layout.proofs.note_places.places_of.Given as goal

abbrev pub invariant-loop-text : goal.invariant-loop-text
invariant-loop-text l =
    l.places.items ++ note_places (map note_value l.notes) (tal_view l.tal).onset (tal_view l.tal).duration (texts_left l.text-iterator)
    ≡ note_places (map note_value l.notes) (tal_view l.tal).onset (tal_view l.tal).duration (texts_left (l.fn).texts)
