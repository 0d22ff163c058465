use mir.Syntax.{w128}
use mir.Val.{SFits}
use Rattle.std.proofs.Common.{rules, ℕ, ℤ, List, Option, ◌∙◌, map, ap}
use Rattle.std.proofs.lemmas.Int.{to_z-of_z}
use Rattle.edf_stream.specs.Views.{note_value}
use Rattle.edf_tal.specs.Views.{tal_view}
use Rattle.edf_layout.specs.body.LaidNotes.{note_with}
use Rattle.edf_layout.specs.body.NoteOrders.{place_of}
use Rattle.edf_layout.proofs.note_places.place_of_text.Goals as goal

pub returns : goal.returns
returns c =
    let among : ℤ → Option ℤ → List ℕ → ℕ = λ o d t. place_of (map note_value c.args.notes.now) (note_with o d t) in
    let fits : SFits w128 c.onset.result = search rules in
    (rw (to_z-of_z w128 c.onset.result fits) at c.place_of.ensures)
    ∙ ap (λ o. among o c.duration.result c.as_bytes.result.now) c.onset.ensures.value
    ∙ ap (λ d. among (tal_view c.args.tal.now).onset d c.as_bytes.result.now) c.duration.ensures.value
    ∙ ap (λ t. among (tal_view c.args.tal.now).onset (tal_view c.args.tal.now).duration t) c.as_bytes.ensures.value
