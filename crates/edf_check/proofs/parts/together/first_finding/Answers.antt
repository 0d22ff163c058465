use Rattle.std.proofs.Common.{ℤ, List, Some, None, refl, sym, subst, map}
use Rattle.edf_stream.specs.Views.{note_value}
use Rattle.edf_verdict.specs.declared.verdict.SampleMismatch.{SampleMismatch}
use Rattle.edf_check.specs.Courses.{IsFirstMismatch}
use Rattle.edf_check.specs.KeptReading.{KeptAt}
use Rattle.edf_check.specs.parts.Parts.{ExportedByOne}
use Rattle.edf_stream.specs.annotation.Notes.{NoteValue}
use Rattle.edf_pace.specs.notes.NoteOrder.{IsNoteDifference}
use Rattle.edf_check.proofs.parts.TogetherFacts.{found_as, nothing_found, of_head}
use Rattle.edf_check.proofs.parts.together.first_finding.Goals as goal

pub returns-in-Some-clause-value : goal.returns-in-Some-clause-value
returns-in-Some-clause-value c = λ o parts judged.
    let found = found_as o parts c.args.setting (map note_value c.args.kept.now.items) c.args.exported.now c.args.found (Some c.in-Some.heads) c.args.found.early c.args.found.found c.in-Some.is refl refl judged in
    of_head o parts (c.args.setting.claim).now c.in-Some.heads.part c.in-Some.heads.verdict found

pub returns-in-Some-found-clause-value : goal.returns-in-Some-found-clause-value
returns-in-Some-found-clause-value c = λ o parts judged.
    let found = found_as o parts c.args.setting (map note_value c.args.kept.now.items) c.args.exported.now c.args.found None None (Some c.in-Some-found.found) c.in_default.is c.in_default-early.is c.in-Some-found.is judged in
    let sample = c.in_ok-sample.sample in
    let M : ℤ → SampleMismatch → Type 0 = IsFirstMismatch (KeptAt o (c.args.setting.claim).now) (ExportedByOne o parts (c.args.setting.claim).now) sample.label in
    (refl, found.0, subst (M sample.at_ps) (sym c.in_ok-sample.ensures.mismatch) (subst (λ at. M at c.in-Some-found.found.difference.mismatch) (sym c.in_ok-sample.ensures.at_ps) (found.1 sample.label c.in_ok-sample.ensures.label)))

pub returns-in-None-clause-value : goal.returns-in-None-clause-value
returns-in-None-clause-value c = λ o parts judged.
    let found = found_as o parts c.args.setting (map note_value c.args.kept.now.items) c.args.exported.now c.args.found None None None c.in_default.is c.in_default-early.is c.in_default-found.is judged in
    let notes : List NoteValue = map note_value (c.args.exported.now.notes).items in
    let same = subst (IsNoteDifference (map note_value c.args.kept.now.items) notes) c.in-None.is c.in_ok-note.ensures.value in
    nothing_found o parts (c.args.setting.claim).now (map (λ label. label.now) (c.args.setting.labels).now) (map note_value c.args.kept.now.items) (c.args.exported.now.notes).items c.args.exported.now.samples found same judged.samples_are
