use Rattle.std.proofs.Common.{map, None, Some, sym, subst}
use Rattle.edf_stream.specs.Views.{note_value}
use Rattle.edf_pace.specs.Annotations.{IsFirstNote}
use Rattle.edf_pace.specs.notes.NoteOrder.{NoteMismatch, unequal_view}
use Rattle.edf_pace.proofs.notes.NoteOrderFacts.{behind-permuted, found-behind}
use Rattle.edf_pace.proofs.notes.note_difference.note_difference.Goals as goal

pub returns-in_ok-with_text-in-Some-clause-value : goal.returns-in_ok-with_text-in-Some-clause-value
returns-in_ok-with_text-in-Some-clause-value c =
    let kept = c.args.kept.now.items in
    let exported = c.args.exported.now.items in
    let first = found-behind kept exported c.deref.result.now c.deref-2.result.now c.deref-3.result.now c.deref-4.result.now c.sort_notes.new.notes.items c.sort_notes-2.new.notes.items
    c.same_front-same.result (Some (unequal_view c.in-Some.unequal)) c.deref.ensures.value c.deref-2.ensures.value c.deref-3.ensures.value c.deref-4.ensures.value c.same_front-same.ensures.same
    c.sort_notes.ensures.same c.sort_notes-2.ensures.same c.sort_notes.ensures.order c.sort_notes-2.ensures.order c.in-Some.ensures in
    subst (λ (d : NoteMismatch). IsFirstNote (map note_value kept) (map note_value exported) d.mismatch d.note) (sym c.in_ok-with_text-in-Some.ensures) first

pub returns-in-None-clause-value : goal.returns-in-None-clause-value
returns-in-None-clause-value c =
    found-behind c.args.kept.now.items c.args.exported.now.items c.deref.result.now c.deref-2.result.now c.deref-3.result.now c.deref-4.result.now c.sort_notes.new.notes.items c.sort_notes-2.new.notes.items
    c.same_front-same.result None c.deref.ensures.value c.deref-2.ensures.value c.deref-3.ensures.value c.deref-4.ensures.value c.same_front-same.ensures.same
    c.sort_notes.ensures.same c.sort_notes-2.ensures.same c.sort_notes.ensures.order c.sort_notes-2.ensures.order c.in-None.ensures

pub returns-in_err-with_text-in-Some-clause-kept : goal.returns-in_err-with_text-in-Some-clause-kept
returns-in_err-with_text-in-Some-clause-kept c = behind-permuted c.same_front-same.result c.args.kept.now.items c.sort_notes.new.notes.items c.sort_notes.ensures.front c.sort_notes.ensures.same

pub returns-in_err-with_text-in-Some-clause-exported : goal.returns-in_err-with_text-in-Some-clause-exported
returns-in_err-with_text-in-Some-clause-exported c =
    behind-permuted c.same_front-same.result c.args.exported.now.items c.sort_notes-2.new.notes.items c.sort_notes-2.ensures.front c.sort_notes-2.ensures.same

pub returns-in_ok-with_text-in-Some-clause-kept : goal.returns-in_ok-with_text-in-Some-clause-kept
returns-in_ok-with_text-in-Some-clause-kept c = behind-permuted c.same_front-same.result c.args.kept.now.items c.sort_notes.new.notes.items c.sort_notes.ensures.front c.sort_notes.ensures.same

pub returns-in_ok-with_text-in-Some-clause-exported : goal.returns-in_ok-with_text-in-Some-clause-exported
returns-in_ok-with_text-in-Some-clause-exported c =
    behind-permuted c.same_front-same.result c.args.exported.now.items c.sort_notes-2.new.notes.items c.sort_notes-2.ensures.front c.sort_notes-2.ensures.same

pub returns-in-None-clause-kept : goal.returns-in-None-clause-kept
returns-in-None-clause-kept c = behind-permuted c.same_front-same.result c.args.kept.now.items c.sort_notes.new.notes.items c.sort_notes.ensures.front c.sort_notes.ensures.same

pub returns-in-None-clause-exported : goal.returns-in-None-clause-exported
returns-in-None-clause-exported c =
    behind-permuted c.same_front-same.result c.args.exported.now.items c.sort_notes-2.new.notes.items c.sort_notes-2.ensures.front c.sort_notes-2.ensures.same
