use Rattle.std.proofs.Common.{◌≤◌, ap, ◌∙◌, subst, drop, IfOk}
use Rattle.edf_stream.specs.annotation.NotesReading.{notes_of_lanes}
use Rattle.edf_stream.specs.Views.{placed_lanes, texts_said, IsSaidBy}
use Rattle.edf_stream.proofs.records.SignalFacts.{lanes_placed}
use Rattle.edf_stream.proofs.records.lanes.said_by_lanes.Goals as goal

pub returns-clause-said : goal.returns-clause-said
returns-clause-said g c =
    let e = ap (λ places. placed_lanes places c.args.bytes.now) c.annotation_places.ensures ∙ lanes_placed c.args.header.now.signals c.args.bytes.now in
    subst (λ lanes. IsSaidBy lanes c.said_at_places.result) e c.said_at_places.ensures.said

pub returns-clause-kept : goal.returns-clause-kept
returns-clause-kept g c =
    let e = ap (λ places. placed_lanes places c.args.bytes.now) c.annotation_places.ensures ∙ lanes_placed c.args.header.now.signals c.args.bytes.now in
    subst (λ lanes. IfOk c.said_at_places.result (λ found. texts_said found ≤ c.args.most → g.K.NoteKeeper.got c.args.keeper.now (drop 1 (notes_of_lanes lanes)) c.said_at_places.new.keeper)) e
    c.said_at_places.ensures.kept
