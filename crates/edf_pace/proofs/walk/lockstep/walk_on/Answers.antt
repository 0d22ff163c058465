use Rattle.std.proofs.Common.{◌≡◌, None, arith, map, refl, ◌∙◌, ap, sym, subst}
use Rattle.std.proofs.lemmas.Int.{ints}
use Rattle.edf_header.specs.Heads.{Head}
use Rattle.edf_stream.specs.Conforming.{Conforms}
use Rattle.edf_stream.specs.Views.{note_value}
use Rattle.edf_pace.specs.walk.Ends.{moved_export}
use Rattle.edf_pace.specs.walk.Pairs.{IsFrame}
use Rattle.edf_pace.specs.walk.Shown.{last_end_by}
use Rattle.edf_pace.proofs.walk.LockstepFacts.{fault_of_heads}
use Rattle.edf_pace.proofs.walk.OnwardFacts.{ends_there, other_way, seen_next, within_file}
use Rattle.edf_pace.proofs.walk.PassFacts.{moves_none, moves_on}
use Rattle.edf_pace.proofs.walk.lockstep.walk_on.Goals as goal

pub loop-end-init : goal.loop-end-init
loop-end-init g c =
    let turn = c.args.watch.now.frame.turn in
    record {
      original = moves_none _ _ _ _ _ _ _ _ c.requires.original.0 c.requires.original.1;
      export = moves_none _ _ _ _ _ _ _ _ c.requires.export.0 c.requires.export.1;
      from = omega (arith, ints);
      ended = λ f z he b ae. absurd (other_way _ (c.requires.begins f) z);
      fits = c.requires.fits;
      wants = c.requires.wants;
      lender = refl;
      keeps = refl;
      holds = λ ho he a b ao ae co ce held. held;
    }

pub pass_both-requires-clause-original_reaches : goal.pass_both-requires-clause-original_reaches
pass_both-requires-clause-original_reaches g c = λ e. (let r = c.in-Some.ensures.original e in let w = c.border-next.ensures.within in omega (arith, ints, r, w))

pub pass_both-requires-clause-export_reaches : goal.pass_both-requires-clause-export_reaches
pass_both-requires-clause-export_reaches g c = λ e. (let r = c.in-Some.ensures.export e in let w = c.border-next.ensures.within in omega (arith, ints, r, w))

pub see-requires-clause-frame : goal.see-requires-clause-frame
see-requires-clause-frame g c =
    let inv = c.loop-end.invariant in
    subst (λ h. IsFrame h (c.loop-end.export.reader).head c.args.watch.now.frame) (sym (inv.original).head) (subst (λ k. IsFrame (c.args.original.now.reader).head k c.args.watch.now.frame) (sym (inv.export).head) c.requires.frame)

pub loop-end-preserved : goal.loop-end-preserved
loop-end-preserved g c =
    let inv = c.loop-end.invariant in
    let turn = c.args.watch.now.frame.turn in
    let o = rw c.in-Ok-None.field-0-is at c.in-Ok-None.ensures.original in
    let e = rw c.in-Ok-None.field-0-is at c.in-Ok-None.ensures.export in
    let later = c.border-next.ensures.later in
    let within = c.border-next.ensures.within in
    let from = inv.from in
    record {
      original = moves_on _ _ _ _ _ _ _ _ _ _ _ _ _ _ _ _ _ _ _ _ inv.original o;
      export = moves_on _ _ _ _ _ _ _ _ _ _ _ _ _ _ _ _ _ _ _ _ inv.export e;
      from = omega (arith, ints, from, later);
      ended = λ f z he b ae.
          let before = (inv.export).comes he b ae in
          ends_there c.args.export.now.reader c.loop-end.export.reader c.pass_both.new.export.reader (g.E.Source.left c.loop-end.e) (g.E.Source.left c.pass_both.new.e)
          (map note_value (c.loop-end.export.notes).items) (map note_value (c.pass_both.new.export.notes).items) b None (moved_export turn) c.loop-end.time.ps c.border-next.result.ps
          (inv.export).head (e.head ∙ (inv.export).head) (c.in-Some.ensures.going f) e.going z (λ q. (let r = c.in-Some.ensures.export q in omega (arith, ints, r, within)))
          before (e.comes ((inv.export).honesty he) b before);
      fits = c.see.ensures.fits;
      wants = sym c.has_enough.ensures ∙ c.if-has_enough.false;
      lender = c.see.ensures.lender ∙ inv.lender;
      keeps = c.see.ensures.keeps ∙ inv.keeps;
      holds = λ ho he a b ao ae co ce held.
          seen_next (g.W.Watcher.holds (c.loop-end.watch).watcher c.args.watch.now.frame) (g.W.Watcher.holds c.see.new.self c.args.watch.now.frame) c.args.watch.now.frame
          c.args.original.now.reader c.args.export.now.reader c.loop-end.original.reader c.loop-end.export.reader (g.O.Source.left c.loop-end.o) (g.E.Source.left c.loop-end.e)
          (map note_value (c.loop-end.original.notes).items) (map note_value (c.loop-end.export.notes).items) a b (turn.from).ps c.loop-end.time.ps c.border-next.result.ps c.in-Some.end.ps
          (inv.original).head (inv.export).head co ce from later within c.in-Some.ensures.original c.in-Some.ensures.export
          ((inv.original).comes ho a ao) ((inv.export).comes he b ae) c.see.ensures.holds (inv.holds ho he a b ao ae co ce held);
    }

pub returns-in-Ok-Some-clause-fault : goal.returns-in-Ok-Some-clause-fault
returns-in-Ok-Some-clause-fault g c = λ ho he a b ao ae.
    let inv = c.loop-end.invariant in
    let fault = rw c.in-Ok-Some.field-0-is at c.in-Ok-Some.ensures.fault in
    fault_of_heads a _ b _ _ _ _ c.args.watch.now.frame.turn.part c.in-Ok-Some.fault (inv.original).head (inv.export).head
    (fault ((inv.original).honesty ho) ((inv.export).honesty he) a b ((inv.original).comes ho a ao) ((inv.export).comes he b ae).there)

pub returns-clause-walked : goal.returns-clause-walked
returns-clause-walked g c = λ ho he a b ao ae.
    let inv = c.loop-end.invariant in
    let none = c.in_default.ensures.none in
    let C : Head → Type 0 = λ h. Conforms b h in
    record {
      holds = inv.holds ho he a b ao ae;
      within = λ f ce. (let end = inv.ended f none.0 he b ae in omega (arith, ints, end));
      ends = λ z f. inv.ended f none.0 he b ae;
    }

pub returns-then-has_enough-clause-walked : goal.returns-then-has_enough-clause-walked
returns-then-has_enough-clause-walked g c = λ ho he a b ao ae.
    let inv = c.loop-end.invariant in
    let turn = c.args.watch.now.frame.turn in
    let later = c.border-next.ensures.later in
    let within = c.border-next.ensures.within in
    let from = inv.from in
    let before = (inv.original).comes ho a ao in
    let beside = (inv.export).comes he b ae in
    record {
      holds = λ co ce held.
          seen_next (g.W.Watcher.holds (c.loop-end.watch).watcher c.args.watch.now.frame) (g.W.Watcher.holds c.see.new.self c.args.watch.now.frame) c.args.watch.now.frame
          c.args.original.now.reader c.args.export.now.reader c.loop-end.original.reader c.loop-end.export.reader (g.O.Source.left c.loop-end.o) (g.E.Source.left c.loop-end.e)
          (map note_value (c.loop-end.original.notes).items) (map note_value (c.loop-end.export.notes).items) a b (turn.from).ps c.loop-end.time.ps c.border-next.result.ps c.in-Some.end.ps
          (inv.original).head (inv.export).head co ce from later within c.in-Some.ensures.original c.in-Some.ensures.export
          ((inv.original).comes ho a ao) ((inv.export).comes he b ae) c.see.ensures.holds (inv.holds ho he a b ao ae co ce held);
      within = λ f ce.
          let C : Head → Type 0 = λ h. Conforms b h in
          let near = within_file c.loop-end.export.reader (g.E.Source.left c.loop-end.e) (map note_value (c.loop-end.export.notes).items) b None (moved_export turn) c.loop-end.time.ps (c.in-Some.ensures.going f) (subst C (sym (inv.export).head) ce) beside in
          let reach = c.in-Some.ensures.export (c.in-Some.ensures.going f) in
          let same : last_end_by b (c.loop-end.export.reader).head (moved_export turn) ≡ last_end_by b (c.args.export.now.reader).head (moved_export turn) = ap (λ h. last_end_by b h (moved_export turn)) (inv.export).head in
          omega (arith, ints, near, reach, same, within);
      ends = λ z f. absurd (other_way _ (sym c.has_enough.ensures ∙ c.if-has_enough.true) z);
    }
