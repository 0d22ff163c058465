use Rattle.std.proofs.Common.{◌≡◌, ℕ, List, map, true, Ok, Some, IsTrue, refl, subst, sym, ap, ◌∙◌}
use Rattle.std.specs.List.{All}
use Rattle.std.proofs.lemmas.List.Elements.{All-nil}
use Rattle.edf_fields.specs.in_out.Sources.{Fails}
use Rattle.edf_fields.specs.declared.faults.fault.Fault.{Fault}
use Rattle.edf_header.specs.Heads.{Head}
use Rattle.edf_header.specs.Stops.{Stops}
use Rattle.edf_stream.specs.declared.samples.sample.Sample.{Sample}
use Rattle.edf_stream.specs.Faults.{body_fault}
use Rattle.edf_stream.specs.times.InstantOrder.{IsSmall}
use Rattle.edf_stream.specs.Meanings.{IsMeaning}
use Rattle.edf_stream.specs.annotation.NotesReading.{moved_notes_before}
use Rattle.edf_stream.specs.records.Readers.{StandsIn, IsOpen, Comes, status_after}
use Rattle.edf_stream.specs.samples.SamplesReading.{samples_before}
use Rattle.edf_stream.specs.Views.{note_value, IsNear}
use Rattle.edf_stream.proofs.records.StopFacts.{stops-reading, handed-on}
use Rattle.edf_stream.proofs.MeaningFacts.{samples-more, notes-more, all-samples, all-notes}
use Rattle.edf_stream.proofs.records.reader.FileReader.into_meaning.Goals as goal

pub loop-meaning-init : goal.loop-meaning-init
loop-meaning-init g c = record {
  going = subst IsOpen (sym c.requires.0) tt;
  head = refl;
  failures = refl;
  honesty = λ h. h;
  gathered = λ h file stands. (
    stands,
    c.new-meaning.ensures.samples ∙ ap (samples_before file (c.args.self).head) (sym c.requires.1),
    ap (map note_value) c.new-meaning.ensures.notes ∙ ap (moved_notes_before file (c.args.self).head) (sym c.requires.1),
  );
  small = subst (All (λ (x : Sample). IsSmall x.instant)) (sym c.new-meaning.ensures.samples) (All-nil (λ (x : Sample). IsSmall x.instant));
  near = subst (All IsNear) (sym c.new-meaning.ensures.notes) (All-nil IsNear);
}

pub returns-in_err-next-clause-stop : goal.returns-in_err-next-clause-stop
returns-in_err-next-clause-stop g c =
    let before = c.loop-meaning.invariant in
    let honest = IsTrue (g.S.Source.is_honest c.args.source.now) in
    let left = g.S.Source.left c.args.source.now in
    let same = g.S.Source.reads c.next.new.source ≡ g.S.Source.reads c.args.source.now in
    let faults : Fault → Type 0 = λ f. honest → (file : List ℕ) → StandsIn c.args.self left file → body_fault file (c.args.self).head ≡ Some f in
    let rises = Fails (g.S.Source.reads c.args.source.now) (g.S.Source.reads c.next.new.source) in
    let stop = c.in_err-next.field-0.0 in
    handed-on c.from_residual.result stop (Stops faults rises same) c.from_residual.ensures.1
    (stops-reading
    (λ f. (g.S.Source.reads c.next.new.source ≡ g.S.Source.reads c.loop-meaning.source) × (IsTrue (g.S.Source.is_honest c.loop-meaning.source) → (b : List ℕ) → StandsIn c.loop-meaning.reader (g.S.Source.left c.loop-meaning.source) b → body_fault b ((c.loop-meaning.reader).head) ≡ Some f))
    faults
    (Fails (g.S.Source.reads c.loop-meaning.source) (g.S.Source.reads c.next.new.source)) rises same stop
    (λ f q. (
      λ h file stands. ap (body_fault file) (sym before.head) ∙ q.1 (before.honesty h) file (before.gathered h file stands).0,
      q.0 ∙ before.failures,
    )) (subst (λ n. Fails n (g.S.Source.reads c.next.new.source)) before.failures) (c.in_err-next.ensures.stop before.going))

pub loop-meaning-preserved : goal.loop-meaning-preserved
loop-meaning-preserved g c =
    let before = c.loop-meaning.invariant in
    let next = c.in_ok-next.ensures in
    let old = c.loop-meaning.reader in
    let new = c.next.new.self in
    let added = c.in_ok-add.ensures in
    let more : c.in_ok-next.field-0 ≡ true = c.if-branch.true in
    record {
      going = subst IsOpen (sym (next.status ∙ ap (λ b. status_after (Ok b)) more)) tt;
      head = next.head ∙ before.head;
      failures = next.failures ∙ before.failures;
      honesty = λ h. next.honesty (before.honesty h);
      gathered = λ h file stands.
          let had = before.gathered h file stands in
          let comes = subst (λ b. Comes b old new (g.S.Source.left c.next.new.source) file) more (next.comes before.going (before.honesty h) file had.0) in
          let read = (next.count (subst IsTrue (sym more) refl)).0 in (
            comes.0,
            samples-more file old new c.loop-meaning.meaning.samples.items c.add.new.self.samples.items next.head comes.1 read had.1 added.samples,
            notes-more file old new (map note_value c.loop-meaning.meaning.notes.items) (map note_value c.add.new.self.notes.items) next.head comes.1 read had.2 added.notes,
          );
      small = added.small;
      near = added.near;
    }

pub returns-clause-meaning : goal.returns-clause-meaning
returns-clause-meaning g c = λ h file stands.
    let before = c.loop-meaning.invariant in
    let had = before.gathered h file stands in
    let old = c.loop-meaning.reader in
    let new = c.next.new.self in
    let end = subst (λ b. Comes b old new (g.S.Source.left c.next.new.source) file) c.if-branch.false (c.in_ok-next.ensures.comes before.going (before.honesty h) file had.0) in
    let P : Head → Type 0 = λ x. IsMeaning file x (g.S.Source.left c.next.new.source) c.loop-meaning.meaning in
    subst P before.head (record {
      conforms = end.3;
      faultless = end.2;
      means = record {
        samples = all-samples file old.head old.read c.loop-meaning.meaning.samples.items end.5 had.1;
        notes = all-notes file old.head old.read (map note_value c.loop-meaning.meaning.notes.items) end.5 had.2;
      };
      out = end.4;
    })
