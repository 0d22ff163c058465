use Rattle.std.proofs.Common.{◌≡◌, ◌∷◌, [], ◌++◌, ℕ, List, length, true, Ok, Some, IsTrue, refl, subst, sym, ap, ◌∙◌}
use Rattle.std.proofs.lemmas.List.Sorted.{IsPermutation-map}
use Rattle.edf_fields.specs.in_out.Sources.{Fails}
use Rattle.edf_fields.specs.declared.faults.fault.Fault.{Fault}
use Rattle.edf_header.specs.Heads.{Head}
use Rattle.edf_header.specs.Stops.{Stops}
use Rattle.edf_stream.specs.Faults.{body_fault}
use Rattle.edf_stream.specs.records.Readers.{StandsIn, IsOpen, Comes, status_after}
use Rattle.edf_stream.specs.records.Records.{annotation_lanes}
use Rattle.edf_stream.specs.times.StartsReading.{start_in}
use Rattle.edf_stream.specs.Views.{note_value}
use Rattle.edf_layout.specs.body.PlainLanes.{AreRising}
use Rattle.edf_layout.specs.whole.FileBodies.{AreNear, lanes_kept, notes_kept, IsBody}
use Rattle.edf_layout.specs.whole.KeptLanes.{rows_kept}
use Rattle.edf_layout.specs.body.PlainOrders.{lane_sizes}
use Rattle.edf_layout.proofs.reading.BodyFacts.{gathers-none, gathers-more, body-read, values-sorted, nothing-kept}
use Rattle.edf_layout.proofs.reading.RisingFacts.{EndBy, none-rise, none-end, rising-more, ends-more, none-near, near-more, start-near}
use Rattle.edf_layout.proofs.reading.StopFacts.{stops-reading, handed-on}
use Rattle.edf_layout.proofs.whole.file_body.read_body.Goals as goal

pub loop-body-init : goal.loop-body-init
loop-body-init g c =
    let none = c.new-body.ensures in
    record {
      going = subst IsOpen (sym c.requires.0) tt;
      head = refl;
      failures = refl;
      honesty = λ h. h;
      alike = ap length none.lanes ∙ sym (ap length none.starts);
      rising = subst AreRising (sym none.starts) none-rise;
      near = subst AreNear (sym none.starts) none-near;
      ended = subst (λ starts. EndBy starts ((c.args.reader).head).duration (c.args.reader).ended) (sym none.starts) (none-end ((c.args.reader).head).duration (c.args.reader).ended);
      gathered = λ h file stands. (
        stands,
        gathers-none file (c.args.reader).head (c.args.reader).read _ _ _ c.requires.1 none.starts (nothing-kept (lane_sizes (c.args.reader).head) c.new-body.result none.starts) none.notes,
      );
    }

pub loop-body-preserved : goal.loop-body-preserved
loop-body-preserved g c =
    let before = c.loop-body.invariant in
    let next = c.in_ok-next.ensures in
    let old = c.loop-body.reading in
    let new = c.next.new.self in
    let added = c.in_ok-add.ensures in
    let had = c.loop-body.body in
    let has = c.add.new.self in
    let more : c.in_ok-next.field-0 ≡ true = c.if-branch.true in
    let is = subst IsTrue (sym more) refl in
    let later = next.later is in
    let read = (next.count is).0 in
    let sizes = lane_sizes (c.args.reader).head in
    let lanes : lanes_kept sizes has ≡ lanes_kept sizes had ++ annotation_lanes (new.head).signals new.current ∷ [] =
    subst (λ (x : Head). lanes_kept (lane_sizes x) has ≡ lanes_kept (lane_sizes x) had ++ annotation_lanes (new.head).signals new.current ∷ []) (next.head ∙ before.head) added.lanes in
    let by = subst (λ d. EndBy had.starts.items d old.ended) (sym (ap (λ (x : Head). x.duration) next.head)) before.ended in
    record {
      going = subst IsOpen (sym (next.status ∙ ap (λ b. status_after (Ok b)) more)) tt;
      head = next.head ∙ before.head;
      failures = next.failures ∙ before.failures;
      honesty = λ h. next.honesty (before.honesty h);
      alike = added.alike;
      near = subst AreNear (sym added.starts) (near-more had.starts.items (start_in new.head new.current) before.near (start-near new.head new.current));
      rising = subst AreRising (sym added.starts) (rising-more had.starts.items (start_in new.head new.current) (new.head).duration old.ended new.ended before.rising by later.0 later.1);
      ended = subst (λ starts. EndBy starts (new.head).duration new.ended) (sym added.starts) (ends-more had.starts.items (start_in new.head new.current) (new.head).duration old.ended new.ended by later.0 later.1);
      gathered = λ h file stands.
          let gave = before.gathered h file stands in
          let comes = subst (λ b. Comes b old new (g.S.Source.left c.next.new.source) file) more (next.comes before.going (before.honesty h) file gave.0) in (
            comes.0,
            gathers-more file old new had.starts.items has.starts.items (lanes_kept sizes had) (lanes_kept sizes has) (notes_kept had) (notes_kept has) next.head comes.1 read gave.1 added.starts lanes added.notes,
          );
    }

pub returns-in_err-next-clause-stop : goal.returns-in_err-next-clause-stop
returns-in_err-next-clause-stop g c =
    let before = c.loop-body.invariant in
    let honest = IsTrue (g.S.Source.is_honest c.args.source.now) in
    let left = g.S.Source.left c.args.source.now in
    let same = g.S.Source.reads c.next.new.source ≡ g.S.Source.reads c.args.source.now in
    let faults : Fault → Type 0 = λ f. honest → (file : List ℕ) → StandsIn c.args.reader left file → body_fault file (c.args.reader).head ≡ Some f in
    let rises = Fails (g.S.Source.reads c.args.source.now) (g.S.Source.reads c.next.new.source) in
    let stop = c.in_err-next.field-0.0 in
    handed-on c.from_residual.result stop (Stops faults rises same) c.from_residual.ensures.1
    (stops-reading
    (λ f. (g.S.Source.reads c.next.new.source ≡ g.S.Source.reads c.loop-body.source) × (IsTrue (g.S.Source.is_honest c.loop-body.source) → (b : List ℕ) → StandsIn c.loop-body.reading (g.S.Source.left c.loop-body.source) b → body_fault b ((c.loop-body.reading).head) ≡ Some f))
    faults
    (Fails (g.S.Source.reads c.loop-body.source) (g.S.Source.reads c.next.new.source)) rises same stop
    (λ f q. (
      λ h file stands. ap (body_fault file) (sym before.head) ∙ q.1 (before.honesty h) file (before.gathered h file stands).0,
      q.0 ∙ before.failures,
    )) (subst (λ n. Fails n (g.S.Source.reads c.next.new.source)) before.failures) (c.in_err-next.ensures.stop before.going))

pub returns-clause-sound : goal.returns-clause-sound
returns-clause-sound g c =
    let before = c.loop-body.invariant in
    let sorted = c.sort.ensures in
    record {
      in_order = values-sorted c.sort.new.self.notes.items sorted.order;
      rising = subst AreRising (sym sorted.starts) before.rising;
      near = subst AreNear (sym sorted.starts) before.near;
      alike = ap length sorted.lanes ∙ before.alike ∙ sym (ap length sorted.starts);
    }

pub returns-clause-body : goal.returns-clause-body
returns-clause-body g c = λ h file stands.
    let before = c.loop-body.invariant in
    let had = before.gathered h file stands in
    let old = c.loop-body.reading in
    let new = c.next.new.self in
    let sorted = c.sort.ensures in
    let body = c.sort.new.self in
    let end = subst (λ b. Comes b old new (g.S.Source.left c.next.new.source) file) c.if-branch.false (c.in_ok-next.ensures.comes before.going (before.honesty h) file had.0) in
    let lanes : lanes_kept (lane_sizes old.head) body ≡ lanes_kept (lane_sizes (c.args.reader).head) c.loop-body.body =
    ap (λ (x : Head). lanes_kept (lane_sizes x) body) before.head ∙ ap (λ ss. rows_kept (lane_sizes (c.args.reader).head) ss body.lanes.items) sorted.starts
    ∙ ap (rows_kept (lane_sizes (c.args.reader).head) c.loop-body.body.starts.items) sorted.lanes in
    let read : IsBody file old.head body = body-read c.annotations_are_said.ensures.said file old.head old.read c.loop-body.body.starts.items (lanes_kept (lane_sizes (c.args.reader).head) c.loop-body.body) (notes_kept c.loop-body.body) body
    end.3 end.5 had.1 sorted.starts lanes
    (IsPermutation-map note_value c.loop-body.body.notes.items body.notes.items sorted.same) in
    (subst (λ x. IsBody file x body) before.head read, ap (body_fault file) (sym before.head) ∙ end.2)
