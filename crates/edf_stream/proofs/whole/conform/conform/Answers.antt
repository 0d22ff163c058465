use Rattle.std.proofs.Common.{◌≡◌, ◌*◌, ℕ, length, List, IsTrue, Some, Ok, subst, sym, ap, ◌∙◌}
use Rattle.edf_fields.specs.in_out.Sources.{Fails}
use Rattle.edf_header.specs.Faults.{header_fault}
use Rattle.edf_header.specs.Heads.{Head, samples_together}
use Rattle.edf_header.specs.HeadsReading.{head_of}
use Rattle.edf_stream.specs.Faults.{body_fault, file_fault}
use Rattle.edf_stream.specs.Conforming.{Conforms}
use Rattle.edf_stream.specs.annotation.NotesReading.{notes_before}
use Rattle.edf_header.specs.signals.Channels.{channels_among}
use Rattle.edf_stream.specs.records.Readers.{IsOpen, status_after, StandsIn, Comes}
use Rattle.edf_stream.proofs.FileFacts.{header_first, file_is}
use Rattle.edf_stream.proofs.records.StopFacts.{stops-first, stops-reading}
use Rattle.edf_stream.proofs.whole.conform.conform.Goals as goal

pub returns-in-Err-clause-stop : goal.returns-in-Err-clause-stop
returns-in-Err-clause-stop g c =
    let file = g.S.Source.left c.args.source.now in
    let honest = IsTrue (g.S.Source.is_honest c.args.source.now) in
    stops-first (λ f. honest → header_fault file ≡ Some f) (λ f. honest → file_fault file ≡ Some f)
    (Fails (g.S.Source.reads c.args.source.now) (g.S.Source.reads c.begin.new.source)) (g.S.Source.reads c.begin.new.source ≡ g.S.Source.reads c.args.source.now)
    c.in-Err.stop (λ f q h. header_first file f (q h)) c.in-Err.ensures.stop

pub loop-reader-preserved : goal.loop-reader-preserved
loop-reader-preserved g c =
    let before = c.loop-reader.invariant in
    let next = c.in-Ok-true.ensures in
    let file = g.S.Source.left c.args.source.now in (
      subst IsOpen (sym (next.status ∙ ap (λ more. status_after (Ok more)) c.in-Ok-true.field-0-test)) tt,
      next.failures ∙ before.1,
      λ h. next.honesty (before.2 h),
      λ h. (subst (λ more. Comes more c.loop-reader.reader c.next.new.self (g.S.Source.left c.next.new.source) file) c.in-Ok-true.field-0-test (next.comes before.0 (before.2 h) file (before.3 h))).0,
    )

pub returns-in-Err-next-clause-stop : goal.returns-in-Err-next-clause-stop
returns-in-Err-next-clause-stop g c =
    let before = c.loop-reader.invariant in
    let file = g.S.Source.left c.args.source.now in
    let honest = IsTrue (g.S.Source.is_honest c.args.source.now) in
    let same = g.S.Source.reads c.next.new.source ≡ g.S.Source.reads c.args.source.now in
    stops-reading
    (λ f. (g.S.Source.reads c.next.new.source ≡ g.S.Source.reads c.loop-reader.source) × (IsTrue (g.S.Source.is_honest c.loop-reader.source) → (b : List ℕ) → StandsIn c.loop-reader.reader (g.S.Source.left c.loop-reader.source) b → body_fault b ((c.loop-reader.reader).head) ≡ Some f))
    (λ f. honest → file_fault file ≡ Some f)
    (Fails (g.S.Source.reads c.loop-reader.source) (g.S.Source.reads c.next.new.source)) (Fails (g.S.Source.reads c.args.source.now) (g.S.Source.reads c.next.new.source)) same
    c.in-Err-next.stop
    (λ f q. (
      (λ h. let stands = before.3 h in file_is file (c.loop-reader.reader).head (c.loop-reader.reader).read stands.passed ∙ q.1 (before.2 h) file stands),
      q.0 ∙ before.1,
    )) (subst (λ n. Fails n (g.S.Source.reads c.next.new.source)) before.1) (c.in-Err-next.ensures.stop before.0)

pub returns-in-Ok-false-clause-conforms : goal.returns-in-Ok-false-clause-conforms
returns-in-Ok-false-clause-conforms g c = λ h.
    let before = c.loop-reader.invariant in
    let file = g.S.Source.left c.args.source.now in
    let end = subst (λ more. Comes more c.loop-reader.reader c.next.new.self (g.S.Source.left c.next.new.source) file) c.in-Ok-false.field-0-test (c.in-Ok-false.ensures.comes before.0 (before.2 h) file (before.3 h)) in
    let is : (c.loop-reader.reader).head ≡ head_of file = (before.3 h).passed.head in
    let same : (c.next.new.self).head ≡ head_of file = (end.0).passed.head in
    record {
      conforms = subst (Conforms file) is end.3;
      faultless = file_is file (c.loop-reader.reader).head (c.loop-reader.reader).read (before.3 h).passed ∙ end.2;
      holds = record {
        records = c.summary.ensures.records ∙ ap (λ (x : Head). x.records) same;
        channels = c.summary.ensures.channels ∙ ap (λ (x : Head). length (channels_among x.signals)) same;
        samples = c.summary.ensures.samples ∙ ap (λ (x : Head). x.records * samples_together (channels_among x.signals)) same;
        annotations = c.summary.ensures.annotations ∙ (end.0).stands.notes_are ∙ ap (notes_before file (c.next.new.self).head) end.1
            ∙ ap (λ (x : Head). notes_before file (c.next.new.self).head x.records) is ∙ ap (λ (x : Head). notes_before file x (head_of file).records) same;
      };
      out = end.4;
    }
