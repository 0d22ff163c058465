use Rattle.std.proofs.Common.{◌≡◌, ◌∙◌, ◌++◌, ◌<◌, ◌≤◌, sym, ap, subst, Some, length, IsTrue, take, drop, ◌*◌}
use Rattle.std.proofs.lemmas.Result.{err_from_is_err_and}
use Rattle.edf_fields.specs.in_out.Sources.{Fails}
use Rattle.edf_header.specs.Conforming.{HeaderConforms}
use Rattle.edf_header.specs.Faults.{header_fault}
use Rattle.edf_header.specs.HeadsReading.{head_of, signals_of}
use Rattle.edf_layout.proofs.reading.CutFacts.{whole-read, head-file, fault-read, stops-weaker}
use Rattle.edf_layout.proofs.head_file.read_head.Goals as goal

pub returns-clause-whole : goal.returns-clause-whole
returns-clause-whole g c =
    let front = c.in_ok-front.front.items in
    let columns = c.in_ok-columns.columns.items in
    let whole : c.deref-4.result.now ≡ front ++ columns =
    c.deref-4.ensures.value ∙ c.in_ok-bytes.ensures ∙ ap (λ xs. xs ++ c.deref-3.result.now) c.deref-2.ensures.value ∙ ap (λ ys. front ++ ys) c.deref-3.ensures.value in
    let n = c.signal_count.result in
    whole-read front columns c.in_ok-header.header n c.in_ok-front.ensures.within c.in_ok-columns.ensures.within
    (subst (λ xs. length xs < 256 → n ≡ 0) c.deref.ensures.value c.signal_count.ensures.short)
    (subst (λ xs. 256 ≤ length xs → n ≡ signals_of xs) c.deref.ensures.value c.signal_count.ensures.whole)
    (subst (λ bytes. HeaderConforms bytes c.in_ok-header.header) whole c.in_ok-header.ensures.conforms)

pub returns-clause-honesty : goal.returns-clause-honesty
returns-clause-honesty g c = λ h. c.in_ok-columns.ensures.honesty (c.in_ok-front.ensures.honesty h)

pub returns-clause-header : goal.returns-clause-header
returns-clause-header g c = λ h.
    let front = c.in_ok-front.front.items in
    let columns = c.in_ok-columns.columns.items in
    let whole : c.deref-4.result.now ≡ front ++ columns =
    c.deref-4.ensures.value ∙ c.in_ok-bytes.ensures ∙ ap (λ xs. xs ++ c.deref-3.result.now) c.deref-2.ensures.value ∙ ap (λ ys. front ++ ys) c.deref-3.ensures.value in
    let n = c.signal_count.result in
    let behind = c.in_ok-front.ensures.behind h in
    let more = c.in_ok-front.ensures.honesty h in
    head-file (g.S.Source.left c.args.source.now) (g.S.Source.left c.next_bytes-2.new.source) front columns c.in_ok-header.header n
    (subst (λ xs. 256 ≤ length xs → n ≡ signals_of xs) c.deref.ensures.value c.signal_count.ensures.whole)
    (returns-clause-whole g c).front_long
    (c.in_ok-front.ensures.front h)
    (c.in_ok-columns.ensures.front more ∙ ap (take (256 * n)) behind)
    (c.in_ok-columns.ensures.behind more ∙ ap (drop (256 * n)) behind)
    (ap header_fault (sym whole) ∙ c.in_ok-header.ensures.passed)
    (c.in_ok-header.ensures.value ∙ ap head_of whole)
    (subst (λ bytes. HeaderConforms bytes c.in_ok-header.header) whole c.in_ok-header.ensures.conforms)

pub returns-in_err-header-clause-stop : goal.returns-in_err-header-clause-stop
returns-in_err-header-clause-stop g c =
    let p = err_from_is_err_and c.from_residual-in_err-header.result c.from_residual-in_err-header.ensures.1 in
    let reads = g.S.Source.reads in
    let file = g.S.Source.left c.args.source.now in
    let front = c.in_ok-front.front.items in
    let columns = c.in_ok-columns.columns.items in
    let whole : c.deref-4.result.now ≡ front ++ columns =
    c.deref-4.ensures.value ∙ c.in_ok-bytes.ensures ∙ ap (λ xs. xs ++ c.deref-3.result.now) c.deref-2.ensures.value ∙ ap (λ ys. front ++ ys) c.deref-3.ensures.value in
    let n = c.signal_count.result in
    rw (p.1, p.2) (stops-weaker (λ f. header_fault c.deref-4.result.now ≡ Some f)
    (λ f. IsTrue (g.S.Source.is_honest c.args.source.now) → header_fault file ≡ Some f)
    ⊥ (Fails (reads c.args.source.now) (reads c.next_bytes-2.new.source))
    (Unit {0}) (reads c.next_bytes-2.new.source ≡ reads c.args.source.now)
    (λ f found h. fault-read file front columns n f
    (subst (λ xs. length xs < 256 → n ≡ 0) c.deref.ensures.value c.signal_count.ensures.short)
    (subst (λ xs. 256 ≤ length xs → n ≡ signals_of xs) c.deref.ensures.value c.signal_count.ensures.whole)
    (c.in_ok-front.ensures.front h)
    (c.in_ok-columns.ensures.front (c.in_ok-front.ensures.honesty h) ∙ ap (take (256 * n)) (c.in_ok-front.ensures.behind h))
    (ap header_fault (sym whole) ∙ found))
    (λ no. absurd no)
    (λ unit. c.in_ok-columns.ensures.failures ∙ c.in_ok-front.ensures.failures) _ c.in_err-header.ensures.stop)
