use Rattle.std.proofs.Common.{◌≡◌, ◌++◌, ℕ, List, Some, IsTrue, subst, ap, ◌∙◌}
use Rattle.edf_fields.specs.in_out.Sources.{Fails}
use Rattle.edf_header.specs.Faults.{header_fault}
use Rattle.edf_header.specs.Heads.{Head}
use Rattle.edf_header.specs.Stops.{Stops}
use Rattle.edf_stream.specs.Faults.{body_fault, file_fault}
use Rattle.edf_stream.specs.records.Readers.{StandsIn}
use Rattle.edf_stream.proofs.ForCallers.{header_first, fault_is_of_body}
use Rattle.edf_layout.specs.whole.FileBodies.{IsBody}
use Rattle.edf_layout.proofs.reading.CutFacts.{stops-weaker}
use Rattle.edf_layout.proofs.reading.HeadFacts.{no-fault, one-header, stands-in-file}
use Rattle.edf_layout.proofs.reading.StopFacts.{handed-on}
use Rattle.edf_layout.proofs.whole.whole_file.read_file.Goals as goal

pub returns-in_err-head-clause-stop : goal.returns-in_err-head-clause-stop
returns-in_err-head-clause-stop g c =
    let file = g.S.Source.left c.args.source.now in
    let honest = IsTrue (g.S.Source.is_honest c.args.source.now) in
    let fails = Fails (g.S.Source.reads c.args.source.now) (g.S.Source.reads c.read_head.new.source) in
    let same = g.S.Source.reads c.read_head.new.source ≡ g.S.Source.reads c.args.source.now in
    let stop = c.in_err-head.field-0.0 in
    handed-on c.from_residual.result stop (Stops (λ f. honest → file_fault file ≡ Some f) fails same) c.from_residual.ensures.1
    (stops-weaker (λ f. honest → header_fault file ≡ Some f) (λ f. honest → file_fault file ≡ Some f) fails fails same same
    (λ f q h. header_first file f (q h)) (λ x. x) (λ x. x) stop c.in_err-head.ensures.stop)

pub returns-in_err-reader-clause-stop : goal.returns-in_err-reader-clause-stop
returns-in_err-reader-clause-stop g c =
    let file = g.S.Source.left c.args.source.now in
    let honest = IsTrue (g.S.Source.is_honest c.args.source.now) in
    let fails = Fails (g.S.Source.reads c.args.source.now) (g.S.Source.reads c.read_head.new.source) in
    let same = g.S.Source.reads c.read_head.new.source ≡ g.S.Source.reads c.args.source.now in
    let head = c.in_ok-head.head in
    let front = head.front.items in
    let columns = head.columns.items in
    let bytes = c.deref-3.result.now in
    let whole : bytes ≡ front ++ columns =
    c.deref-3.ensures.value ∙ c.in_ok-bytes.ensures ∙ ap (λ xs. xs ++ c.deref-2.result.now) c.deref.ensures.value ∙ ap (λ ys. front ++ ys) c.deref-2.ensures.value in
    let stop = c.in_err-reader.field-0.0 in
    handed-on c.from_residual-in_err-reader.result stop (Stops (λ f. honest → file_fault file ≡ Some f) fails same) c.from_residual-in_err-reader.ensures.1
    (stops-weaker (λ f. header_fault bytes ≡ Some f) (λ f. honest → file_fault file ≡ Some f) ⊥ fails (Unit {0}) same
    (λ f found h. absurd (no-fault file (g.S.Source.left c.read_head.new.source) front columns bytes head.header f (c.in_ok-head.ensures.header h) whole found))
    (λ no. absurd no) (λ unit. c.in_ok-head.ensures.failures) stop c.in_err-reader.ensures.stop)

pub returns-in_err-body-clause-stop : goal.returns-in_err-body-clause-stop
returns-in_err-body-clause-stop g c =
    let file = g.S.Source.left c.args.source.now in
    let left = g.S.Source.left c.read_head.new.source in
    let honest = IsTrue (g.S.Source.is_honest c.args.source.now) in
    let before = g.S.Source.reads c.read_head.new.source in
    let ended = g.S.Source.reads c.read_body.new.source in
    let fails = Fails (g.S.Source.reads c.args.source.now) ended in
    let same = ended ≡ g.S.Source.reads c.args.source.now in
    let read = c.in_ok-head.ensures in
    let head = c.in_ok-head.head in
    let front = head.front.items in
    let columns = head.columns.items in
    let bytes = c.deref-3.result.now in
    let whole : bytes ≡ front ++ columns =
    c.deref-3.ensures.value ∙ c.in_ok-bytes.ensures ∙ ap (λ xs. xs ++ c.deref-2.result.now) c.deref.ensures.value ∙ ap (λ ys. front ++ ys) c.deref-2.ensures.value in
    let reader = c.in_ok-reader.reader in
    let behind = c.in_ok-reader.ensures.stands in
    let stop = c.in_err-body.field-0.0 in
    handed-on c.from_residual-in_err-body.result stop (Stops (λ f. honest → file_fault file ≡ Some f) fails same) c.from_residual-in_err-body.ensures.1
    (stops-weaker
    (λ f. IsTrue (g.S.Source.is_honest c.read_head.new.source) → (b : List ℕ) → StandsIn reader left b → body_fault b reader.head ≡ Some f)
    (λ f. honest → file_fault file ≡ Some f)
    (Fails before ended) fails (ended ≡ before) same
    (λ f q h.
    let is = read.header h in
    let stands = stands-in-file file left front columns bytes head.header reader behind.0 is whole c.in_ok-reader.ensures.begun behind.1 in
    fault_is_of_body file reader.head (stands.passed).head is.faultless ∙ q (read.honesty h) file stands)
    (subst (λ n. Fails n ended) read.failures) (λ e. e ∙ read.failures) stop c.in_err-body.ensures.stop)

pub returns-clause-file : goal.returns-clause-file
returns-clause-file g c = λ h.
    let file = g.S.Source.left c.args.source.now in
    let left = g.S.Source.left c.read_head.new.source in
    let read = c.in_ok-head.ensures in
    let head = c.in_ok-head.head in
    let front = head.front.items in
    let columns = head.columns.items in
    let bytes = c.deref-3.result.now in
    let whole : bytes ≡ front ++ columns =
    c.deref-3.ensures.value ∙ c.in_ok-bytes.ensures ∙ ap (λ xs. xs ++ c.deref-2.result.now) c.deref.ensures.value ∙ ap (λ ys. front ++ ys) c.deref-2.ensures.value in
    let reader = c.in_ok-reader.reader in
    let behind = c.in_ok-reader.ensures.stands in
    let is = read.header h in
    let stands = stands-in-file file left front columns bytes head.header reader behind.0 is whole c.in_ok-reader.ensures.begun behind.1 in
    let found = c.in_ok-body.ensures.body (read.honesty h) file stands in
    let same = one-header file left front columns bytes head.header reader behind.0 is whole behind.1 in
    record {
      header = is.header;
      faultless = fault_is_of_body file reader.head (stands.passed).head is.faultless ∙ found.1;
      front_is = is.front_is;
      columns_are = is.columns_are;
      body = subst (λ (x : Head). IsBody file x c.in_ok-body.body) same found.0;
    }

pub returns-clause-head : goal.returns-clause-head
returns-clause-head g c = c.in_ok-head.ensures.whole

pub returns-clause-failures : goal.returns-clause-failures
returns-clause-failures g c = c.in_ok-body.ensures.failures ∙ c.in_ok-head.ensures.failures
