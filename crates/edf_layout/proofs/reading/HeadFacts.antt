-- A reader over the header of a file reads the file, too.
use Rattle.std.proofs.Common.{◌≡◌, inl, ℕ, ◌+◌, ◌*◌, ◌≤◌, List, ◌++◌, length, take, drop, Some, None, arith, sym, ap, ◌∙◌, subst, length-append}
use Rattle.std.proofs.lemmas.List.{length-take, length-drop}
use Rattle.edf_fields.specs.declared.faults.fault.Fault.{Fault}
use Rattle.edf_fields.specs.Tests.{first}
use Rattle.edf_header.specs.Conforming.{HeaderConforms}
use Rattle.edf_header.specs.Faults.{header_fault}
use Rattle.edf_header.specs.Heads.{Head, header_bytes, record_bytes}
use Rattle.edf_header.specs.HeadsReading.{head_of}
use Rattle.edf_stream.specs.annotation.NotesReading.{notes_before}
use Rattle.edf_stream.specs.Faults.{records_tests}
use Rattle.edf_stream.specs.records.Readers.{Reader, HasBegun, StandsIn}
use Rattle.edf_stream.specs.records.RecordsReading.{record_place}
use Rattle.edf_stream.specs.times.StartsReading.{end_before}
use Rattle.edf_layout.specs.HeadFiles.{IsHeadFile}
use Rattle.edf_layout.proofs.reading.CutFacts.{cut, cut-fault, cut-head, signals-said, IsCount}

enough : (file left front columns : List ℕ) (h : Head) → IsHeadFile file left front columns h → IsCount file (length h.signals)
enough file left front columns h is = let said = signals-said file h is.conforms in inl (omega (arith, said))

-- the bytes of its header
bytes-cut : (file left front columns bytes : List ℕ) (h : Head) → IsHeadFile file left front columns h → bytes ≡ front ++ columns → bytes ≡ cut file (length h.signals)
bytes-cut file left front columns bytes h is e = e ∙ ap (λ xs. xs ++ columns) is.front_is ∙ ap (λ ys. take 256 file ++ ys) is.columns_are

-- have no fault
pub bytes-passed : (file left front columns bytes : List ℕ) (h : Head) → IsHeadFile file left front columns h → bytes ≡ front ++ columns → header_fault bytes ≡ None
bytes-passed file left front columns bytes h is e =
    ap header_fault (bytes-cut file left front columns bytes h is e) ∙ cut-fault file (length h.signals) (enough file left front columns h is) ∙ is.faultless

pub no-fault : (file left front columns bytes : List ℕ) (h : Head) (f : Fault) → IsHeadFile file left front columns h → bytes ≡ front ++ columns → header_fault bytes ≡ Some f → ⊥
no-fault file left front columns bytes h f is e found = let z : None ≡ Some f = sym (bytes-passed file left front columns bytes h is e) ∙ found in cc

-- and say what the header of the file says
pub one-header : (file left front columns bytes : List ℕ) (h : Head) (r : Reader) (behind : List ℕ) → IsHeadFile file left front columns h → bytes ≡ front ++ columns → StandsIn r behind bytes → r.head ≡ h
one-header file left front columns bytes h r behind is e stands =
    (stands.passed).head ∙ ap head_of (bytes-cut file left front columns bytes h is e) ∙ cut-head file (length h.signals) (enough file left front columns h is) ∙ sym is.header

bytes-within : (file : List ℕ) (n : ℕ) → length (cut file n) ≤ length file
bytes-within file n =
    let both = length-append (take 256 file) (take (256 * n) (drop 256 file)) in
    let front = length-take 256 file in
    let back = length-take (256 * n) (drop 256 file) in
    let rest = length-drop 256 file in
    omega (arith, both, front, back, rest)

pub stands-in-file : (file left front columns bytes : List ℕ) (h : Head) (r : Reader) (behind : List ℕ) → IsHeadFile file left front columns h → bytes ≡ front ++ columns → HasBegun r → StandsIn r behind bytes
    → StandsIn r left file
stands-in-file file left front columns bytes h r behind is e begun stands =
    let none : r.read ≡ 0 = begun.1 in
    let same : r.head ≡ h = one-header file left front columns bytes h r behind is e stands in
    let place : record_place r.head r.read ≡ header_bytes h = ap (record_place r.head) none ∙ ap (λ (x : Head). record_place x 0) same ∙ (let z : header_bytes h + 0 * record_bytes h ≡ header_bytes h = omega arith in z) in
    let short : length bytes ≤ length file = subst (λ xs. length xs ≤ length file) (sym (bytes-cut file left front columns bytes h is e)) (bytes-within file (length h.signals)) in
    let there = (stands.stands).whole in
    record {
      passed = record {
        head = same ∙ is.header;
        header = is.faultless;
        in_order = subst (λ (x : Head). HeaderConforms file x) (sym same) is.conforms;
        within = (stands.passed).within;
        records = ap (λ k. first (records_tests file r.head 0 k)) none;
      };
      stands = record {
        end_is = (stands.stands).end_is ∙ ap (end_before bytes r.head) none ∙ ap (end_before file r.head) (sym none);
        notes_are = (stands.stands).notes_are ∙ ap (notes_before bytes r.head) none ∙ ap (notes_before file r.head) (sym none);
        whole = omega (arith, there, short);
        rest = is.rest ∙ ap (λ n. drop n file) (sym place);
      };
    }
