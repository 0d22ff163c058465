-- Data records that pass their tests are those of a file that conforms.
use Rattle.std.proofs.Common.{◌≡◌, ℕ, zero, suc, ℤ, pos, ◌+◌, ◌<◌, ◌≤◌, ◌^◌, nat_le, int_le, int_lt, true, List, [], ◌∷◌, length, drop, Option, Some, None, Result, Ok, Err, refl, sym, ap, ◌∙◌, subst, arith, length-drop}
use Rattle.std.proofs.lemmas.Bool.Decides.{nat_tests, Decides-int_eq}
use Rattle.std.specs.List.{All}
use Rattle.edf_fields.specs.declared.faults.cause.TalCause.{TalCause}
use Rattle.edf_fields.specs.Tests.{first}
use Rattle.edf_fields.proofs.ForCallers.{first-cons, and-true, le-tested, lt-tested, unless-passed}
use Rattle.edf_fields.specs.declared.faults.fault.Place.TheVariants.{AtRecord}
use Rattle.edf_header.specs.Faults.{truncated}
use Rattle.edf_header.specs.declared.kind.Kind.{Kind}
use Rattle.edf_header.specs.declared.kind.Kind.TheVariants.{Contiguous, Interrupted}
use Rattle.edf_header.specs.Heads.{Head}
use Rattle.edf_tal.specs.declared.start.StartCause.{StartCause}
use Rattle.edf_stream.specs.records.Records.{record_at, annotation_lanes}
use Rattle.edf_stream.specs.records.RecordsReading.{record_place}
use Rattle.edf_stream.specs.annotation.NotesReading.{notes_in, notes_before}
use Rattle.edf_stream.specs.times.StartsReading.{said_start, or_zero, start_in, start_at, end_at, end_before}
use Rattle.edf_stream.specs.Faults.{cause_of_lanes, lanes_fault, time_fault, may_start, start_fault, notes_fault, record_fault, records_tests}
use Rattle.edf_stream.specs.Conforming.{FollowsOn, Conforms}
use Rattle.edf_stream.specs.records.Readers.{HasPassed, StandsAt}
use Rattle.edf_stream.proofs.annotation.ItemFacts.{IsLane, lanes-are}
use Rattle.edf_stream.proofs.records.SaidFacts.{read-notes, record-says, together-count}
use Rattle.edf_stream.specs.annotation.Notes.{together}

-- what one data record says that passes its tests
record Passes (file : List ℕ) (h : Head) (k : ℕ) : Type 0 where
  pub lanes : All IsLane (annotation_lanes h.signals (record_at file h k))
  pub said : said_start h (record_at file h k) ≡ Ok (start_at file h k)
  pub on_time : may_start h.kind k (end_before file h k) (start_at file h k) ≡ true
  pub few : notes_before file h (suc k) ≤ 1000000

no-cause : (k : ℕ) (cause : Option TalCause) → lanes_fault k cause ≡ None → cause ≡ None
unfolding lanes_fault
no-cause k None e = refl
no-cause k (Some cause) e = absurd (let z : _ = e in cc)

some-start : (k : ℕ) (said : Result ℤ StartCause) → time_fault k said ≡ None → said ≡ Ok (or_zero said)
unfolding time_fault
some-start k (Ok start) e = refl
some-start k (Err cause) e = absurd (let z : _ = e in cc)

starts : (kind : Kind) (k : ℕ) (ended start : ℤ) → start_fault kind k ended start ≡ None → may_start kind k ended start ≡ true
unfolding start_fault
starts kind k ended start e = unless-passed (may_start kind k ended start) _ e

are-few : (k notes : ℕ) → notes_fault k notes ≡ None → notes ≤ 1000000
unfolding notes_fault
are-few k notes e = let t : nat_le notes 1000000 ≡ true = unless-passed (nat_le notes 1000000) _ e in grind (arith, nat_tests)

one-passes : (file : List ℕ) (h : Head) (k : ℕ) → record_fault h k (end_before file h k) (notes_before file h k) (record_at file h k) ≡ None → Passes file h k
unfolding record_fault
one-passes file h k e =
    let bytes = record_at file h k in
    let a = first-cons (lanes_fault k (cause_of_lanes (annotation_lanes h.signals bytes))) _ e in
    let b = first-cons (time_fault k (said_start h bytes)) _ a.1 in
    let c = first-cons (start_fault h.kind k (end_before file h k) (start_in h bytes)) _ b.1 in
    let d = first-cons (notes_fault k (notes_before file h k + length (notes_in h bytes))) [] c.1 in
    record {
      lanes = lanes-are (annotation_lanes h.signals bytes) (no-cause k (cause_of_lanes (annotation_lanes h.signals bytes)) a.0);
      said = some-start k (said_start h bytes) b.0;
      on_time = starts h.kind k (end_before file h k) (start_in h bytes) c.0;
      few = are-few k (notes_before file h k + length (notes_in h bytes)) d.0;
    }

-- the tests of the first one of the records that pass, and of the others
at-first : (file : List ℕ) (h : Head) (s n : ℕ) → first (records_tests file h s (suc n)) ≡ None
    → (record_fault h s (end_before file h s) (notes_before file h s) (record_at file h s) ≡ None) × (first (records_tests file h (s + 1) n) ≡ None)
at-first file h s n e =
    let fault = record_fault h s (end_before file h s) (notes_before file h s) (record_at file h s) in
    let two = first-cons (truncated (AtRecord s) (record_place h (s + 1)) (length file)) (fault ∷ records_tests file h (s + 1) n) e in
    first-cons fault (records_tests file h (s + 1) n) two.1

-- each of the records that pass
each-passes : (file : List ℕ) (h : Head) (s n k : ℕ) → first (records_tests file h s n) ≡ None → k < n → Passes file h (s + k)
each-passes file h s zero k e lt = absurd (omega (arith, lt))
each-passes file h s (suc n) zero e lt =
    let one = at-first file h s n e in
    let z : s + 0 ≡ s = omega arith in
    subst (Passes file h) (sym z) (one-passes file h s one.0)
each-passes file h s (suc n) (suc k) e lt =
    let one = at-first file h s n e in
    let z : s + 1 + k ≡ s + suc k = omega arith in
    subst (Passes file h) z (each-passes file h (s + 1) n k one.1 (omega (arith, lt)))

follows-on : (kind : Kind) (k : ℕ) (ended start : ℤ) → may_start kind (suc k) ended start ≡ true → FollowsOn kind ended start
follows-on Contiguous k ended start e = (Decides-int_eq start ended).0 e
follows-on Interrupted k ended start e = le-tested ended start e

-- behind the last data record nothing is left: the file conforms
pub conforms : (file : List ℕ) (h : Head) (k : ℕ) (ended : ℤ) (notes : ℕ) (left : List ℕ) → 1 ≤ h.records → HasPassed file h k → StandsAt file h k ended notes left → h.records ≤ k → left ≡ [] → Conforms file h
unfolding read-notes
conforms file h k ended notes left some passed at le none =
    let within : k ≤ h.records = passed.within in
    let e : k ≡ h.records = omega arith in
    let short : length (drop (record_place h k) file) ≡ 0 = ap length (sym at.rest ∙ none) in
    let each : (j : ℕ) → j < h.records → Passes file h j = λ j lt. (let z : 0 + j ≡ j = omega arith in subst (Passes file h) z (each-passes file h 0 k j passed.records (omega (arith, lt, e)))) in
    let front = and-true (int_le (pos 0) (start_at file h 0)) (int_lt (start_at file h 0) (pos (10 ^ 12))) (each 0 (omega (arith, some))).on_time in
    record {
      header = passed.in_order;
      notes = together (read-notes file h) h.records;
      says = record {
        starts = λ j. start_at file h j;
        notes = read-notes file h;
        say = λ j lt. record-says h (record_at file h j) (start_at file h j) (each j lt).lanes (each j lt).said;
        all_are = refl;
      };
      not_early = le-tested (pos 0) (start_at file h 0) front.0;
      in_first_second = lt-tested (start_at file h 0) (pos (10 ^ 12)) front.1;
      follows = λ j lt. follows-on h.kind j (end_at file h j) (start_at file h (suc j)) (each (suc j) lt).on_time;
      few = subst (λ n. n ≤ 1000000) (sym (together-count file h h.records)) (last h.records some each);
      size = (let q : length file ≡ record_place h k = omega (arith, short, at.whole, length-drop (record_place h k) file) in q ∙ ap (record_place h) e);
    }
  where
    last : (n : ℕ) → 1 ≤ n → ((j : ℕ) → j < n → Passes file h j) → notes_before file h n ≤ 1000000
    last zero some each = absurd (omega (arith, some))
    last (suc n) some each = (each n (omega arith)).few
