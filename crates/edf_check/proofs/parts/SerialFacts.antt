-- A part that was read, and those behind it.
use Rattle.std.proofs.Common.{◌≡◌, ℕ, suc, ◌+◌, ℤ, ◌<ℤ◌, ◌≤ℤ◌, int_lt, Bool, true, false, not, ◌&&◌, is_some, if◌then◌else◌, Bor, List, [], ◌∷◌, ◌++◌, length, map, Option, None, Some, refl, arith, sym, ap, ◌∙◌, subst, append_assoc}
use Rattle.std.proofs.lemmas.Int.{ints}
use Rattle.std.proofs.lemmas.List.{append-nil, length-map}
use Rattle.std.specs.Option.{option_or}
use Rattle.edf_claim.specs.ClaimValues.{ClaimValue}
use Rattle.edf_header.specs.Heads.{Head}
use Rattle.edf_header.specs.HeadsReading.{head_of}
use Rattle.edf_stream.specs.Conforming.{Conforms}
use Rattle.edf_stream.specs.annotation.Notes.{NoteValue}
use Rattle.edf_stream.specs.Views.{note_value}
use Rattle.edf_verdict.specs.declared.verdict.Verdict.{Verdict}
use Rattle.edf_check.specs.declared.parts.found.PartVerdict.{PartVerdict}
use Rattle.edf_check.specs.declared.parts.found.PartsFound.{PartsFound}
use Rattle.edf_check.specs.declared.parts.part.PartRead.{PartRead}
use Rattle.edf_check.specs.declared.parts.series.Exported.{Exported}
use Rattle.edf_samples.specs.declared.earliest.Found.{Found}
use Rattle.edf_pace.specs.declared.walk.turn.Setting.{Setting}
use Rattle.edf_pace.specs.declared.walk.turn.Turn.{Turn}
use Rattle.edf_pace.specs.declared.walk.fault_of.FaultOf.{FaultOf}
use Rattle.edf_pace.specs.declared.walk.fault_of.FaultOf.TheVariants as faults
use Rattle.edf_check.specs.parts.PartsFirst.{IsFirstFault}
use Rattle.edf_check.specs.parts.PartsFound.{IsEarlyFound, first_of, found_with, nothing}
use Rattle.edf_check.specs.parts.Ends.{IsPartRead, is_same}
use Rattle.edf_pace.specs.walk.Ends.{IsFaultBy, moved_export, moved_original}
use Rattle.edf_check.specs.parts.Together.{AreRead, HaveFault, gathered_of_all, serial_difference}
use Rattle.edf_samples.proofs.ForCallers.{by_test}
use Rattle.edf_check.specs.declared.parts.part.Course.{Course}
use Rattle.edf_check.specs.parts.Counted.{AreGatheredBehind, count_of, serial_counts, turn_counts, uncounted, was_compared}
use Rattle.edf_pace.specs.declared.walk.reading.Reading.{Reading}
use Rattle.edf_pace.specs.walk.Ends.{AreGathered}
use Rattle.edf_pace.specs.walk.Gathered.{gathered_of}
use Rattle.edf_pace.specs.walk.Readings.{gathered_so_far}
use Rattle.edf_pace.specs.walk.Watching.{ExportCount, two_files}
use Rattle.edf_stream.specs.annotation.NotesReading.{notes_of}
use Rattle.edf_pace.specs.walk.Counting.{span_counts}
use Rattle.edf_pace.specs.walk.Pairs.{places_in}
use Rattle.edf_pace.specs.walk.Shown.{begin_by, last_end_by}
use Rattle.edf_pace.specs.walk.Windows.{sampled, span_difference, is_last}
use Rattle.edf_check.proofs.parts.CompareFacts.{and-left, and-right, compared-early, compared-later, not-compared, not-true}
use Rattle.edf_check.proofs.parts.FoundFacts.{conform_more, early_more, fault_here, fault_later, faultless_part, heads_more}

-- ---- nothing was found before

none-first : (part : ℕ) (heads : Option Verdict) (later : Option PartVerdict) → first_of part heads later ≡ None → (heads ≡ None) × (later ≡ None)
none-first part None later e = (refl, e)
none-first part (Some v) later e = absurd (cc)

pub none-early : (part : ℕ) (early : Bool) (later : Option ℕ) → (if early then Some part else later) ≡ None → (early ≡ false) × (later ≡ None)
none-early part true later e = absurd (let z : Some part ≡ None = e in cc)
none-early part false later e = (refl, e)

none-found : (here later : Option Found) → option_or here later ≡ None → (here ≡ None) × (later ≡ None)
none-found None later e = (refl, e)
none-found (Some f) later e = absurd (let z : Some f ≡ None = e in cc)

-- ---- the same

not-some : {X : Type 0} (o : Option X) → not (is_some o) ≡ true → o ≡ None
not-some None e = refl
not-some (Some x) e = absurd (let z : false ≡ true = e in cc)

pub same-parts : (heads : Option Verdict) (early : Bool) (found : Option Found) → (not (is_some heads) && (not early && not (is_some found))) ≡ true → (heads ≡ None) × (early ≡ false) × (found ≡ None)
same-parts heads early found e =
    let rest = and-right (not (is_some heads)) (not early && not (is_some found)) e in
    (not-some heads (and-left (not (is_some heads)) _ e), not-true early (and-left (not early) _ rest), not-some found (and-right (not early) (not (is_some found)) rest))

same-so : (compared : Bool) (heads : Option Verdict) (early : Bool) (found : Option Found) → compared ≡ true → heads ≡ None → early ≡ false → found ≡ None → (compared && (not (is_some heads) && (not early && not (is_some found)))) ≡ true
same-so compared heads early found c h e f = rw (c, h, e, f) refl

-- ---- parts that were read

-- the turn behind a part
abbrev pub next_turn : Turn → Bool → PartRead → Bool → Turn
next_turn turn last part compared = record turn { part = turn.part + 1; from = (part.course).end; is_last = last; is_compared = compared }

-- behind the last part there is none
pub read_none : (turn : Turn) (last : Bool) (part : PartRead) (o : List ℕ) (h : Head) (left : List ℕ) (notes : List NoteValue) (e left' : List ℕ) (mid : Exported) → last ≡ true
    → IsPartRead (record turn { is_last = last }) o h left notes e left' part → AreRead (next_turn turn last part (turn.is_compared && is_same part)) o h left notes [] [] mid mid nothing
read_none turn last part o h left notes e left' mid is p = record {
  through = p.through is;
  conform = λ j file there. absurd (let z : None ≡ Some file = there in cc);
  gone = tt;
  heads_are = λ j file there. absurd (let z : None ≡ Some file = there in cc);
  early_is = tt;
  first = λ c x y. refl;
  same = λ c x y z.
      let same = same-parts part.heads (part.course).is_early (part.course).found (and-right turn.is_compared (is_same part) c) in
      (((p.matched (and-left turn.is_compared (is_same part) c) same.0 same.1).gathered same.2).kept is, sym (append-nil (map note_value (mid.notes).items)));
  counted = omega arith;
}

-- a part, and those behind it
pub read_more : (turn : Turn) (last compared : Bool) (part : PartRead) (o : List ℕ) (h : Head) (left mid-left : List ℕ) (notes mid-notes : List NoteValue) (e left' : List ℕ) (parts lefts : List (List ℕ)) (before mid behind : Exported) (rest : PartsFound)
    → last ≡ is_last parts → ((turn.is_compared && is_same part) ≡ true → compared ≡ true) → mid.samples ≡ before.samples + part.samples → map note_value (mid.notes).items ≡ map note_value (before.notes).items ++ map note_value (part.notes).items
    → IsPartRead (record turn { is_last = last }) o h mid-left mid-notes e left' part → AreRead (next_turn turn last part compared) o h left notes parts lefts mid behind rest
    → AreRead turn o h left notes (e ∷ parts) (left' ∷ lefts) before behind (found_with turn.part part.heads part.course rest)
read_more turn last compared part o h left mid-left notes mid-notes e left' parts lefts before mid behind rest is goes samples added p r =
    record {
      through = r.through;
      conform = conform_more e parts (((p.passed).ended).through).conforms r.conform;
      gone = ((((p.passed).ended).through).gone, r.gone);
      heads_are = heads_more h claim turn.part e parts part.heads rest.heads p.heads_are r.heads_are;
      early_is = early_more b t turn.part e parts (part.course).is_early rest.early (p.passed).early (p.passed).later (subst E ((p.passed).ended).end_is r.early_is);
      first = λ c heads early. first-so c (none-first turn.part part.heads rest.heads heads) (none-early turn.part (part.course).is_early rest.early early) (part.course).found refl;
      same = λ c heads early none.
          let x = none-first turn.part part.heads rest.heads heads in
          let y = none-early turn.part (part.course).is_early rest.early early in
          let z = none-found (part.course).found rest.found none in
          let more = r.same (so c x.0 y.0 z.0) x.1 y.1 z.1 in (
            more.0,
            more.1 ∙ ap (λ ns. ns ++ gathered_of_all b parts) added ∙ append_assoc (map note_value (before.notes).items) (map note_value (part.notes).items) (gathered_of_all b parts)
                ∙ ap (λ ns. map note_value (before.notes).items ++ (ns ++ gathered_of_all b parts)) (((p.matched c x.0 y.0).gathered z.0).exported),
          );
      counted = (let more = r.counted in let here = p.samples_are in omega (arith, more, here, samples));
    }
  where
    claim : ClaimValue
    claim = ((turn.setting).claim).now

    a : ℤ
    a = moved_original turn

    b : ℤ
    b = moved_export turn

    t : ℤ
    t = (turn.from).ps

    v : ℤ
    v = last_end_by e (head_of e) b

    labels : List (Bor (List ℕ))
    labels = ((turn.setting).labels).now

    E : ℤ → Type 0
    E u = IsEarlyFound b u (turn.part + 1) parts rest.early

    so : turn.is_compared ≡ true → part.heads ≡ None → (part.course).is_early ≡ false → (part.course).found ≡ None → compared ≡ true
    so c x y z = goes (same-so turn.is_compared part.heads (part.course).is_early (part.course).found c x y z)

    span : Bool → Option Found
    span l = span_difference l claim (sampled o h a) (sampled e (head_of e) b) (places_in h (head_of e) labels) t v

    first-so : turn.is_compared ≡ true → (part.heads ≡ None) × (rest.heads ≡ None) → ((part.course).is_early ≡ false) × (rest.early ≡ None) → (found : Option Found) → (part.course).found ≡ found
        → serial_difference claim o h a b labels t (e ∷ parts) ≡ option_or (part.course).found rest.found
    first-so c x y found is-found =
        let here : (part.course).found ≡ span (is_last parts) = (p.matched c x.0 y.0).first (r.through).conforms ∙ ap span is in
        ap (λ f. option_or f (serial_difference claim o h a b labels v parts)) (sym here) ∙ behind-so found is-found
      where
        behind-so : (f : Option Found) → (part.course).found ≡ f → option_or (part.course).found (serial_difference claim o h a b labels v parts) ≡ option_or (part.course).found rest.found
        behind-so None none =
            let S : ℤ → Type 0 = λ u. serial_difference claim o h a b labels u parts ≡ rest.found in
            ap (option_or (part.course).found) (subst S ((p.passed).ended).end_is (r.first (so c x.0 y.0 none) x.1 y.1))
        behind-so (Some f) some = ap (λ z. option_or z (serial_difference claim o h a b labels v parts)) some ∙ ap (λ z. option_or z rest.found) (sym some)

-- ---- faults

-- a fault of the original, or else of the first part
pub fault_first : (o : List ℕ) (h : Head) (left : List ℕ) (first : ℕ) (part : List ℕ) (parts : List (List ℕ)) (w : FaultOf) → IsFaultBy o h left part first w → HaveFault first o h left (part ∷ parts) w
fault_first o h left first part parts (faults.Original fault) p = p
fault_first o h left first part parts (faults.Part other fault) p =
    let P : ℕ → Type 0 = λ k. IsFirstFault first (part ∷ parts) k fault in
    (p.1, subst P (sym p.0) (fault_here first part parts fault p.2), p.3)

-- or of those behind it
pub fault_behind : (o : List ℕ) (h : Head) (left : List ℕ) (first : ℕ) (part : List ℕ) (parts : List (List ℕ)) (w : FaultOf) → Conforms part (head_of part) → HaveFault (first + 1) o h left parts w → HaveFault first o h left (part ∷ parts) w
fault_behind o h left first part parts (faults.Original fault) c p = p
fault_behind o h left first part parts (faults.Part other fault) c p = (p.0, fault_later first part parts other fault (faultless_part part c) p.1, p.2)

-- ---- what was counted

lt-true : (a b : ℤ) → a <ℤ b → int_lt a b ≡ true
lt-true a b l = by_test (int_lt a b) (λ x. x ≡ true) (λ e. refl) (λ e. absurd (omega (arith, ints, e, l)))

lt-false : (a b : ℤ) → b ≤ℤ a → int_lt a b ≡ false
lt-false a b l = by_test (int_lt a b) (λ x. x ≡ false) (λ e. absurd (omega (arith, ints, e, l))) (λ e. refl)

-- a part that begins early, and those behind it, aren't compared
serial_early : (claim : ClaimValue) (o : List ℕ) (h : Head) (a b : ℤ) (labels : List (Bor (List ℕ))) (t : ℤ) (part : List ℕ) (parts : List (List ℕ)) → begin_by part (head_of part) b 0 <ℤ t
    → serial_counts claim o h a b labels t (part ∷ parts) ≡ uncounted (part ∷ parts)
serial_early claim o h a b labels t part parts early = rw (lt-true (begin_by part (head_of part) b 0) t early) refl

-- one that doesn't is compared
pub serial_later : (claim : ClaimValue) (o : List ℕ) (h : Head) (a b : ℤ) (labels : List (Bor (List ℕ))) (t : ℤ) (part : List ℕ) (parts : List (List ℕ)) → t ≤ℤ begin_by part (head_of part) b 0
    → serial_counts claim o h a b labels t (part ∷ parts)
    ≡ count_of part (span_counts (is_last parts) claim (two_files o h part (head_of part)) a b (places_in h (head_of part) labels) t (last_end_by part (head_of part) b))
    ∷ serial_counts claim o h a b labels (last_end_by part (head_of part) b) parts
serial_later claim o h a b labels t part parts later = rw (lt-false (begin_by part (head_of part) b 0) t later) refl

-- there is a count of each part
pub counted_each : (claim : ClaimValue) (o : List ℕ) (h : Head) (a b : ℤ) (labels : List (Bor (List ℕ))) (t : ℤ) (parts : List (List ℕ)) → length (serial_counts claim o h a b labels t parts) ≡ length parts
counted_each claim o h a b labels t [] = refl
counted_each claim o h a b labels t (part ∷ parts) =
    let v = last_end_by part (head_of part) b in
    let first = count_of part (span_counts (is_last parts) claim (two_files o h part (head_of part)) a b (places_in h (head_of part) labels) t v) in
    by_test (int_lt (begin_by part (head_of part) b 0) t) (λ x. length (if x then uncounted (part ∷ parts) else first ∷ serial_counts claim o h a b labels v parts) ≡ length (part ∷ parts))
    (λ e. length-map (part ∷ parts) (λ (file : List ℕ). count_of file [])) (λ e. ap suc (counted_each claim o h a b labels v parts))

-- ---- of a part and those behind it in its turn

turn_compared : (turn : Turn) (o : List ℕ) (h : Head) (parts : List (List ℕ)) → turn.is_compared ≡ true
    → turn_counts turn o h parts ≡ serial_counts ((turn.setting).claim).now o h (moved_original turn) (moved_export turn) ((turn.setting).labels).now (turn.from).ps parts
turn_compared turn o h parts is = rw is refl

turn_without : (turn : Turn) (o : List ℕ) (h : Head) (parts : List (List ℕ)) → turn.is_compared ≡ false → turn_counts turn o h parts ≡ uncounted parts
turn_without turn o h parts is = rw is refl

-- where it wasn't compared, none of them is
turn_uncounted : (turn : Turn) (course : Course) (o : List ℕ) (h : Head) (e : List ℕ) (parts : List (List ℕ)) → (course.is_early ≡ true → begin_by e (head_of e) (moved_export turn) 0 <ℤ (turn.from).ps)
    → was_compared turn course ≡ false → turn_counts turn o h (e ∷ parts) ≡ uncounted (e ∷ parts)
turn_uncounted turn course o h e parts early not-so = by turn.is_compared course.is_early refl refl
  where
    by : (compared flag : Bool) → turn.is_compared ≡ compared → course.is_early ≡ flag → turn_counts turn o h (e ∷ parts) ≡ uncounted (e ∷ parts)
    by false is c x = turn_without turn o h (e ∷ parts) c
    by true true c x = turn_compared turn o h (e ∷ parts) c
        ∙ serial_early ((turn.setting).claim).now o h (moved_original turn) (moved_export turn) ((turn.setting).labels).now (turn.from).ps e parts (early x)
    by true false c x = absurd (let z : true ≡ false = sym (compared-later turn.is_compared course.is_early c x) ∙ not-so in cc)

-- where it was, so is the next one if it doesn't begin early
turn_counted : (turn : Turn) (o : List ℕ) (h : Head) (e : List ℕ) (parts : List (List ℕ)) → (turn.from).ps ≤ℤ begin_by e (head_of e) (moved_export turn) 0 → turn.is_compared ≡ true → turn_counts turn o h (e ∷ parts)
    ≡ count_of e (span_counts (is_last parts) ((turn.setting).claim).now (two_files o h e (head_of e)) (moved_original turn) (moved_export turn) (places_in h (head_of e) ((turn.setting).labels).now) (turn.from).ps (last_end_by e (head_of e) (moved_export turn)))
    ∷ serial_counts ((turn.setting).claim).now o h (moved_original turn) (moved_export turn) ((turn.setting).labels).now (last_end_by e (head_of e) (moved_export turn)) parts
turn_counted turn o h e parts later is = turn_compared turn o h (e ∷ parts) is
    ∙ serial_later ((turn.setting).claim).now o h (moved_original turn) (moved_export turn) ((turn.setting).labels).now (turn.from).ps e parts later

-- what was counted of one part, compared
abbrev counted_in : Turn → Bool → List ℕ → Head → List ℕ → ExportCount
counted_in turn last o h e = count_of e (span_counts last ((turn.setting).claim).now (two_files o h e (head_of e)) (moved_original turn) (moved_export turn) (places_in h (head_of e) ((turn.setting).labels).now) (turn.from).ps (last_end_by e (head_of e) (moved_export turn)))

-- of the last part
pub counted_last : (turn : Turn) (last : Bool) (course : Course) (o : List ℕ) (h : Head) (e : List ℕ) (parts : List (List ℕ)) (before behind : List ExportCount) → last ≡ true → parts ≡ []
    → (course.is_early ≡ true → begin_by e (head_of e) (moved_export turn) 0 <ℤ (turn.from).ps) → (course.is_early ≡ false → (turn.from).ps ≤ℤ begin_by e (head_of e) (moved_export turn) 0)
    → (turn.is_compared ≡ true → course.is_early ≡ false → behind ≡ before ++ (counted_in turn last o h e ∷ [])) → (was_compared turn course ≡ false → behind ≡ before ++ uncounted (e ∷ []))
    → behind ≡ before ++ turn_counts turn o h (e ∷ parts)
counted_last turn last course o h e parts before behind is none early later here without = subst P (sym none) (by turn.is_compared course.is_early refl refl)
  where
    P : List (List ℕ) → Type 0
    P all = behind ≡ before ++ turn_counts turn o h (e ∷ all)

    apart : was_compared turn course ≡ false → P []
    apart w = without w ∙ ap (λ ts. before ++ ts) (sym (turn_uncounted turn course o h e [] early w))

    by : (compared flag : Bool) → turn.is_compared ≡ compared → course.is_early ≡ flag → P []
    by false x c y = apart (not-compared turn.is_compared course.is_early c)
    by true true c y = apart (compared-early turn.is_compared course.is_early y)
    by true false c y = here c y ∙ ap (λ l. before ++ (counted_in turn l o h e ∷ [])) is ∙ ap (λ ts. before ++ ts) (sym (turn_counted turn o h e [] (later y) c))

-- of a part, and of those behind it
pub counted_more : (turn : Turn) (last : Bool) (part : PartRead) (o : List ℕ) (h k : Head) (e : List ℕ) (parts more : List (List ℕ)) (before mid behind : List ExportCount) → last ≡ false → is_last more ≡ false → k ≡ h → parts ≡ more
    → ((part.course).end).ps ≡ last_end_by e (head_of e) (moved_export turn) → (part.course).is_beside ≡ was_compared turn part.course
    → ((part.course).is_early ≡ true → begin_by e (head_of e) (moved_export turn) 0 <ℤ (turn.from).ps) → ((part.course).is_early ≡ false → (turn.from).ps ≤ℤ begin_by e (head_of e) (moved_export turn) 0)
    → (turn.is_compared ≡ true → (part.course).is_early ≡ false → mid ≡ before ++ (counted_in turn last o h e ∷ [])) → (was_compared turn part.course ≡ false → mid ≡ before ++ uncounted (e ∷ []))
    → behind ≡ mid ++ turn_counts (next_turn turn last part (part.course).is_beside) o k more
    → behind ≡ before ++ turn_counts turn o h (e ∷ parts)
counted_more turn last part o h k e parts more before mid behind is some head same ends goes early later here without rest = subst P (sym same) (by turn.is_compared (part.course).is_early refl refl)
  where
    next : Turn
    next = next_turn turn last part (part.course).is_beside

    claim : ClaimValue
    claim = ((turn.setting).claim).now

    a : ℤ
    a = moved_original turn

    b : ℤ
    b = moved_export turn

    labels : List (Bor (List ℕ))
    labels = ((turn.setting).labels).now

    v : ℤ
    v = last_end_by e (head_of e) b

    P : List (List ℕ) → Type 0
    P all = behind ≡ before ++ turn_counts turn o h (e ∷ all)

    apart : was_compared turn part.course ≡ false → P more
    apart w = rest
        ∙ ap (λ ts. mid ++ ts) (turn_without next o k more (goes ∙ w))
        ∙ ap (λ ts. ts ++ uncounted more) (without w)
        ∙ append_assoc before (uncounted (e ∷ [])) (uncounted more)
        ∙ ap (λ ts. before ++ ts) (sym (turn_uncounted turn part.course o h e more early w))

    by : (compared flag : Bool) → turn.is_compared ≡ compared → (part.course).is_early ≡ flag → P more
    by false x c y = apart (not-compared turn.is_compared (part.course).is_early c)
    by true true c y = apart (compared-early turn.is_compared (part.course).is_early y)
    by true false c y = rest
        ∙ ap (λ ts. mid ++ ts) (turn_compared next o k more (goes ∙ compared-later turn.is_compared (part.course).is_early c y))
        ∙ ap (λ x. mid ++ serial_counts claim o x a b labels ((part.course).end).ps more) head
        ∙ ap (λ x. mid ++ serial_counts claim o h a b labels x more) ends
        ∙ ap (λ ts. ts ++ serial_counts claim o h a b labels v more) (here c y)
        ∙ append_assoc before (counted_in turn last o h e ∷ []) (serial_counts claim o h a b labels v more)
        ∙ ap (λ l. before ++ (counted_in turn l o h e ∷ serial_counts claim o h a b labels v more)) (is ∙ sym some)
        ∙ ap (λ ts. before ++ ts) (sym (turn_counted turn o h e more (later y) c))

-- ---- what was gathered

-- of the last part
pub gathered_last : (turn : Turn) (last : Bool) (o : List ℕ) (h : Head) (e : List ℕ) (parts : List (List ℕ)) (r : Reading) (held notes behind : List NoteValue) → last ≡ true → parts ≡ [] → (r.reader).head ≡ h
    → behind ≡ held ++ notes → AreGathered (record turn { is_last = last }) o h (gathered_so_far r) e (head_of e) notes → AreGatheredBehind turn o h (e ∷ parts) r held behind
gathered_last turn last o h e parts r held notes behind is none head added g = record {
  head = head;
  kept = g.kept is;
  exported = added
      ∙ ap (λ xs. held ++ xs) (g.exported ∙ sym (append-nil (gathered_of None (moved_export turn) (notes_of e (head_of e)))))
      ∙ ap (λ ps. held ++ gathered_of_all (moved_export turn) (e ∷ ps)) (sym none);
}

-- of a part, and of those behind it
pub gathered_more : (turn next : Turn) (last : Bool) (o : List ℕ) (h k : Head) (e : List ℕ) (parts more : List (List ℕ)) (q r : Reading) (held notes mid behind : List NoteValue) → next.setting ≡ turn.setting → parts ≡ more → k ≡ h
    → mid ≡ held ++ notes → AreGathered (record turn { is_last = last }) o h (gathered_so_far q) e (head_of e) notes → AreGatheredBehind next o k more r mid behind → AreGatheredBehind turn o h (e ∷ parts) r held behind
gathered_more turn next last o h k e parts more q r held notes mid behind setting same head added g rest = record {
  head = rest.head ∙ head;
  kept = rest.kept
      ∙ ap (λ x. gathered_of (Some ((next.setting).claim).now) (moved_original next) (notes_of o x)) head
      ∙ ap (λ (s : Setting). gathered_of (Some (s.claim).now) ((s.clock).original).ps (notes_of o h)) setting;
  exported = rest.exported
      ∙ ap (λ xs. xs ++ gathered_of_all (moved_export next) more) added
      ∙ append_assoc held notes (gathered_of_all (moved_export next) more)
      ∙ ap (λ xs. held ++ (xs ++ gathered_of_all (moved_export next) more)) g.exported
      ∙ ap (λ (s : Setting). held ++ (gathered_of None (moved_export turn) (notes_of e (head_of e)) ++ gathered_of_all ((s.clock).export).ps more)) setting
      ∙ ap (λ ps. held ++ gathered_of_all (moved_export turn) (e ∷ ps)) (sym same);
}
