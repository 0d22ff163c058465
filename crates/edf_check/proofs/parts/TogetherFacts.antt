-- From an original and its parts, as they were walked through, to the words of their bytes.
use Rattle.std.proofs.Common.{◌≡◌, ℕ, zero, suc, ◌+◌, ◌<◌, ◌^◌, ℤ, pos, neg_ℤ, ◌+ℤ◌, ◌≤ℤ◌, ◌<ℤ◌, unsigned_abs, Bor, List, [], ◌∷◌, ◌++◌, length, map, Option, None, Some, slice_get, inl, inr, true, refl, sym, ap, ◌∙◌, arith, subst}
use Rattle.std.proofs.lemmas.Int.{ints}
use Rattle.edf_claim.specs.ClaimValues.{ClaimValue}
use Rattle.edf_fields.specs.Lists.{Has}
use Rattle.edf_header.specs.Heads.{Head}
use Rattle.edf_header.specs.HeadsReading.{head_of}
use Rattle.edf_heads.specs.Comparisons.{AreSorted}
use Rattle.edf_heads.specs.HeadVerdicts.{HeadsAgree}
use Rattle.edf_stream.specs.Conforming.{Conforms}
use Rattle.edf_fields.specs.declared.faults.fault.Fault.{Fault}
use Rattle.edf_stream.specs.Faults.{body_fault, file_fault}
use Rattle.edf_stream.specs.annotation.Notes.{NoteValue}
use Rattle.edf_stream.specs.annotation.NotesReading.{notes_of}
use Rattle.edf_stream.specs.times.Starts.{file_start}
use Rattle.edf_stream.specs.Views.{note_value}
use Rattle.edf_stream.specs.declared.annotation.notes.Note.{Note}
use Rattle.edf_pace.specs.Annotations.{SameNotes}
use Rattle.std.proofs.lemmas.List.{length-map}
use Rattle.edf_stream.proofs.ForCallers.{sound-of, starts_late}
use Rattle.edf_verdict.specs.declared.verdict.Verdict.{Verdict}
use Rattle.edf_verdict.specs.declared.verdict.Verdict.TheVariants.{Yes, No}
use Rattle.edf_verdict.specs.declared.verdict.Difference.TheVariants as differences
use Rattle.edf_check.specs.declared.parts.found.PartVerdict.{PartVerdict}
use Rattle.edf_check.specs.declared.parts.found.PartsFound.{PartsFound}
use Rattle.edf_check.specs.declared.parts.series.Exported.{Exported}
use Rattle.edf_samples.specs.declared.earliest.Found.{Found}
use Rattle.edf_pace.specs.declared.walk.turn.Setting.{Setting}
use Rattle.edf_pace.specs.declared.walk.turn.Turn.{Turn}
use Rattle.edf_pace.specs.declared.walk.fault_of.FaultOf.{FaultOf}
use Rattle.edf_pace.specs.declared.walk.fault_of.FaultOf.TheVariants as faults
use Rattle.edf_check.specs.declared.finding.Finding.TheVariants as findings
use Rattle.edf_check.specs.Findings.{verdict_on}
use Rattle.edf_pace.specs.Kept.{shift_ps}
use Rattle.edf_check.specs.KeptReading.{origin_of, KeptAt}
use Rattle.edf_check.specs.parts.PartsFirst.{IsFirstHead}
use Rattle.edf_check.specs.parts.Parts.{AllConform, ExportedByOne, FollowOneAnother, exported_by_all, first_begin, last_end}
use Rattle.edf_check.specs.parts.PartsFound.{AllAgree, AllConformAt, AreOrdered, IsEarlyFound, IsFirstEarly, IsHeadsFound, end_before_part}
use Rattle.edf_check.specs.parts.PartsVerdicts.{AllAgreed, AllInOrder, HeadDiffers, IsFirstOverlap, IsPartsVerdict, IsVerdictOnParts, samples_of_all}
use Rattle.edf_check.specs.parts.Counted.{AreAllGathered, AreCounted, AreGatheredBehind, serial_counts}
use Rattle.edf_pace.specs.declared.walk.reading.Reading.{Reading}
use Rattle.edf_pace.specs.walk.Watching.{ExportCount}
use Rattle.edf_pace.specs.walk.Gathered.{gathered_of}
use Rattle.edf_pace.specs.walk.Readings.{IsSetting}
use Rattle.edf_pace.specs.walk.Ends.{moved_export, moved_original}
use Rattle.edf_check.specs.parts.Together.{AreRead, HaveFault, gathered_of_all, held_notes, serial_difference, AreFoundIn, AreJudged, IsFirstOfAll, IsLeftBy}
use Rattle.edf_pace.specs.walk.Shown.{begin_by, last_end_by}
use Rattle.edf_check.proofs.parts.FoundFacts.{faultless_part}
use Rattle.edf_check.proofs.parts.SeriesFacts.{IsFirst, parts_first, moved_part}
use Rattle.edf_fields.proofs.ForCallers.{has-at}

-- ---- parts by their places and by their bytes

-- what is said of the parts at all places is said of all parts
at-all : (P : List ℕ → Type 0) (parts : List (List ℕ)) → ((j : ℕ) (file : List ℕ) → slice_get parts j ≡ Some file → P file) → (part : List ℕ) → Has parts part → P part
at-all P [] all part i = absurd i
at-all P (x ∷ parts) all part (inl e) = subst P e (all 0 x refl)
at-all P (x ∷ parts) all part (inr i) = at-all P parts (λ j file there. all (suc j) file there) part i

all-conform : (o : List ℕ) (parts : List (List ℕ)) → Conforms o (head_of o) → AllConformAt parts → AllConform o parts
all-conform o parts c cs = record { original_conforms = c; parts_conform = at-all (λ part. Conforms part (head_of part)) parts cs }

all-agreed : (o : List ℕ) (parts : List (List ℕ)) (claim : ClaimValue) → Conforms o (head_of o) → AllConformAt parts → AllAgree (head_of o) claim parts → AllAgreed o parts claim
all-agreed o parts claim c cs as' = record { conform = all-conform o parts c cs; agree = at-all (λ part. HeadsAgree (head_of o) (head_of part) claim) parts as' }

-- ---- the order

pub end-moved : (part : List ℕ) (by : ℤ) → last_end_by part (head_of part) by ≡ last_end part +ℤ by
end-moved part by = omega (arith, ints)

pub begin-moved : (part : List ℕ) (by : ℤ) → begin_by part (head_of part) by 0 ≡ first_begin part +ℤ by
begin-moved part by = omega (arith, ints)

in-words : (one next : List ℕ) (by : ℤ) → last_end_by one (head_of one) by ≤ℤ begin_by next (head_of next) by 0 → last_end one ≤ℤ first_begin next
in-words one next by le = let a = end-moved one by in let b = begin-moved next by in omega (arith, ints, le, a, b)

plus-one : (j : ℕ) → j + 1 ≡ suc j
plus-one j = omega arith

follow-from : (by t : ℤ) (parts : List (List ℕ)) → AreOrdered by t parts → (j : ℕ) (x y : List ℕ) → slice_get parts j ≡ Some x → slice_get parts (suc j) ≡ Some y → last_end x ≤ℤ first_begin y
follow-from by t [] ordered j x y a b = absurd (let z : None ≡ Some x = a in cc)
follow-from by t (one ∷ []) ordered j x y a b = absurd (let z : None ≡ Some y = b in cc)
follow-from by t (one ∷ next ∷ parts) ordered zero x y a b =
    let same : one ≡ x = (let z : Some one ≡ Some x = a in cc) in
    let other : next ≡ y = (let z : Some next ≡ Some y = b in cc) in
    subst (λ p. last_end p ≤ℤ first_begin y) same (subst (λ q. last_end one ≤ℤ first_begin q) other (in-words one next by (ordered.1).0))
follow-from by t (one ∷ next ∷ parts) ordered (suc j) x y a b = follow-from by (last_end_by one (head_of one) by) (next ∷ parts) ordered.1 j x y a b

follow-on : (by t : ℤ) (parts : List (List ℕ)) → AreOrdered by t parts → FollowOneAnother parts
follow-on by t parts ordered j x y a b = follow-from by t parts ordered j x y a (subst (λ k. slice_get parts k ≡ Some y) (plus-one j) b)

-- where the part at a place ends
end-at : (by t : ℤ) (parts : List (List ℕ)) (j : ℕ) (one : List ℕ) → slice_get parts j ≡ Some one → end_before_part by t parts (suc j) ≡ last_end_by one (head_of one) by
end-at by t [] j one e = absurd (let z : None ≡ Some one = e in cc)
end-at by t (x ∷ parts) zero one e = let same : x ≡ one = (let z : Some x ≡ Some one = e in cc) in ap (λ y. last_end_by y (head_of y) by) same
end-at by t (x ∷ parts) (suc j) one e = end-at by (last_end_by x (head_of x) by) parts j one e

-- before a part that is there others are there
there-before : (parts : List (List ℕ)) (j : ℕ) (next : List ℕ) → slice_get parts (suc j) ≡ Some next → (one : List ℕ) × (slice_get parts j ≡ Some one)
there-before [] j next e = absurd (let z : None ≡ Some next = e in cc)
there-before (x ∷ parts) zero next e = (x, refl)
there-before (x ∷ parts) (suc j) next e = there-before parts j next e

-- no part begins before all times
pub from-beginning : (part : List ℕ) (by : ℤ) → Conforms part (head_of part) → unsigned_abs by < 2 ^ 80 → neg_ℤ (pos (2 ^ 90)) ≤ℤ begin_by part (head_of part) by 0
from-beginning part by c near =
    let day = ((sound-of part (head_of part) c).bounds).near in
    let late = starts_late part (head_of part) c in
    omega (arith, ints, near, day, late)

overlap : (by t : ℤ) (parts : List (List ℕ)) (part : ℕ) → t ≡ neg_ℤ (pos (2 ^ 90)) → unsigned_abs by < 2 ^ 80 → AllConformAt parts → (e : IsFirstEarly by t 0 parts part) → (at : ℕ) → e.at ≡ at → IsFirstOverlap parts part
overlap by t parts part is near cs e zero z =
    let c = cs e.at e.file (e.is).there in
    let low = from-beginning e.file by c near in
    let P : ℕ → Type 0 = λ k. begin_by e.file (head_of e.file) by 0 <ℤ end_before_part by t parts k in
    let early : begin_by e.file (head_of e.file) by 0 <ℤ t = subst P z e.early in
    absurd (omega (arith, ints, early, is, low))
overlap by t parts part is near cs e (suc j) z =
    let Q : ℕ → Type 0 = λ k. slice_get parts k ≡ Some e.file in
    let there : slice_get parts (suc j) ≡ Some e.file = subst Q z (e.is).there in
    let one = there-before parts j e.file there in
    let P : ℕ → Type 0 = λ k. begin_by e.file (head_of e.file) by 0 <ℤ end_before_part by t parts k in
    let early : begin_by e.file (head_of e.file) by 0 <ℤ end_before_part by t parts (suc j) = subst P z e.early in
    let ends = end-at by t parts j one.0 one.1 in
    let a = end-moved one.0 by in
    let b = begin-moved e.file by in
    let number = (e.is).number in
    record {
      before = j;
      number = omega (arith, number, z);
      one = one.0;
      next = e.file;
      one_is = one.1;
      next_is = subst (λ k. slice_get parts k ≡ Some e.file) (sym (plus-one j)) there;
      early = omega (arith, ints, early, ends, a, b);
      none_before = λ k x y lt xs ys.
          let late = e.none_before (suc k) y (omega (arith, lt, z)) (subst (λ i. slice_get parts i ≡ Some y) (plus-one k) ys) in
          let before = end-at by t parts k x xs in
          in-words x y by (subst (λ v. v ≤ℤ begin_by y (head_of y) by 0) before late);
    }

-- ---- the samples and the annotations

gathered-is : (o : List ℕ) (claim : ClaimValue) (parts : List (List ℕ)) → gathered_of_all (moved_part o claim) parts ≡ exported_by_all o parts claim
gathered-is o claim [] = refl
gathered-is o claim (part ∷ parts) = ap (λ ns. gathered_of None (moved_part o claim) (notes_of part (head_of part)) ++ ns) (gathered-is o claim parts)

-- before the original begins
pub before-all : (o : List ℕ) (t : ℤ) → Conforms o (head_of o) → t ≡ neg_ℤ (pos (2 ^ 90)) → t ≤ℤ begin_by o (head_of o) (neg_ℤ (origin_of o)) 0
before-all o t c is = let late = starts_late o (head_of o) c in omega (arith, ints, is, late)

-- parts of which no header differs and none begins early
serial-first : (claim : ClaimValue) (o : List ℕ) (labels : List (Bor (List ℕ))) (t : ℤ) (parts : List (List ℕ)) (found : Option Found) → t ≡ neg_ℤ (pos (2 ^ 90)) → AreSorted claim.channels labels → 0 < length parts → Conforms o (head_of o) → AllConformAt parts
    → AllAgree (head_of o) claim parts → AreOrdered (moved_part o claim) t parts → serial_difference claim o (head_of o) (neg_ℤ (origin_of o)) (moved_part o claim) labels t parts ≡ found
    → AllInOrder o parts claim × IsFirst (KeptAt o claim) (ExportedByOne o parts claim) labels found
serial-first claim o labels t [] found is sorted some c cs agree ordered s = absurd (omega (arith, some))
serial-first claim o labels t (part ∷ parts) found is sorted some c cs agree ordered s =
    let agreed = all-agreed o (part ∷ parts) claim c cs agree in
    let first = parts_first o claim labels t part parts c (agreed.conform).parts_conform agreed.agree sorted ordered (before-all o t c is) in (
      record { agreed = agreed; order = follow-on (moved_part o claim) t (part ∷ parts) ordered },
      subst (IsFirst (KeptAt o claim) (ExportedByOne o (part ∷ parts) claim) labels) s first,
    )

-- ---- all

-- what the turn of the first part finds is found of all, by what is found
found-so : (turn : Turn) (o left : List ℕ) (notes : List NoteValue) (parts lefts : List (List ℕ)) (before behind : Exported) (found : PartsFound) → (turn.from).ps ≡ neg_ℤ (pos (2 ^ 90)) → turn.part ≡ 0 → turn.is_compared ≡ true
    → moved_original turn ≡ neg_ℤ (origin_of o) → moved_export turn ≡ moved_part o ((turn.setting).claim).now → unsigned_abs (moved_export turn) < 2 ^ 80
    → AreSorted (((turn.setting).claim).now).channels ((turn.setting).labels).now → 0 < length parts → (before.notes).items ≡ [] → AreRead turn o (head_of o) left notes parts lefts before behind found
    → (heads : Option PartVerdict) (early : Option ℕ) (first : Option Found) → found.heads ≡ heads → found.early ≡ early → found.found ≡ first
    → AreFoundIn o parts ((turn.setting).claim).now (map (λ l. l.now) ((turn.setting).labels).now) notes (map note_value (behind.notes).items) heads early first
found-so turn o left notes parts lefts before behind found is zero' compared ha hb near sorted some none r (Some p) early first eh ee ef =
    let claim = ((turn.setting).claim).now in
    let P : Option PartVerdict → Type 0 = IsHeadsFound (head_of o) claim turn.part parts in
    let Q : ℕ → Type 0 = λ k. IsFirstHead (head_of o) claim k parts p.part p.verdict in
    (all-conform o parts (r.through).conforms r.conform, subst Q zero' (subst P eh r.heads_are))
found-so turn o left notes parts lefts before behind found is zero' compared ha hb near sorted some none r None (Some part) first eh ee ef =
    let claim = ((turn.setting).claim).now in
    let P : Option PartVerdict → Type 0 = IsHeadsFound (head_of o) claim turn.part parts in
    let Q : Option ℕ → Type 0 = IsEarlyFound (moved_export turn) (turn.from).ps turn.part parts in
    let N : ℕ → Type 0 = λ k. IsFirstEarly (moved_export turn) (turn.from).ps k parts part in
    let e = subst N zero' (subst Q ee r.early_is) in
    (all-agreed o parts claim (r.through).conforms r.conform (subst P eh r.heads_are), overlap (moved_export turn) (turn.from).ps parts part is near r.conform e e.at refl)
found-so turn o left notes parts lefts before behind found is zero' compared ha hb near sorted some none r None None first eh ee ef = by first ef
  where
    claim : ClaimValue
    claim = ((turn.setting).claim).now

    P : Option PartVerdict → Type 0
    P = IsHeadsFound (head_of o) claim turn.part parts

    Q : Option ℕ → Type 0
    Q = IsEarlyFound (moved_export turn) (turn.from).ps turn.part parts

    O : ℤ → Type 0
    O b = AreOrdered b (turn.from).ps parts

    D : ℤ → ℤ → Type 0
    D a b = serial_difference claim o (head_of o) a b ((turn.setting).labels).now (turn.from).ps parts ≡ found.found

    whole : AllInOrder o parts claim × IsFirst (KeptAt o claim) (ExportedByOne o parts claim) ((turn.setting).labels).now found.found
    whole = serial-first claim o ((turn.setting).labels).now (turn.from).ps parts found.found is sorted some (r.through).conforms r.conform (subst P eh r.heads_are) (subst O hb (subst Q ee r.early_is))
        (subst (D (neg_ℤ (origin_of o))) hb (subst (λ a. D a (moved_export turn)) ha (r.first compared eh ee)))

    by : (f : Option Found) → found.found ≡ f → AreFoundIn o parts claim (map (λ l. l.now) ((turn.setting).labels).now) notes (map note_value (behind.notes).items) None None f
    by (Some f) e = let F : Option Found → Type 0 = IsFirst (KeptAt o claim) (ExportedByOne o parts claim) ((turn.setting).labels).now in (whole.0, subst F e whole.1)
    by None e =
        let F : Option Found → Type 0 = IsFirst (KeptAt o claim) (ExportedByOne o parts claim) ((turn.setting).labels).now in
        let same = r.same compared eh ee e in (
          whole.0,
          subst F e whole.1,
          same.0 ∙ ap (λ a. gathered_of (Some claim) a (notes_of o (head_of o))) ha,
          same.1 ∙ ap (λ ns. map note_value ns ++ gathered_of_all (moved_export turn) parts) none ∙ ap (λ b. gathered_of_all b parts) hb ∙ gathered-is o claim parts,
        )

pub found_together : (turn : Turn) (o : List ℕ) (h k : Head) (left : List ℕ) (notes : List NoteValue) (parts lefts : List (List ℕ)) (before behind : Exported) (found : PartsFound) → AreRead turn o h left notes parts lefts before behind found
    → (turn.from).ps ≡ neg_ℤ (pos (2 ^ 90)) → turn.part ≡ 0 → turn.is_compared ≡ true → h ≡ head_of o → k ≡ head_of o → IsSetting k turn.setting → 0 < length parts → (before.notes).items ≡ [] → before.samples ≡ 0
    → AreJudged o parts turn.setting notes behind found
found_together turn o h k left notes parts lefts before behind found r is zero' compared head head' setting some none nought =
    let P : Head → Type 0 = λ x. AreRead turn o x left notes parts lefts before behind found in
    let clock = setting.clock in
    record {
      found_are = found-so turn o left notes parts lefts before behind found is zero' compared (clock.original ∙ ap (λ x. neg_ℤ (file_start x)) head') (clock.export ∙ ap (λ x. neg_ℤ (file_start x +ℤ shift_ps ((turn.setting).claim).now)) head')
          (((turn.setting).clock).export).near setting.sorted some none (subst P head r) found.heads found.early found.found refl refl refl;
      samples_are = (let counted = r.counted in omega (arith, counted, nought));
    }

-- a fault of the parts from the first one on is the first of all
pub first_of_all : (o : List ℕ) (h : Head) (left : List ℕ) (parts : List (List ℕ)) (w : FaultOf) → file_fault o ≡ body_fault o h → HaveFault 0 o h left parts w → IsFirstOfAll o parts w × IsLeftBy w left
first_of_all o h left parts (faults.Original fault) is w = (is ∙ w, tt)
first_of_all o h left parts (faults.Part part fault) is w = ((is ∙ w.0, w.1), w.2)

pub fault_verdict : (o : List ℕ) (parts : List (List ℕ)) (claim : ClaimValue) (w : FaultOf) → IsFirstOfAll o parts w → IsPartsVerdict o parts claim (verdict_on (findings.Fault w))
fault_verdict o parts claim (faults.Original fault) is = (refl, is)
fault_verdict o parts claim (faults.Part part fault) is = is

-- what was found, where the kinds before it weren't
pub found_as : (o : List ℕ) (parts : List (List ℕ)) (setting : Setting) (kept : List NoteValue) (exported : Exported) (found : PartsFound) (heads : Option PartVerdict) (early : Option ℕ) (first : Option Found)
    → found.heads ≡ heads → found.early ≡ early → found.found ≡ first → AreJudged o parts setting kept exported found
    → AreFoundIn o parts (setting.claim).now (map (λ label. label.now) (setting.labels).now) kept (map note_value (exported.notes).items) heads early first
found_as o parts setting kept exported found heads early first p q r judged =
    let F : Option PartVerdict → Option ℕ → Option Found → Type 0 = AreFoundIn o parts (setting.claim).now (map (λ label. label.now) (setting.labels).now) kept (map note_value (exported.notes).items) in
    subst (F heads early) r (subst (λ e. F heads e found.found) q (subst (λ h. F h found.early found.found) p judged.found_are))

-- where nothing was found, the verdict is a Yes
pub nothing_found : (o : List ℕ) (parts : List (List ℕ)) (claim : ClaimValue) (labels : List (List ℕ)) (kept : List NoteValue) (notes : List Note) (samples : ℕ)
    → AreFoundIn o parts claim labels kept (map note_value notes) None None None → SameNotes kept (map note_value notes) → samples ≡ samples_of_all parts
    → IsVerdictOnParts o parts claim 0 (Yes (length claim.channels) samples (length notes))
nothing_found o parts claim labels kept notes samples found same counted =
    let agreed = (found.0).agreed in (
      refl,
      agreed.conform,
      record {
        heads = agreed.agree;
        order = (found.0).order;
        samples = found.1;
        notes = subst (λ ns. SameNotes ns (exported_by_all o parts claim)) found.2 (subst (SameNotes kept) found.3 same);
      },
      record { channels_are = refl; samples_are = counted; annotations_are = sym (length-map notes note_value) ∙ ap length found.3 },
    )

-- the first difference of headers is the verdict
pub of_head : (o : List ℕ) (parts : List (List ℕ)) (claim : ClaimValue) (part : ℕ) (v : Verdict) → HeadDiffers o parts claim part v → IsVerdictOnParts o parts claim part v
of_head o parts claim part (Yes channels samples annotations) h = absurd (h.1).differs
of_head o parts claim part (No (differences.OriginalFault fault)) h = absurd (h.1).differs
of_head o parts claim part (No (differences.ExportFault fault)) h = absurd (h.1).differs
of_head o parts claim part (No differences.PartOrder) h = absurd (h.1).differs
of_head o parts claim part (No (differences.Sample label at_ps mismatch)) h = absurd (h.1).differs
of_head o parts claim part (No (differences.Annotation mismatch onset duration text)) h = absurd (h.1).differs
of_head o parts claim part v h = h

-- ---- what was counted

-- of parts that follow one another none begins early
not-early : (by t : ℤ) (first : ℕ) (parts : List (List ℕ)) (found : Option ℕ) → t ≡ neg_ℤ (pos (2 ^ 90)) → unsigned_abs by < 2 ^ 80 → first ≡ 0 → AllConformAt parts → FollowOneAnother parts → IsEarlyFound by t first parts found → found ≡ None
not-early by t first parts None is near zero' cs follow e = refl
not-early by t first parts (Some part) is near zero' cs follow e =
    let N : ℕ → Type 0 = λ k. IsFirstEarly by t k parts part in
    let early = subst N zero' e in
    let at = overlap by t parts part is near cs early early.at refl in
    let before = at.early in
    let order = follow at.before at.one at.next at.one_is at.next_is in
    absurd (omega (arith, ints, before, order))

pub counted_together : (turn : Turn) (o : List ℕ) (h k : Head) (left : List ℕ) (notes : List NoteValue) (parts lefts : List (List ℕ)) (before behind : Exported) (found : PartsFound) (held now : List ExportCount) → AreRead turn o h left notes parts lefts before behind found
    → (turn.from).ps ≡ neg_ℤ (pos (2 ^ 90)) → h ≡ head_of o → k ≡ head_of o → IsSetting k turn.setting
    → (Conforms o h → now ≡ held ++ serial_counts ((turn.setting).claim).now o h (moved_original turn) (moved_export turn) ((turn.setting).labels).now (turn.from).ps parts)
    → AreCounted o parts ((turn.setting).claim).now held now
counted_together turn o h k left notes parts lefts before behind found held now r is head head' setting counted =
    let claim = ((turn.setting).claim).now in
    let labels = ((turn.setting).labels).now in
    let clock = setting.clock in
    let a : moved_original turn ≡ neg_ℤ (origin_of o) = clock.original ∙ ap (λ x. neg_ℤ (file_start x)) head' in
    let b : moved_export turn ≡ neg_ℤ (origin_of o +ℤ shift_ps claim) = clock.export ∙ ap (λ x. neg_ℤ (file_start x +ℤ shift_ps claim)) head' in
    record {
      labels = labels;
      sorted = setting.sorted;
      are = counted (r.through).conforms
          ∙ ap (λ x. held ++ serial_counts claim o x (moved_original turn) (moved_export turn) labels (turn.from).ps parts) head
          ∙ ap (λ x. held ++ serial_counts claim o (head_of o) x (moved_export turn) labels (turn.from).ps parts) a
          ∙ ap (λ x. held ++ serial_counts claim o (head_of o) (neg_ℤ (origin_of o)) x labels (turn.from).ps parts) b
          ∙ ap (λ x. held ++ serial_counts claim o (head_of o) (neg_ℤ (origin_of o)) (neg_ℤ (origin_of o +ℤ shift_ps claim)) labels x parts) is;
    }

-- what was gathered of them is what is kept of the original, and what all of them hold
pub gathered_together : (turn : Turn) (o : List ℕ) (h k : Head) (left : List ℕ) (notes : List NoteValue) (parts lefts : List (List ℕ)) (before behind : Exported) (found : PartsFound) (r : Reading) → AreRead turn o h left notes parts lefts before behind found
    → (turn.from).ps ≡ neg_ℤ (pos (2 ^ 90)) → turn.part ≡ 0 → h ≡ head_of o → k ≡ head_of o → IsSetting k turn.setting → (before.notes).items ≡ [] → FollowOneAnother parts
    → (found.early ≡ None → Conforms o h → AreGatheredBehind turn o h parts r (held_notes before) (held_notes behind))
    → AreAllGathered o parts ((turn.setting).claim).now r (held_notes behind)
gathered_together turn o h k left notes parts lefts before behind found r read is zero' head head' setting none follow gathered =
    let claim = ((turn.setting).claim).now in
    let clock = setting.clock in
    let early = not-early (moved_export turn) (turn.from).ps turn.part parts found.early is (((turn.setting).clock).export).near zero' read.conform follow read.early_is in
    let all = gathered early (read.through).conforms in
    let a : moved_original turn ≡ neg_ℤ (origin_of o) = clock.original ∙ ap (λ x. neg_ℤ (file_start x)) head' in
    let b : moved_export turn ≡ moved_part o claim = clock.export ∙ ap (λ x. neg_ℤ (file_start x +ℤ shift_ps claim)) head' in
    record {
      head = all.head ∙ head;
      kept_are = all.kept ∙ ap (λ x. gathered_of (Some claim) (moved_original turn) (notes_of o x)) head ∙ ap (λ x. gathered_of (Some claim) x (notes_of o (head_of o))) a;
      exported_are = all.exported ∙ ap (λ ns. map note_value ns ++ gathered_of_all (moved_export turn) parts) none ∙ ap (λ x. gathered_of_all x parts) b ∙ gathered-is o claim parts;
    }

no-fault : (file : List ℕ) (fault : Fault) → file_fault file ≡ Some fault → file_fault file ≡ None → ⊥
no-fault file fault some none = let z : Some fault ≡ None = sym some ∙ none in cc

-- files that conform have no fault
pub none_faulty : (o : List ℕ) (parts : List (List ℕ)) (w : FaultOf) → AllConform o parts → IsFirstOfAll o parts w → ⊥
none_faulty o parts (faults.Original fault) all is = no-fault o fault is (faultless_part o all.original_conforms)
none_faulty o parts (faults.Part part fault) all is =
    let f = is.1 in
    no-fault f.file fault f.fault_is (faultless_part f.file (all.parts_conform f.file (has-at parts f.at f.file (f.is).there)))

-- one export conforms
pub one_conforms : (o e : List ℕ) → Conforms o (head_of o) → Conforms e (head_of e) → AllConform o (e ∷ [])
one_conforms o e co ce = record {
  original_conforms = co;
  parts_conform = λ part i. (let P : List ℕ → Type 0 = λ f. Conforms f (head_of f) in elim i [ inl same ↦ subst P same ce | inr none ↦ absurd none ]);
}
