-- Of several parts a Yes is said exactly where they are together the export; and of a single part what is said of an export.
use Rattle.std.proofs.Common.{◌≡◌, ◌↔◌, ◌+◌, ℕ, zero, suc, neg_ℤ, ◌+ℤ◌, List, [], ◌∷◌, length, None, Some, inl, ⊎_elim, refl, sym, ap, ◌∙◌, arith, subst}
use Rattle.std.proofs.lemmas.List.{append-nil, length-map}
use Rattle.std.proofs.lemmas.List.Sorted.{length_permutation}
use Rattle.edf_claim.specs.ClaimValues.{ClaimValue}
use Rattle.edf_fields.specs.declared.faults.fault.Fault.{Fault}
use Rattle.edf_fields.specs.Lists.{Has}
use Rattle.edf_header.specs.signals.Channels.{channel_labels, channels_among}
use Rattle.edf_header.specs.HeadsReading.{head_of}
use Rattle.edf_heads.specs.HeadVerdicts.{HeadsAgree, IsHeadVerdict}
use Rattle.edf_stream.specs.Conforming.{Conforms}
use Rattle.edf_stream.specs.Faults.{file_fault}
use Rattle.edf_stream.specs.annotation.Notes.{NoteValue, moved_by}
use Rattle.edf_stream.specs.annotation.NotesReading.{notes_of}
use Rattle.edf_verdict.specs.declared.verdict.Verdict.{Verdict}
use Rattle.edf_verdict.specs.declared.verdict.Verdict.TheVariants.{Yes, No}
use Rattle.edf_verdict.specs.declared.verdict.Difference.TheVariants as differences
use Rattle.edf_pace.specs.Annotations.{IsFirstNote}
use Rattle.edf_check.specs.Courses.{Course, Agree}
use Rattle.edf_check.specs.Exports.{BothConform}
use Rattle.edf_check.specs.Headline.{AreCounts}
use Rattle.edf_pace.specs.Kept.{shift_ps}
use Rattle.edf_check.specs.KeptReading.{origin_of, KeptAt, ExportedAt, exported_notes, kept_notes}
use Rattle.edf_check.specs.Laws.{OnePartVerdict}
use Rattle.edf_check.specs.parts.Parts.{AllConform, ExportedByOne, exported_by_all}
use Rattle.edf_check.specs.parts.PartsFirst.{IsPart}
use Rattle.edf_check.specs.parts.PartsFound.{AllAgree}
use Rattle.edf_check.specs.parts.PartsVerdicts.{AllInOrder, HaveCounts, HeadDiffers, IsVerdictOnParts}
use Rattle.edf_check.specs.Verdicts.{IsVerdict}
use Rattle.edf_check.proofs.CourseFacts.{IsCourse, agree-alike, agree-back, agree-self, first-alike}
use Rattle.edf_check.proofs.parts.FoundFacts.{fault_here, head_alone}
use Rattle.edf_check.proofs.parts.PartsFacts.{alone-in-order, one_part}
use Rattle.edf_check.proofs.parts.SeriesFacts.{one-alone}

-- a file that conforms has no fault
pub no-fault : (file : List ℕ) (fault : Fault) → file_fault file ≡ Some fault → file_fault file ≡ None → ⊥
no-fault file fault e none = let z : Some fault ≡ None = sym e ∙ none in cc

pub agreeing-course : (K E : Course) → IsCourse K → Agree K E → IsCourse E
agreeing-course K E k a = record {
  moves = λ l t u v pt pu s h. (a l u v pu).0 (k.moves l t u v pt pu s ((a l t v pt).1 h));
  one = λ l t v w p x y. k.one l t v w p ((a l t v p).1 x) ((a l t w p).1 y);
}

-- ---- a single part

alone : (P : List ℕ → Type 0) (e part : List ℕ) → Has (e ∷ []) part → P e → P part
alone P e part i p = ⊎_elim (λ same. subst P same p) (λ j. absurd j) i

pub one-conforms : (o e : List ℕ) → BothConform o e → AllConform o (e ∷ [])
one-conforms o e both = record { original_conforms = both.original_conforms; parts_conform = λ part i. alone (λ x. Conforms x (head_of x)) e part i both.export_conforms }

pub conforms-alone : (o e : List ℕ) → AllConform o (e ∷ []) → BothConform o e
conforms-alone o e all = record { original_conforms = all.original_conforms; export_conforms = all.parts_conform e (inl refl) }

one-in-order : (o e : List ℕ) (c : ClaimValue) → BothConform o e → HeadsAgree (head_of o) (head_of e) c → AllInOrder o (e ∷ []) c
one-in-order o e c both agree = record {
  agreed = record { conform = one-conforms o e both; agree = λ part i. alone (λ x. HeadsAgree (head_of o) (head_of x) c) e part i agree };
  order = alone-in-order e;
}

none-agree : (o : List ℕ) (c : ClaimValue) → AllAgree (head_of o) c []
none-agree o c j file there = absurd (let z : None ≡ Some file = there in cc)

one-differs : (o e : List ℕ) (c : ClaimValue) (v : Verdict) → BothConform o e × IsHeadVerdict (head_of o) (head_of e) c v → HeadDiffers o (e ∷ []) c 0 v
one-differs o e c v h = (one-conforms o e h.0, head_alone (head_of o) c 0 e [] v h.1 (none-agree o c))

-- of one part all is said of part 0
the-one : (e file : List ℕ) (part at : ℕ) → IsPart 0 (e ∷ []) part at file → (part ≡ 0) × (file ≡ e)
the-one e file part zero is = (is.number, (let z : Some e ≡ Some file = is.there in cc))
the-one e file part (suc k) is = absurd (let z : None ≡ Some file = is.there in cc)

differs-alone : (o e : List ℕ) (c : ClaimValue) (part : ℕ) (v : Verdict) → HeadDiffers o (e ∷ []) c part v → (part ≡ 0) × BothConform o e × IsHeadVerdict (head_of o) (head_of e) c v
differs-alone o e c part v h =
    let f = h.1 in
    let one = the-one e f.file part f.at f.is in
    (one.0, conforms-alone o e h.0, subst (λ x. IsHeadVerdict (head_of o) (head_of x) c v) one.1 f.differs)

all-of-one : (o e : List ℕ) (c : ClaimValue) → exported_by_all o (e ∷ []) c ≡ exported_notes o e c
all-of-one o e c = append-nil (exported_notes o e c)

channels-claimed : (o e : List ℕ) (c : ClaimValue) → HeadsAgree (head_of o) (head_of e) c → length c.channels ≡ length (channels_among (head_of e).signals)
channels-claimed o e c agree = sym (length_permutation c.channels (channel_labels (head_of e).signals) (agree.channels).in_export) ∙ length-map (channels_among (head_of e).signals) (λ channel. channel.label)

annotations-of-one : (o e : List ℕ) (c : ClaimValue) → length (exported_by_all o (e ∷ []) c) ≡ length (notes_of e (head_of e))
annotations-of-one o e c = ap length (all-of-one o e c) ∙ length-map (notes_of e (head_of e)) (moved_by (neg_ℤ (origin_of o +ℤ shift_ps c)))

counts-alone : (o e : List ℕ) (c : ClaimValue) (channels samples annotations : ℕ) → HeadsAgree (head_of o) (head_of e) c
    → AreCounts (head_of e) (notes_of e (head_of e)) channels samples annotations ↔ HaveCounts o (e ∷ []) c channels samples annotations
counts-alone o e c channels samples annotations agree =
    let k = channels-claimed o e c agree in
    let n = annotations-of-one o e c in (
      λ h. (let s = h.samples_are in record { channels_are = h.channels_are ∙ sym k; samples_are = omega (arith, s); annotations_are = h.annotations_are ∙ sym n }),
      λ h. (let s = h.samples_are in record { channels_are = h.channels_are ∙ k; samples_are = omega (arith, s); annotations_are = h.annotations_are ∙ n }),
    )

pub to-parts : (o e : List ℕ) (c : ClaimValue) (v : Verdict) → IsVerdict o e c v → IsVerdictOnParts o (e ∷ []) c 0 v
to-parts o e c (Yes channels samples annotations) h = (refl, one-conforms o e h.0, (one_part o e c).1 h.1, (counts-alone o e c channels samples annotations (h.1).heads).0 h.2)
to-parts o e c (No (differences.OriginalFault fault)) h = (refl, h)
to-parts o e c (No (differences.ExportFault fault)) h = (h.0, fault_here 0 e [] fault h.1)
to-parts o e c (No differences.PartOrder) h = absurd h
to-parts o e c (No (differences.Sample label at_ps mismatch)) h =
    (refl, one-in-order o e c h.0 h.1, first-alike (KeptAt o c) (KeptAt o c) (ExportedAt o e c) (ExportedByOne o (e ∷ []) c) (agree-self (KeptAt o c)) (one-alone o e c) label at_ps mismatch h.2)
to-parts o e c (No (differences.Annotation mismatch onset duration text)) h =
    let note : NoteValue = record { onset = onset; duration = duration; text = text } in (
      refl,
      one-in-order o e c h.0 h.1,
      agree-alike (KeptAt o c) (KeptAt o c) (ExportedAt o e c) (ExportedByOne o (e ∷ []) c) (agree-self (KeptAt o c)) (one-alone o e c) h.2,
      subst (λ ns. IsFirstNote (kept_notes o c) ns mismatch note) (sym (all-of-one o e c)) h.3,
    )
to-parts o e c v h = one-differs o e c v h

of-parts : (o e : List ℕ) (c : ClaimValue) (part : ℕ) (v : Verdict) → IsVerdictOnParts o (e ∷ []) c part v → (part ≡ 0) × IsVerdict o e c v
of-parts o e c part (Yes channels samples annotations) h =
    let x = (one_part o e c).0 h.2 in
    (h.0, (conforms-alone o e h.1, x, (counts-alone o e c channels samples annotations x.heads).1 h.3))
of-parts o e c part (No (differences.OriginalFault fault)) h = h
of-parts o e c part (No (differences.ExportFault fault)) h =
    let f = h.1 in
    let one = the-one e f.file part f.at f.is in
    (one.0, (h.0, subst (λ x. file_fault x ≡ Some fault) one.1 f.fault_is))
of-parts o e c part (No differences.PartOrder) h =
    let p = h.1 in
    let second : IsPart 0 (e ∷ []) (p.before + 1) (p.before + 1) p.next = record { number = omega arith; there = p.next_is } in
    absurd (let z = (the-one e p.next (p.before + 1) (p.before + 1) second).0 in omega (arith, z))
of-parts o e c part (No (differences.Sample label at_ps mismatch)) h =
    let all = (h.1).agreed in (
      h.0,
      (
        conforms-alone o e all.conform,
        all.agree e (inl refl),
        first-alike (KeptAt o c) (KeptAt o c) (ExportedByOne o (e ∷ []) c) (ExportedAt o e c) (agree-self (KeptAt o c)) (agree-back (ExportedAt o e c) (ExportedByOne o (e ∷ []) c) (one-alone o e c)) label at_ps mismatch h.2,
      ),
    )
of-parts o e c part (No (differences.Annotation mismatch onset duration text)) h =
    let all = (h.1).agreed in
    let note : NoteValue = record { onset = onset; duration = duration; text = text } in (
      h.0,
      (
        conforms-alone o e all.conform,
        all.agree e (inl refl),
        agree-alike (KeptAt o c) (KeptAt o c) (ExportedByOne o (e ∷ []) c) (ExportedAt o e c) (agree-self (KeptAt o c)) (agree-back (ExportedAt o e c) (ExportedByOne o (e ∷ []) c) (one-alone o e c)) h.2,
        subst (λ ns. IsFirstNote (kept_notes o c) ns mismatch note) (all-of-one o e c) h.3,
      ),
    )
of-parts o e c part v h = let one = differs-alone o e c part v h in (one.0, (one.1, one.2))

pub one_part_verdict : OnePartVerdict
one_part_verdict o e c v = (
  of-parts o e c v.part v.verdict,
  λ h. (let P : ℕ → Type 0 = λ part. IsVerdictOnParts o (e ∷ []) c part v.verdict in subst P (sym h.0) (to-parts o e c v.verdict h.1)),
)
