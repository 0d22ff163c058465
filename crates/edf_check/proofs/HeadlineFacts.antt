-- What a Yes means, and that it is so exactly for an export.
use Rattle.std.proofs.Common.{◌≡◌, ℕ, ℤ, pos, neg_ℤ, ◌+ℤ◌, ◌-ℤ◌, List, [], ◌∷◌, map, length, refl, sym, ap, ◌∙◌, subst, arith}
use Rattle.std.proofs.lemmas.Int.{ints}
use Rattle.std.proofs.lemmas.List.{length-map, map-id}
use Rattle.std.proofs.lemmas.Simd.{map-map}
use Rattle.std.specs.List.Sorted.{IsPermutation}
use Rattle.edf_claim.specs.ClaimValues.{ClaimValue}
use Rattle.edf_header.specs.Heads.{Head}
use Rattle.edf_header.specs.HeadsReading.{head_of}
use Rattle.edf_heads.specs.HeadVerdicts.{HeadsAgree}
use Rattle.edf_stream.specs.Conforming.{Conforms}
use Rattle.edf_stream.specs.annotation.Notes.{NoteValue, HasNotes, moved_by}
use Rattle.edf_stream.specs.annotation.NotesReading.{notes_of}
use Rattle.edf_stream.specs.times.Starts.{file_start}
use Rattle.edf_stream.proofs.ForCallers.{head-is, notes_are_read}
use Rattle.edf_verdict.specs.declared.verdict.Verdict.{Verdict}
use Rattle.edf_verdict.specs.declared.verdict.Verdict.TheVariants.{Yes, No}
use Rattle.edf_check.specs.Exports.{BothConform, IsExport}
use Rattle.edf_check.specs.Headline.{Headline, YesMeans}
use Rattle.edf_pace.specs.Kept.{shift_ps, SamplesAsKept, kept_of, unshifted}
use Rattle.edf_check.specs.KeptReading.{kept_notes, exported_notes}
use Rattle.edf_check.specs.Laws.{HeadlineExactly}
use Rattle.edf_check.specs.Verdicts.{IsVerdict}
use Rattle.edf_pace.proofs.ForCallers.{notes_in_words}
use Rattle.edf_check.proofs.WordsFacts.{samples_in_words}

-- annotations that are moved by one number and then by another
onset-at : NoteValue → ℤ → NoteValue
onset-at note onset = record { onset = onset; duration = note.duration; text = note.text }

pointwise : (f g : NoteValue → NoteValue) → ((note : NoteValue) → f note ≡ g note) → (notes : List NoteValue) → map f notes ≡ map g notes
pointwise f g e [] = refl
pointwise f g e (note ∷ notes) = ap (λ n. n ∷ map f notes) (e note) ∙ ap (λ ns. g note ∷ ns) (pointwise f g e notes)

moved-twice : (a b d : ℤ) (notes : List NoteValue) → a +ℤ b ≡ d → map (moved_by a) (map (moved_by b) notes) ≡ map (moved_by d) notes
unfolding onset-at
moved-twice a b d notes e =
    map-map (moved_by a) (moved_by b) notes
    ∙ pointwise (λ n. moved_by a (moved_by b n)) (moved_by d) (λ n. let o : a +ℤ (b +ℤ n.onset) ≡ d +ℤ n.onset = omega (arith, ints, e) in ap (onset-at n) o) notes

moved-back : (a b : ℤ) (notes : List NoteValue) → a +ℤ b ≡ pos 0 → map (moved_by a) (map (moved_by b) notes) ≡ notes
unfolding onset-at
moved-back a b notes e =
    map-map (moved_by a) (moved_by b) notes
    ∙ pointwise (λ n. moved_by a (moved_by b n)) (λ n. n) (λ n. let o : a +ℤ (b +ℤ n.onset) ≡ n.onset = omega (arith, ints, e) in ap (onset-at n) o) notes
    ∙ map-id notes

-- the annotations of a file that conforms, as the file says them and as they are read
read-so : (file : List ℕ) (notes : List NoteValue) → Conforms file (head_of file) → HasNotes file (head_of file) notes
    → notes_of file (head_of file) ≡ map (moved_by (file_start (head_of file))) notes
read-so file notes c has =
    let these = notes_are_read file (head_of file) c in
    these.read ∙ ap (λ ns. map (moved_by (file_start (head_of file))) ns) (sym (these.only notes has))

kept-so : (o : List ℕ) (claim : ClaimValue) (notes : List NoteValue) → Conforms o (head_of o) → HasNotes o (head_of o) notes → kept_notes o claim ≡ kept_of claim notes
kept-so o claim notes c has =
    let s = file_start (head_of o) in
    let back : map (moved_by (neg_ℤ s)) (notes_of o (head_of o)) ≡ notes =
    ap (λ ns. map (moved_by (neg_ℤ s)) ns) (read-so o notes c has) ∙ moved-back (neg_ℤ s) s notes (omega (arith, ints)) in
    ap (kept_of claim) back

exported-so : (o e : List ℕ) (claim : ClaimValue) (notes : List NoteValue) → Conforms e (head_of e) → HasNotes e (head_of e) notes
    → exported_notes o e claim ≡ unshifted (head_of o) (head_of e) claim notes
exported-so o e claim notes c has =
    let s = file_start (head_of o) in
    let t = file_start (head_of e) in
    let d = shift_ps claim in
    ap (λ ns. map (moved_by (neg_ℤ (s +ℤ d))) ns) (read-so e notes c has)
    ∙ moved-twice (neg_ℤ (s +ℤ d)) t (t -ℤ (s +ℤ d)) notes (omega (arith, ints))

-- an export is one by the headline
pub headline-of : (o e : List ℕ) (claim : ClaimValue) → BothConform o e → IsExport o e claim → Headline o e claim
headline-of o e claim both is =
    let these = notes_are_read o (head_of o) both.original_conforms in
    let those = notes_are_read e (head_of e) both.export_conforms in
    let kept = kept-so o claim these.notes both.original_conforms these.there in
    let exported = exported-so o e claim those.notes both.export_conforms those.there in
    record {
      original_head = head_of o;
      export_head = head_of e;
      original_notes = these.notes;
      export_notes = those.notes;
      original_conforms = both.original_conforms;
      export_conforms = both.export_conforms;
      original_says = these.there;
      export_says = those.there;
      channels = (is.heads).channels;
      texts = (is.heads).texts;
      calibrations = (is.heads).calibrations;
      samples = (samples_in_words o e claim).0 is.samples;
      annotations =
          subst (λ ns. IsPermutation ns (unshifted (head_of o) (head_of e) claim those.notes)) kept
          (subst (λ ns. IsPermutation (kept_notes o claim) ns) exported ((notes_in_words (kept_notes o claim) (exported_notes o e claim)).0 is.notes));
      subfields = (is.heads).subfields;
      blank = (is.heads).blank;
    }

-- what the headline says of its two headers and annotations
abbrev Says : List ℕ → List ℕ → ClaimValue → List NoteValue → List NoteValue → Head → Head → Type 0
Says o e claim ns ms h g =
    (Conforms o h × Conforms e g × HasNotes o h ns × HasNotes e g ms) × HeadsAgree h g claim × SamplesAsKept o e h g claim × IsPermutation (kept_of claim ns) (unshifted h g claim ms)

says-of : (o e : List ℕ) (claim : ClaimValue) (r : Headline o e claim) → Says o e claim r.original_notes r.export_notes (head_of o) (head_of e)
says-of o e claim r =
    let ho = (head-is o r.original_head (r.original_conforms).header).1 in
    let he = (head-is e r.export_head (r.export_conforms).header).1 in
    let heads : HeadsAgree r.original_head r.export_head claim = record { channels = r.channels; texts = r.texts; calibrations = r.calibrations; subfields = r.subfields; blank = r.blank } in
    let all : Says o e claim r.original_notes r.export_notes r.original_head r.export_head = ((r.original_conforms, r.export_conforms, r.original_says, r.export_says), heads, r.samples, r.annotations) in
    subst (Says o e claim r.original_notes r.export_notes (head_of o)) he (subst (λ h. Says o e claim r.original_notes r.export_notes h r.export_head) ho all)

export-of : (o e : List ℕ) (claim : ClaimValue) → Headline o e claim → BothConform o e × IsExport o e claim
export-of o e claim r =
    let s = says-of o e claim r in
    let ns = r.original_notes in
    let ms = r.export_notes in
    let kept = kept-so o claim ns (s.0).0 (s.0).2 in
    let exported = exported-so o e claim ms (s.0).1 (s.0).3 in
    let same : IsPermutation (kept_notes o claim) (exported_notes o e claim) =
    subst (λ xs. IsPermutation xs (exported_notes o e claim)) (sym kept) (subst (λ xs. IsPermutation (kept_of claim ns) xs) (sym exported) s.3) in (
      record { original_conforms = (s.0).0; export_conforms = (s.0).1 },
      record {
        heads = s.1;
        samples = (samples_in_words o e claim).1 s.2;
        notes = (notes_in_words (kept_notes o claim) (exported_notes o e claim)).1 same;
      },
    )

pub headline_exactly : HeadlineExactly
headline_exactly o e claim = (export-of o e claim, λ both. headline-of o e claim both.0 both.1)

-- a Yes means the headline
pub yes_means : (o e : List ℕ) (claim : ClaimValue) (v : Verdict) → IsVerdict o e claim v → YesMeans o e claim v
unfolding headline-of
yes_means o e claim (No difference) is = tt
yes_means o e claim (Yes channels samples annotations) (both, is, counts) =
    let those = notes_are_read e (head_of e) both.export_conforms in
    let many : length (notes_of e (head_of e)) ≡ length those.notes = ap length those.read ∙ length-map those.notes (moved_by (file_start (head_of e))) in (
      headline-of o e claim both is,
      record { channels_are = counts.channels_are; samples_are = counts.samples_are; annotations_are = counts.annotations_are ∙ many },
    )
