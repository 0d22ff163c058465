-- A single part is an export.
use Rattle.std.proofs.Common.{◌≡◌, ℕ, zero, suc, List, [], ◌∷◌, None, Some, inl, ⊎_elim, refl, sym, subst}
use Rattle.std.proofs.lemmas.List.{append-nil}
use Rattle.edf_header.specs.HeadsReading.{head_of}
use Rattle.edf_heads.specs.HeadVerdicts.{HeadsAgree}
use Rattle.edf_stream.specs.annotation.Notes.{NoteValue}
use Rattle.edf_pace.specs.Annotations.{SameNotes}
use Rattle.edf_check.specs.KeptReading.{kept_notes, exported_notes}
use Rattle.edf_check.specs.Laws.{OnePart}
use Rattle.edf_check.specs.parts.Parts.{FollowOneAnother}
use Rattle.edf_check.proofs.parts.SeriesFacts.{one-alone}

pub alone-in-order : (part : List ℕ) → FollowOneAnother (part ∷ [])
alone-in-order part zero x y a b = absurd (let z : None ≡ Some y = b in cc)
alone-in-order part (suc j) x y a b = absurd (let z : None ≡ Some x = a in cc)

pub one_part : OnePart
one_part o e c = (
  λ t.
      let P : List NoteValue → Type 0 = λ ns. SameNotes (kept_notes o c) ns in
      let alone = one-alone o e c in
      record {
        heads = t.heads e (inl refl);
        samples = λ label at v p. (λ k. (alone label at v p).1 ((t.samples label at v p).0 k), λ x. (t.samples label at v p).1 ((alone label at v p).0 x));
        notes = subst P (append-nil (exported_notes o e c)) t.notes;
      },
  λ x.
      let P : List NoteValue → Type 0 = λ ns. SameNotes (kept_notes o c) ns in
      let Q : List ℕ → Type 0 = λ part. HeadsAgree (head_of o) (head_of part) c in
      let alone = one-alone o e c in
      record {
        heads = λ part i. ⊎_elim (λ same. subst Q same x.heads) (λ j. absurd j) i;
        order = alone-in-order e;
        samples = λ label at v p. (λ k. (alone label at v p).0 ((x.samples label at v p).0 k), λ y. (x.samples label at v p).1 ((alone label at v p).1 y));
        notes = subst P (sym (append-nil (exported_notes o e c))) x.notes;
      },
)
