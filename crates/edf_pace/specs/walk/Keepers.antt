-- What is kept of annotations that come one after the other. These are steps between the definitions and the code.
use Rattle.std.specs.Prelude.{◌≡◌, refl, ℤ, List, [], ◌++◌, map, filter, Option, None, Some, IsTrue}
use Rattle.edf_pace.specs.Words.{NoteValue, ClaimValue, keeps_annotation, moved_by, note_value, option_map}
use Rattle.std.proofs.Common.{sym, ap, ◌∙◌, append_assoc}
use Rattle.std.proofs.lemmas.List.{append-nil, map-append}
use Rattle.std.proofs.lemmas.List.Elements.{filter-append}
use Rattle.edf_pace.specs.walk.Gathered.{as_kept, counted_of, gathered_of}
use Rattle.edf_pace.specs.declared.walk.gather.Gathering.{Gathering}

-- the claim that chooses from what it gets
abbrev pub terms_in : Gathering → Option ClaimValue
terms_in g = option_map (λ claim. claim.now) g.claim

-- it got these annotations; where there was memory for all, it has those that count
pub record GotCounted (before : Gathering) (notes : List NoteValue) (after : Gathering) : Type 0 where
  pub claim : after.claim ≡ before.claim
  pub by : after.by ≡ before.by
  pub kept : IsTrue after.whole → IsTrue before.whole × (map note_value after.notes.items ≡ map note_value before.notes.items ++ gathered_of (terms_in before) before.by.ps notes)

pub gathered_nil : (claim : Option ClaimValue) (ps : ℤ) → [] ≡ gathered_of claim ps []
gathered_nil None ps = refl
gathered_nil (Some claim) ps = refl

pub counted_none : (g : Gathering) → GotCounted g [] g
counted_none g =
    let had : List NoteValue = map note_value g.notes.items in
    record { claim = refl; by = refl; kept = λ whole. (whole, sym (append-nil had) ∙ ap (λ more. had ++ more) (gathered_nil (terms_in g) g.by.ps)) }

counted_append : (claim : Option ClaimValue) (xs ys : List NoteValue) → counted_of claim (xs ++ ys) ≡ counted_of claim xs ++ counted_of claim ys
counted_append None xs ys = refl
counted_append (Some claim) xs ys =
    ap (map (as_kept claim)) (filter-append (λ n. keeps_annotation claim n.onset n.text) xs ys)
    ∙ map-append (as_kept claim) (filter (λ n. keeps_annotation claim n.onset n.text) xs) (filter (λ n. keeps_annotation claim n.onset n.text) ys)

pub counted_parts : (claim : Option ClaimValue) (ps : ℤ) (xs ys : List NoteValue) → gathered_of claim ps (xs ++ ys) ≡ gathered_of claim ps xs ++ gathered_of claim ps ys
counted_parts claim ps xs ys = ap (counted_of claim) (map-append (moved_by ps) xs ys) ∙ counted_append claim (map (moved_by ps) xs) (map (moved_by ps) ys)

pub counted_both : (a b c : Gathering) (xs ys : List NoteValue) → GotCounted a xs b → GotCounted b ys c → GotCounted a (xs ++ ys) c
counted_both a b c xs ys first second = record {
  claim = second.claim ∙ first.claim;
  by = second.by ∙ first.by;
  kept = λ whole.
      let then = second.kept whole in
      let had = first.kept then.0 in
      let old : List NoteValue = map note_value a.notes.items in
      let claim = terms_in a in
      let ps = a.by.ps in (
        had.0,
        then.1 ∙ ap (λ front. front ++ gathered_of (terms_in b) b.by.ps ys) had.1
            ∙ ap (λ terms. (old ++ gathered_of claim ps xs) ++ gathered_of (option_map (λ c. c.now) terms) b.by.ps ys) first.claim
            ∙ ap (λ (by : _). (old ++ gathered_of claim ps xs) ++ gathered_of claim by.ps ys) first.by
            ∙ append_assoc old (gathered_of claim ps xs) (gathered_of claim ps ys)
            ∙ ap (λ more. old ++ more) (sym (counted_parts claim ps xs ys)),
      );
}
