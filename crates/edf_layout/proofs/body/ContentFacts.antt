-- What a TAL says by places is what it says.
use Rattle.std.proofs.Common.{◌≡◌, inl, inr, ℕ, ℤ, List, [], ◌∷◌, ◌++◌, map, Option, refl, ap, ◌∙◌, sym}
use Rattle.std.specs.List.{flat_map}
use Rattle.std.specs.List.Sorted.{IsPermutation}
use Rattle.edf_fields.specs.Lists.{Has}
use Rattle.edf_fields.proofs.ForCallers.{has-front, has-back, has-permutation}
use Rattle.std.proofs.lemmas.List.Sorted.{IsPermutation-sym}
use Rattle.edf_tal.specs.Tals.{TalValue}
use Rattle.edf_stream.specs.annotation.Notes.{NoteValue, notes_of_tal, tal_with}
use Rattle.edf_layout.specs.body.NoteOrders.{place_of}
use Rattle.edf_layout.specs.body.BodyLayouts.{TalContent, KeepsTime, SaysNothing, Annotates, content_with, content_of, lane_contents, first_contents, record_contents}
use Rattle.edf_layout.proofs.body.OrderFacts.{place-tells, place-permuted}

-- the annotations stand among these
abbrev pub AreAmong : List NoteValue → List NoteValue → Type 0
AreAmong notes said = (n : NoteValue) → Has said n → Has notes n

pub cons-first : {X : Type 0} (x y : X) (xs ys : List X) → x ∷ xs ≡ y ∷ ys → x ≡ y
cons-first x y xs ys e = cc

pub cons-rest : {X : Type 0} (x y : X) (xs ys : List X) → x ∷ xs ≡ y ∷ ys → xs ≡ ys
cons-rest x y xs ys e = cc

pub not-nil : {X : Type 0} (x : X) (xs : List X) → [] ≡ x ∷ xs → ⊥
not-nil x xs e = cc

-- annotations by their places
notes-same : (notes others : List NoteValue) → IsPermutation notes others → (xs ys : List NoteValue) → AreAmong notes xs → AreAmong others ys
    → map (place_of notes) xs ≡ map (place_of others) ys → xs ≡ ys
notes-same notes others p [] [] h k e = refl
notes-same notes others p [] (y ∷ ys) h k e = absurd (not-nil (place_of others y) (map (place_of others) ys) e)
notes-same notes others p (x ∷ xs) [] h k e = absurd (not-nil (place_of notes x) (map (place_of notes) xs) (sym e))
notes-same notes others p (x ∷ xs) (y ∷ ys) h k e =
    let there : Has notes y = has-permutation others notes y (IsPermutation-sym notes others p) (k y (inl refl)) in
    let place : place_of notes x ≡ place_of notes y =
    cons-first (place_of notes x) (place_of others y) (map (place_of notes) xs) (map (place_of others) ys) e ∙ place-permuted notes others y p in
    let first : x ≡ y = place-tells notes x y (h x (inl refl)) there place in
    let rest : xs ≡ ys =
    notes-same notes others p xs ys (λ n has. h n (inr has)) (λ n has. k n (inr has)) (cons-rest (place_of notes x) (place_of others y) (map (place_of notes) xs) (map (place_of others) ys) e) in
    ap (λ (z : NoteValue). z ∷ xs) first ∙ ap (λ zs. y ∷ zs) rest

-- a TAL by its annotations
texts-told : (onset : ℤ) (duration : Option ℤ) (texts : List (List ℕ)) → map (λ (n : NoteValue). n.text) (notes_of_tal (tal_with onset duration texts)) ≡ texts
texts-told onset duration [] = refl
texts-told onset duration (text ∷ texts) = ap (λ ts. text ∷ ts) (texts-told onset duration texts)

texts-same : (o p : ℤ) (d e : Option ℤ) (ts us : List (List ℕ)) → notes_of_tal (tal_with o d ts) ≡ notes_of_tal (tal_with p e us) → ts ≡ us
texts-same o p d e ts us same = sym (texts-told o d ts) ∙ ap (λ ns. map (λ (n : NoteValue). n.text) ns) same ∙ texts-told p e us

tal-same : (o p : ℤ) (d e : Option ℤ) (ts us : List (List ℕ)) → o ≡ p → d ≡ e → ts ≡ us → tal_with o d ts ≡ tal_with p e us
tal-same o p d e ts us a b c = ap (λ x. tal_with x d ts) a ∙ ap (λ x. tal_with p x ts) b ∙ ap (λ x. tal_with p e x) c

annotates : (xs ys : List ℕ) → Annotates xs ≡ Annotates ys → xs ≡ ys
annotates xs ys e = cc

says-nothing : (o p : ℤ) (d e : Option ℤ) → SaysNothing o d ≡ SaysNothing p e → (o ≡ p) × (d ≡ e)
says-nothing o p d e same = (cc, cc)

keeps-time : (d e : Option ℤ) (xs ys : List ℕ) → KeepsTime d xs ≡ KeepsTime e ys → (d ≡ e) × (xs ≡ ys)
keeps-time d e xs ys same = (cc, cc)

apart : (o : ℤ) (d : Option ℤ) (xs : List ℕ) → SaysNothing o d ≡ Annotates xs → ⊥
apart o d xs e = cc

-- the annotations of TALs, lane by lane
abbrev pub said_in : List (List TalValue) → List NoteValue
said_in talss = flat_map (λ tals. flat_map notes_of_tal tals) talss

module _ (notes others : List NoteValue) (p : IsPermutation notes others) where
  content-tells : (o q : ℤ) (d e : Option ℤ) (ts us : List (List ℕ)) → AreAmong notes (notes_of_tal (tal_with o d ts)) → AreAmong others (notes_of_tal (tal_with q e us))
      → content_with notes o d ts ≡ content_with others q e us → tal_with o d ts ≡ tal_with q e us
  content-tells o q d e [] [] h k same = let is = says-nothing o q d e same in tal-same o q d e [] [] is.0 is.1 refl
  content-tells o q d e [] (u ∷ us) h k same = absurd (apart o d (map (place_of others) (notes_of_tal (tal_with q e (u ∷ us)))) same)
  content-tells o q d e (t ∷ ts) [] h k same = absurd (apart q e (map (place_of notes) (notes_of_tal (tal_with o d (t ∷ ts)))) (sym same))
  content-tells o q d e (t ∷ ts) (u ∷ us) h k same =
      let is : notes_of_tal (tal_with o d (t ∷ ts)) ≡ notes_of_tal (tal_with q e (u ∷ us)) =
      notes-same notes others p (notes_of_tal (tal_with o d (t ∷ ts))) (notes_of_tal (tal_with q e (u ∷ us))) h k
      (annotates (map (place_of notes) (notes_of_tal (tal_with o d (t ∷ ts)))) (map (place_of others) (notes_of_tal (tal_with q e (u ∷ us)))) same) in
      let x : NoteValue = record { onset = o; duration = d; text = t } in
      let y : NoteValue = record { onset = q; duration = e; text = u } in
      let first : x ≡ y = cons-first x y (notes_of_tal (tal_with o d ts)) (notes_of_tal (tal_with q e us)) is in
      tal-same o q d e (t ∷ ts) (u ∷ us) (ap (λ (n : NoteValue). n.onset) first) (ap (λ (n : NoteValue). n.duration) first) (texts-same o q d e (t ∷ ts) (u ∷ us) is)

  -- TALs by what they say
  tals-told : (tals talss : List TalValue) → AreAmong notes (flat_map notes_of_tal tals) → AreAmong others (flat_map notes_of_tal talss)
      → lane_contents notes tals ≡ lane_contents others talss → tals ≡ talss
  tals-told [] [] h k e = refl
  tals-told [] (u ∷ us) h k e = absurd (not-nil (content_of others u) (lane_contents others us) e)
  tals-told (t ∷ ts) [] h k e = absurd (not-nil (content_of notes t) (lane_contents notes ts) (sym e))
  tals-told (t ∷ ts) (u ∷ us) h k e =
      let first : t ≡ u = content-tells t.onset u.onset t.duration u.duration t.texts u.texts
      (λ n has. h n (has-front (notes_of_tal t) (flat_map notes_of_tal ts) n has)) (λ n has. k n (has-front (notes_of_tal u) (flat_map notes_of_tal us) n has))
      (cons-first (content_of notes t) (content_of others u) (lane_contents notes ts) (lane_contents others us) e) in
      let rest : ts ≡ us = tals-told ts us (λ n has. h n (has-back (notes_of_tal t) (flat_map notes_of_tal ts) n has)) (λ n has. k n (has-back (notes_of_tal u) (flat_map notes_of_tal us) n has))
      (cons-rest (content_of notes t) (content_of others u) (lane_contents notes ts) (lane_contents others us) e) in
      ap (λ (x : TalValue). x ∷ ts) first ∙ ap (λ xs. u ∷ xs) rest

  lanes-told : (tss uss : List (List TalValue)) → AreAmong notes (said_in tss) → AreAmong others (said_in uss)
      → map (lane_contents notes) tss ≡ map (lane_contents others) uss → tss ≡ uss
  lanes-told [] [] h k e = refl
  lanes-told [] (us ∷ uss) h k e = absurd (not-nil (lane_contents others us) (map (lane_contents others) uss) e)
  lanes-told (ts ∷ tss) [] h k e = absurd (not-nil (lane_contents notes ts) (map (lane_contents notes) tss) (sym e))
  lanes-told (ts ∷ tss) (us ∷ uss) h k e =
      let first : ts ≡ us = tals-told ts us
      (λ n has. h n (has-front (flat_map notes_of_tal ts) (said_in tss) n has)) (λ n has. k n (has-front (flat_map notes_of_tal us) (said_in uss) n has))
      (cons-first (lane_contents notes ts) (lane_contents others us) (map (lane_contents notes) tss) (map (lane_contents others) uss) e) in
      let rest : tss ≡ uss = lanes-told tss uss
      (λ n has. h n (has-back (flat_map notes_of_tal ts) (said_in tss) n has)) (λ n has. k n (has-back (flat_map notes_of_tal us) (said_in uss) n has))
      (cons-rest (lane_contents notes ts) (lane_contents others us) (map (lane_contents notes) tss) (map (lane_contents others) uss) e) in
      ap (λ xs. xs ∷ tss) first ∙ ap (λ xs. us ∷ xs) rest

  -- the TALs of a data record by what they say and where it starts
  pub record_told : (start : ℤ) (d e : Option ℤ) (texts more : List (List ℕ)) (ts us : List TalValue) (tss uss : List (List TalValue))
      → AreAmong notes (notes_of_tal (tal_with start d texts) ++ said_in (ts ∷ tss)) → AreAmong others (notes_of_tal (tal_with start e more) ++ said_in (us ∷ uss))
      → record_contents notes ((tal_with start d ([] ∷ texts) ∷ ts) ∷ tss) ≡ record_contents others ((tal_with start e ([] ∷ more) ∷ us) ∷ uss)
      → (tal_with start d ([] ∷ texts) ∷ ts) ∷ tss ≡ (tal_with start e ([] ∷ more) ∷ us) ∷ uss
  record_told start d e texts more ts us tss uss h k same =
      let lane-one : List TalContent = first_contents notes (tal_with start d ([] ∷ texts) ∷ ts) in
      let lane-two : List TalContent = first_contents others (tal_with start e ([] ∷ more) ∷ us) in
      let lane : lane-one ≡ lane-two = cons-first lane-one lane-two (map (lane_contents notes) tss) (map (lane_contents others) uss) same in
      let behind : map (lane_contents notes) tss ≡ map (lane_contents others) uss = cons-rest lane-one lane-two (map (lane_contents notes) tss) (map (lane_contents others) uss) same in
      let mine : List NoteValue = notes_of_tal (tal_with start d texts) in
      let theirs : List NoteValue = notes_of_tal (tal_with start e more) in
      let head-one : TalContent = KeepsTime d (map (place_of notes) mine) in
      let head-two : TalContent = KeepsTime e (map (place_of others) theirs) in
      let head : head-one ≡ head-two = cons-first head-one head-two (lane_contents notes ts) (lane_contents others us) lane in
      let keeping = keeps-time d e (map (place_of notes) mine) (map (place_of others) theirs) head in
      let said : mine ≡ theirs = notes-same notes others p mine theirs
      (λ n has. h n (has-front mine (said_in (ts ∷ tss)) n has)) (λ n has. k n (has-front theirs (said_in (us ∷ uss)) n has)) keeping.1 in
      let text : texts ≡ more = texts-same start start d e texts more said in
      let first : tal_with start d ([] ∷ texts) ≡ tal_with start e ([] ∷ more) =
      tal-same start start d e ([] ∷ texts) ([] ∷ more) refl keeping.0 (ap (λ xs. [] ∷ xs) text) in
      let left : AreAmong notes (said_in (ts ∷ tss)) = λ n has. h n (has-back mine (said_in (ts ∷ tss)) n has) in
      let right : AreAmong others (said_in (us ∷ uss)) = λ n has. k n (has-back theirs (said_in (us ∷ uss)) n has) in
      let next : ts ≡ us = tals-told ts us
      (λ n has. left n (has-front (flat_map notes_of_tal ts) (said_in tss) n has)) (λ n has. right n (has-front (flat_map notes_of_tal us) (said_in uss) n has))
      (cons-rest head-one head-two (lane_contents notes ts) (lane_contents others us) lane) in
      let last : tss ≡ uss = lanes-told tss uss
      (λ n has. left n (has-back (flat_map notes_of_tal ts) (said_in tss) n has)) (λ n has. right n (has-back (flat_map notes_of_tal us) (said_in uss) n has)) behind in
      ap (λ (x : TalValue). (x ∷ ts) ∷ tss) first ∙ ap (λ xs. (tal_with start e ([] ∷ more) ∷ xs) ∷ tss) next ∙ ap (λ xs. (tal_with start e ([] ∷ more) ∷ us) ∷ xs) last
