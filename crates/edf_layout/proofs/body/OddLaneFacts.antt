-- The lines of odd lanes tell these lanes, and these tell the layout of data records.
use Rattle.std.proofs.Common.{◌≡◌, ◌≢◌, inl, inr, ℕ, Bool, true, false, cond, ◌+◌, ◌<◌, ◌≤◌, ◌^◌, List, [], ◌∷◌, ◌++◌, length, drop, codes, arith, refl, ap, ◌∙◌, sym, subst, append_assoc, lit<}
use Rattle.std.specs.Fmt.{decimal}
use Rattle.std.specs.List.{flat_map}
use Rattle.std.specs.Str.{bytes_eq}
use Rattle.std.proofs.lemmas.List.{append_cancel_left}
use Rattle.std.proofs.lemmas.Slice.Eq.{bytes_eq-Decides}
use Rattle.edf_fields.specs.Lists.{Has}
use Rattle.edf_fields.proofs.ForCallers.{has-append}
use Rattle.edf_layout.specs.body.BodyLayouts.{PlacedTal, RecordLayout, BodyLayout}
use Rattle.edf_layout.specs.body.FileLayouts.{lane_line, lane_lines}
use Rattle.edf_layout.specs.body.OddLanes.{OddLane, tal_lines, front_of, odd_lane, odd_in, odd_from}
use Rattle.edf_layout.proofs.CutLineFacts.{cut-high, cut-word}
use Rattle.edf_layout.proofs.body.ContentFacts.{cons-first, cons-rest}
use Rattle.edf_layout.proofs.body.TalLineFacts.{AllTalsFit, BeginsElse, wide-high, wide-same, tals-cut, tals-same}

-- ---- from lines to lanes

line-flat : (k j : ℕ) (x : List ℕ) → lane_line k j ++ x ≡ codes "data record " ++ (decimal k ++ (codes " annotation signal " ++ (decimal j ++ 10 ∷ x)))
unfolding lane_line
line-flat k j x = four (codes "data record ") (decimal k) (codes " annotation signal ") (decimal j) x
  where
    four : (a b c d x : List ℕ) → (a ++ (b ++ (c ++ (d ++ (10 ∷ []))))) ++ x ≡ a ++ (b ++ (c ++ (d ++ 10 ∷ x)))
    four a b c d x =
        append_assoc a (b ++ (c ++ (d ++ (10 ∷ [])))) x
        ∙ ap (λ r. a ++ r) (append_assoc b (c ++ (d ++ (10 ∷ []))) x
        ∙ ap (λ r. b ++ r) (append_assoc c (d ++ (10 ∷ [])) x ∙ ap (λ r. c ++ r) (append_assoc d (10 ∷ []) x)))

-- the line of a place
place-cut : (k j l m : ℕ) (x y : List ℕ) → k < 10 ^ 64 → j < 10 ^ 64 → l < 10 ^ 64 → m < 10 ^ 64 → lane_line k j ++ x ≡ lane_line l m ++ y → (k ≡ l) × (j ≡ m) × (x ≡ y)
place-cut k j l m x y a b c d e =
    let one = cut-word (decimal k) (decimal l) (codes "annotation signal ") (decimal j ++ 10 ∷ x) (decimal m ++ 10 ∷ y) (wide-high k a) (wide-high l c)
    (append_cancel_left (codes "data record ") _ _ (sym (line-flat k j x) ∙ e ∙ line-flat l m y)) in
    let two = cut-high (decimal j) (decimal m) 10 10 x y (wide-high j b) (wide-high m d) (lit< tt) (lit< tt) one.1 in
    (wide-same k l a c one.0, wide-same j m b d two.0, two.2)

-- the numbers of a lane can be written, and its TALs
pub record LaneFits (lane : OddLane) : Type 0 where
  pub data_record : lane.data_record < 10 ^ 64
  pub number : lane.number < 10 ^ 64
  pub tals : AllTalsFit lane.tals

abbrev pub AllLanesFit : List OddLane → Type 0
AllLanesFit [] = Unit {0}
AllLanesFit (lane ∷ lanes) = LaneFits lane × AllLanesFit lanes

-- a text begins with a byte that begins no line of a lane
abbrev pub EndsLanes : List ℕ → Type 0
EndsLanes x = (c : ℕ) × (r : List ℕ) × (x ≡ c ∷ r) × (c ≢ 32) × (c ≢ 100)

lane-flat : (lane : OddLane) (x : List ℕ) → lane_lines lane ++ x ≡ lane_line lane.data_record lane.number ++ (tal_lines lane.tals ++ x)
unfolding lane_lines
lane-flat lane x = append_assoc (lane_line lane.data_record lane.number) (tal_lines lane.tals) x

lanes-flat : (lane : OddLane) (lanes : List OddLane) (x : List ℕ) → flat_map lane_lines (lane ∷ lanes) ++ x
    ≡ lane_line lane.data_record lane.number ++ (tal_lines lane.tals ++ (flat_map lane_lines lanes ++ x))
lanes-flat lane lanes x = append_assoc (lane_lines lane) (flat_map lane_lines lanes) x ∙ lane-flat lane (flat_map lane_lines lanes ++ x)

lanes-else : (lanes : List OddLane) (x : List ℕ) → EndsLanes x → BeginsElse (flat_map lane_lines lanes ++ x)
lanes-else [] x (c, r, is, other, more) = (c, r, is, other)
lanes-else (lane ∷ lanes) x ends =
    (100, _, lanes-flat lane lanes x ∙ line-flat lane.data_record lane.number (tal_lines lane.tals ++ (flat_map lane_lines lanes ++ x)), λ e. omega (arith, e))

no-lane : (lane : OddLane) (lanes : List OddLane) (x y : List ℕ) → EndsLanes x → x ≡ flat_map lane_lines (lane ∷ lanes) ++ y → ⊥
no-lane lane lanes x y (c, r, is, other, more) e =
    more (cons-first c 100 r _ (sym is ∙ e ∙ lanes-flat lane lanes y ∙ line-flat lane.data_record lane.number (tal_lines lane.tals ++ (flat_map lane_lines lanes ++ y))))

pub lanes-cut : (xs ys : List OddLane) (x y : List ℕ) → AllLanesFit xs → AllLanesFit ys → EndsLanes x → EndsLanes y
    → flat_map lane_lines xs ++ x ≡ flat_map lane_lines ys ++ y → (xs ≡ ys) × (x ≡ y)
lanes-cut [] [] x y h k begins too e = (refl, e)
lanes-cut [] (m ∷ ms) x y h k begins too e = absurd (no-lane m ms x y begins e)
lanes-cut (l ∷ ls) [] x y h k begins too e = absurd (no-lane l ls y x too (sym e))
lanes-cut (l ∷ ls) (m ∷ ms) x y h k begins too e =
    let place = place-cut l.data_record l.number m.data_record m.number _ _ (h.0).data_record (h.0).number (k.0).data_record (k.0).number
    (sym (lanes-flat l ls x) ∙ e ∙ lanes-flat m ms y) in
    let tals = tals-cut l.tals m.tals (flat_map lane_lines ls ++ x) (flat_map lane_lines ms ++ y) (h.0).tals (k.0).tals (lanes-else ls x begins) (lanes-else ms y too) place.2 in
    let rest = lanes-cut ls ms x y h.1 k.1 begins too tals.1 in
    let make : ℕ → ℕ → List PlacedTal → OddLane = λ r n t. record { data_record = r; number = n; tals = t } in
    let first : l ≡ m = ap (λ r. make r l.number l.tals) place.0 ∙ ap (λ n. make m.data_record n l.tals) place.1 ∙ ap (make m.data_record m.number) tals.0 in
    (ap (λ (z : OddLane). z ∷ ls) first ∙ ap (λ zs. m ∷ zs) rest.0, rest.1)

-- ---- from lanes to layouts

-- each lane stands in data record k or further on
abbrev pub AreFrom : ℕ → List OddLane → Type 0
AreFrom k lanes = (lane : OddLane) → Has lanes lane → k ≤ lane.data_record

-- each lane stands in data record k, and is lane j of it or a later one
abbrev pub AreIn : ℕ → ℕ → List OddLane → Type 0
AreIn k j lanes = (lane : OddLane) → Has lanes lane → (lane.data_record ≡ k) × (j ≤ lane.number)

abbrev lane_with : ℕ → ℕ → List PlacedTal → OddLane
lane_with k j tals = record { data_record = k; number = j; tals = tals }

odd-one : (k j : ℕ) (tals : List PlacedTal) (b : Bool) → AreIn k j (cond b [] (lane_with k j tals ∷ []))
odd-one k j tals true lane has = absurd has
odd-one k j tals false lane (inl is) = (ap (λ (l : OddLane). l.data_record) (sym is), (let e = ap (λ (l : OddLane). l.number) is in omega (arith, e)))
odd-one k j tals false lane (inr has) = absurd has

in-record : (k j : ℕ) (lanes plains : RecordLayout) → AreIn k j (odd_in k j lanes plains)
in-record k j [] plains lane has = absurd has
in-record k j (tals ∷ lanes) plains lane has =
    elim (has-append (odd_lane k j tals (front_of plains)) (odd_in k (j + 1) lanes (drop 1 plains)) lane has) [
      | inl here ↦ odd-one k j tals (bytes_eq (tal_lines tals) (tal_lines (front_of plains))) lane here
      | inr later ↦ (let r = in-record k (j + 1) lanes (drop 1 plains) lane later in (r.0, (let more = r.1 in omega (arith, more))))
    ]

pub from-record : (k : ℕ) (body plains : BodyLayout) → AreFrom k (odd_from k body plains)
from-record k [] plains lane has = absurd has
from-record k (lanes ∷ body) plains lane has =
    elim (has-append (odd_in k 0 lanes (front_of plains)) (odd_from (k + 1) body (drop 1 plains)) lane has) [
      | inl here ↦ (let r = (in-record k 0 lanes (front_of plains) lane here).0 in omega (arith, r))
      | inr later ↦ (let r = from-record (k + 1) body (drop 1 plains) lane later in omega (arith, r))
    ]

-- a lane of data record k isn't among the later lanes
not-later : (k j : ℕ) (tals : List PlacedTal) (lanes plains : RecordLayout) (xs ys : List OddLane) → AreFrom (k + 1) xs
    → odd_in k (j + 1) lanes plains ++ xs ≡ lane_with k j tals ∷ ys → ⊥
not-later k j tals lanes plains xs ys late e =
    let there : Has (odd_in k (j + 1) lanes plains ++ xs) (lane_with k j tals) = subst (λ zs. Has zs (lane_with k j tals)) (sym e) (inl refl) in
    elim (has-append (odd_in k (j + 1) lanes plains) xs (lane_with k j tals) there) [
      | inl here ↦ (let r = (in-record k (j + 1) lanes plains (lane_with k j tals) here).1 in omega (arith, r))
      | inr later ↦ (let r = late (lane_with k j tals) later in omega (arith, r))
    ]

-- the lanes of a data record fit, and so do those of all
abbrev pub RecordFits : RecordLayout → Type 0
RecordFits [] = Unit {0}
RecordFits (tals ∷ lanes) = AllTalsFit tals × RecordFits lanes

abbrev pub BodyFits : BodyLayout → Type 0
BodyFits [] = Unit {0}
BodyFits (lanes ∷ body) = RecordFits lanes × BodyFits body

-- as many data records, with as many lanes each
abbrev pub SameShape : BodyLayout → BodyLayout → Type 0
SameShape [] [] = Unit {0}
SameShape (lanes ∷ body) (others ∷ more) = (length lanes ≡ length others) × SameShape body more
SameShape body more = ⊥

-- the same first lane, and the same behind it
record OneTold (tals others : List PlacedTal) (xs ys : List OddLane) : Type 0 where
  first : tals ≡ others
  rest : xs ≡ ys

one-told : (k j : ℕ) (tals others plain : List PlacedTal) (xs ys : List OddLane) → AllTalsFit tals → AllTalsFit others
    → ((ts : List PlacedTal) (zs : List OddLane) → xs ≡ lane_with k j ts ∷ zs → ⊥) → ((ts : List PlacedTal) (zs : List OddLane) → ys ≡ lane_with k j ts ∷ zs → ⊥)
    → odd_lane k j tals plain ++ xs ≡ odd_lane k j others plain ++ ys → OneTold tals others xs ys
one-told k j tals others plain xs ys h k2 left right e =
    cases (bytes_eq (tal_lines tals) (tal_lines plain)) (bytes_eq (tal_lines others) (tal_lines plain)) refl refl e
  where
    cases : (a b : Bool) → bytes_eq (tal_lines tals) (tal_lines plain) ≡ a → bytes_eq (tal_lines others) (tal_lines plain) ≡ b
        → cond a [] (lane_with k j tals ∷ []) ++ xs ≡ cond b [] (lane_with k j others ∷ []) ++ ys → OneTold tals others xs ys
    cases true true p q e =
        let one = (bytes_eq-Decides (tal_lines tals) (tal_lines plain)).0 p in
        let two = (bytes_eq-Decides (tal_lines others) (tal_lines plain)).0 q in
        record { first = tals-same tals others h k2 (one ∙ sym two); rest = e }
    cases true false p q e = absurd (left others ys e)
    cases false true p q e = absurd (right tals xs (sym e))
    cases false false p q e = record {
      first = ap (λ (l : OddLane). l.tals) (cons-first (lane_with k j tals) (lane_with k j others) xs ys e);
      rest = cons-rest (lane_with k j tals) (lane_with k j others) xs ys e;
    }

record-told : (k j : ℕ) (lanes others plains : RecordLayout) (xs ys : List OddLane) → length lanes ≡ length others → RecordFits lanes → RecordFits others
    → AreFrom (k + 1) xs → AreFrom (k + 1) ys → odd_in k j lanes plains ++ xs ≡ odd_in k j others plains ++ ys → (lanes ≡ others) × (xs ≡ ys)
record-told k j [] [] plains xs ys long h k2 late too e = (refl, e)
record-told k j [] (u ∷ us) plains xs ys long h k2 late too e = absurd (omega arith)
record-told k j (t ∷ ts) [] plains xs ys long h k2 late too e = absurd (omega arith)
record-told k j (t ∷ ts) (u ∷ us) plains xs ys long h k2 late too e =
    let one = one-told k j t u (front_of plains) (odd_in k (j + 1) ts (drop 1 plains) ++ xs) (odd_in k (j + 1) us (drop 1 plains) ++ ys) h.0 k2.0
    (λ tals zs. not-later k j tals ts (drop 1 plains) xs zs late) (λ tals zs. not-later k j tals us (drop 1 plains) ys zs too)
    (sym (append_assoc (odd_lane k j t (front_of plains)) (odd_in k (j + 1) ts (drop 1 plains)) xs) ∙ e
    ∙ append_assoc (odd_lane k j u (front_of plains)) (odd_in k (j + 1) us (drop 1 plains)) ys) in
    let rest = record-told k (j + 1) ts us (drop 1 plains) xs ys (omega arith) h.1 k2.1 late too one.rest in
    (ap (λ z. z ∷ ts) one.first ∙ ap (λ zs. u ∷ zs) rest.0, rest.1)

-- data records with the same odd lanes have one layout
pub body-told : (k : ℕ) (body more plains : BodyLayout) → SameShape body more → BodyFits body → BodyFits more
    → odd_from k body plains ≡ odd_from k more plains → body ≡ more
body-told k [] [] plains shape h k2 e = refl
body-told k [] (u ∷ us) plains shape h k2 e = absurd shape
body-told k (t ∷ ts) [] plains shape h k2 e = absurd shape
body-told k (t ∷ ts) (u ∷ us) plains shape h k2 e =
    let one = record-told k 0 t u (front_of plains) (odd_from (k + 1) ts (drop 1 plains)) (odd_from (k + 1) us (drop 1 plains)) shape.0 h.0 k2.0
    (from-record (k + 1) ts (drop 1 plains)) (from-record (k + 1) us (drop 1 plains)) e in
    let rest = body-told (k + 1) ts us (drop 1 plains) shape.1 h.1 k2.1 one.1 in
    ap (λ z. z ∷ ts) one.0 ∙ ap (λ zs. u ∷ zs) rest

-- the odd lanes of data records that fit can be written
pub record-fits : (k j : ℕ) (lanes plains : RecordLayout) → RecordFits lanes → k < 10 ^ 64 → j + length lanes < 10 ^ 64 → AllLanesFit (odd_in k j lanes plains)
record-fits k j [] plains h low less = tt
record-fits k j (tals ∷ lanes) plains h low less =
    both (bytes_eq (tal_lines tals) (tal_lines (front_of plains))) (odd_in k (j + 1) lanes (drop 1 plains))
    (record { data_record = low; number = omega (arith, less); tals = h.0 }) (record-fits k (j + 1) lanes (drop 1 plains) h.1 low (omega (arith, less)))
  where
    both : (b : Bool) (rest : List OddLane) → LaneFits (lane_with k j tals) → AllLanesFit rest → AllLanesFit (cond b [] (lane_with k j tals ∷ []) ++ rest)
    both true rest one more = more
    both false rest one more = (one, more)

lanes-both : (xs ys : List OddLane) → AllLanesFit xs → AllLanesFit ys → AllLanesFit (xs ++ ys)
lanes-both [] ys h k = k
lanes-both (x ∷ xs) ys h k = (h.0, lanes-both xs ys h.1 k)

-- no data record has more lanes than these
abbrev pub AreFew : ℕ → BodyLayout → Type 0
AreFew n [] = Unit {0}
AreFew n (lanes ∷ body) = (length lanes < n) × AreFew n body

pub lanes-fit : (k : ℕ) (body plains : BodyLayout) → BodyFits body → AreFew (10 ^ 64) body → k + length body < 10 ^ 64 → AllLanesFit (odd_from k body plains)
lanes-fit k [] plains h few less = tt
lanes-fit k (lanes ∷ body) plains h few less =
    lanes-both (odd_in k 0 lanes (front_of plains)) (odd_from (k + 1) body (drop 1 plains))
    (record-fits k 0 lanes (front_of plains) h.0 (omega (arith, less)) (let low = few.0 in omega (arith, low)))
    (lanes-fit (k + 1) body (drop 1 plains) h.1 few.1 (omega (arith, less)))
