-- A lane that holds the TAL that keeps the time and nothing else.
use Rattle.std.proofs.Common.{◌≡◌, ℕ, ◌<◌, ◌==◌, Bool, ◌&&◌, List, [], ◌∷◌, ◌++◌, length, refl, sym, ◌∙◌, ap, arith, true, false, cond, lit≤, eqb-true, inl, inr, Option, Some, None, Ok, append_assoc, append-nil, lt-ltb, true≢false, length-append, nat_lt}
use Rattle.std.proofs.lemmas.List.Elements.{All-nil, All-cons}
use Rattle.edf_tal.proofs.TextFacts.{bytes_of_text}
use Rattle.std.specs.Prelude.{ℤ, MatchOption}
use Rattle.std.specs.List.{position_or_len}
use Rattle.std.proofs.lemmas.Bool.{cases_Bool}
use Rattle.std.proofs.lemmas.Bool.Decides.{nat_tests}
use Rattle.std.proofs.lemmas.Str.{IsUtf8-nil}
use Rattle.edf_fields.specs.texts.OnsetsReading.{onset_of}
use Rattle.edf_fields.proofs.ForCallers.{onset_of_spelled, onset_of_some}
use Rattle.edf_tal.specs.Tals.{SpellsTal, IsText}
use Rattle.edf_tal.specs.Timekeeping.{IsTimeAlone, time_tal}
use Rattle.edf_tal.specs.Reading.{until, behind, items_of, ends_alone, time_alone_of, are_zeros}
use Rattle.edf_tal.proofs.LawFacts.{parted}
use Rattle.edf_tal.proofs.ReadFacts.{onset-lacks, position-lacks, before-lacks, after-lacks, lane-read}

and_true : (x y : Bool) → (x && y) ≡ true → (x ≡ true) × (y ≡ true)
and_true true y h = (refl, h)
and_true false y h = absurd (true≢false (sym h))

true_lt : (a b : ℕ) → nat_lt a b ≡ true → a < b
true_lt a b h = grind (arith, nat_tests)

-- what stands behind the onset
shape : (texts : List ℕ) → ends_alone texts ≡ true → (rest : List ℕ) × (texts ≡ 20 ∷ 0 ∷ rest) × (are_zeros rest ≡ true)
shape [] h = absurd (true≢false (sym h))
shape (a ∷ []) h = absurd (true≢false (sym h))
shape (a ∷ b ∷ rest) h =
    let tests = and_true (nat_lt 1 (length (a ∷ b ∷ rest))) (a == 20 && are_zeros (b ∷ rest)) h in
    let parts = and_true (a == 20) (are_zeros (b ∷ rest)) tests.1 in
    let zeros = and_true (b == 0) (are_zeros rest) parts.1 in
    (rest, ap (λ x. x ∷ b ∷ rest) (eqb-true a 20 parts.0) ∙ ap (λ x. 20 ∷ x ∷ rest) (eqb-true b 0 zeros.0), zeros.1)

-- the bytes of such a lane
of_bytes : (lane s rest : List ℕ) (v : ℤ) → lane ≡ s ++ 20 ∷ 20 ∷ 0 ∷ rest → are_zeros rest ≡ true → onset_of s ≡ Some v → IsTimeAlone lane v
of_bytes lane s rest v is zeros onset =
    let spelled : SpellsTal (s ++ 20 ∷ 20 ∷ []) (time_tal v) = record {
      onset = s;
      duration = [];
      onset_is = onset_of_some s v onset;
      duration_is = refl;
      texts = All-cons IsText [] [] (IsUtf8-nil, bytes_of_text [] refl) (All-nil IsText);
      whole = ap (λ h. h ++ 20 ∷ 20 ∷ []) (sym (append-nil s));
    } in
    (s ++ 20 ∷ 20 ∷ [], rest, spelled, is ∙ sym (append_assoc s (20 ∷ 20 ∷ []) (0 ∷ rest)), zeros)

pub alone_read : (lane : List ℕ) (v : ℤ) → time_alone_of lane ≡ Some v → IsTimeAlone lane v
unfolding time_alone_of
alone_read lane v h = elim (cases_Bool (nat_lt (position_or_len (λ b. b == 20) lane) (length lane) && ends_alone (behind 20 lane))) [
  | inr fails ↦
      let is : None ≡ Some v = sym (ap (λ b. cond b (onset_of (until 20 lane)) None) fails) ∙ h in
      absurd (cc)
  | inl holds ↦
      let tests = and_true (nat_lt (position_or_len (λ b. b == 20) lane) (length lane)) (ends_alone (behind 20 lane)) holds in
      let onset : onset_of (until 20 lane) ≡ Some v = sym (ap (λ b. cond b (onset_of (until 20 lane)) None) holds) ∙ h in
      let back = shape (behind 20 lane) tests.1 in
      of_bytes lane (until 20 lane) back.0 v (parted 20 lane (true_lt _ _ tests.0) ∙ ap (λ t. until 20 lane ++ 20 ∷ t) back.1) back.2 onset
]

pub alone_told : (lane : List ℕ) (v : ℤ) → IsTimeAlone lane v → time_alone_of lane ≡ Some v
unfolding time_alone_of
alone_told lane v (bytes, rest, sp, whole, zeros) =
    let s : List ℕ = sp.onset in
    let spelled : bytes ≡ s ++ 20 ∷ 20 ∷ [] = sp.whole ∙ ap (λ d. (s ++ d) ++ 20 ∷ 20 ∷ []) sp.duration_is ∙ ap (λ h. h ++ 20 ∷ 20 ∷ []) (append-nil s) in
    let is : lane ≡ s ++ 20 ∷ 20 ∷ 0 ∷ rest = whole ∙ ap (λ b. b ++ 0 ∷ rest) spelled ∙ append_assoc s (20 ∷ 20 ∷ []) (0 ∷ rest) in
    let lacks = onset-lacks 20 s v (lit≤ tt) sp.onset_is in
    let place : position_or_len (λ b. b == 20) lane ≡ length s = ap (position_or_len (λ b. b == 20)) is ∙ position-lacks 20 s (20 ∷ 0 ∷ rest) refl lacks in
    let long : length lane ≡ length (s ++ 20 ∷ 20 ∷ 0 ∷ rest) = ap length is in
    let found : nat_lt (position_or_len (λ b. b == 20) lane) (length lane) ≡ true = lt-ltb _ _ (omega (arith, place, long, length-append s (20 ∷ 20 ∷ 0 ∷ rest))) in
    let front : until 20 lane ≡ s = ap (until 20) is ∙ before-lacks 20 s (20 ∷ 0 ∷ rest) refl lacks in
    let back : behind 20 lane ≡ 20 ∷ 0 ∷ rest = ap (behind 20) is ∙ after-lacks 20 s (20 ∷ 0 ∷ rest) refl lacks in
    let ends : ends_alone (behind 20 lane) ≡ true = ap ends_alone back ∙ ap (λ t. t && are_zeros (0 ∷ rest)) (lt-ltb 1 (length (20 ∷ 0 ∷ rest)) (omega arith)) ∙ zeros in
    rw (found, ends) (ap onset_of front ∙ onset_of_spelled s v sp.onset_is)

-- the items of such a lane
pub alone_items : (lane : List ℕ) (v : ℤ) → time_alone_of lane ≡ Some v → items_of lane ≡ Ok (time_tal v) ∷ []
alone_items lane v h = lane-read (time_tal v ∷ []) lane (alone_read lane v h)

-- what is read of a lane, both ways
pub alone_decided : (onset : Option ℤ) (lane : List ℕ) → onset ≡ time_alone_of lane → MatchOption onset ((v : ℤ) → IsTimeAlone lane v → ⊥) (IsTimeAlone lane)
alone_decided None lane e = λ v alone. let is : None ≡ Some v = e ∙ alone_told lane v alone in cc
alone_decided (Some v) lane e = alone_read lane v (sym e)
