-- The layout of a TAL is read from the front of its lane.
use Rattle.std.proofs.Common.{◌≡◌, ◌≢◌, ℕ, ℤ, true, false, not, cond, ◌==◌, suc, ◌+◌, List, [], ◌∷◌, ◌++◌, length, take, drop, Option, Some, None, arith, refl, ap, ◌∙◌, sym, append_assoc}
use Rattle.std.specs.List.{position_or_len}
use Rattle.std.proofs.Math.Seq.{take-append_seam, take-length}
use Rattle.std.proofs.lemmas.Bool.Decides.{nat_tests}
use Rattle.std.proofs.lemmas.List.{append-nil}
use Rattle.edf_fields.specs.texts.Onsets.{SpellsOnset}
use Rattle.edf_tal.specs.Reading.{until, behind, ended}
use Rattle.edf_tal.specs.Tals.{TalValue, SpellsTal, SpellsDuration}
use Rattle.edf_layout.specs.PlainLaws.{is_plain_onset}
use Rattle.edf_layout.specs.body.LaneLayouts.{TalLayout, IsLaidTal, is_plain_duration, unless_plain}
use Rattle.edf_layout.specs.body.LaneReading.{onset_at, duration_at, layout_at}
use Rattle.edf_layout.proofs.body.LayoutFacts.{Lacks, lacks-append, onset-lacks, duration-lacks, tal-lacks}

other : (x c : ℕ) → x ≢ c → (x == c) ≡ false
other x c h = grind (arith, nat_tests)

itself : (c : ℕ) → (c == c) ≡ true
itself c = grind (arith, nat_tests)

-- the first byte c stands behind bytes that lack it
place-there : (c : ℕ) (xs ys : List ℕ) → Lacks c xs → position_or_len (λ b. b == c) (xs ++ c ∷ ys) ≡ length xs
place-there c [] ys h = ap (λ t. cond (not t) (1 + position_or_len (λ b. b == c) ys) 0) (itself c)
place-there c (x ∷ xs) ys h =
    ap (λ t. cond (not t) (1 + position_or_len (λ b. b == c) (xs ++ c ∷ ys)) 0) (other x c h.0)
    ∙ ap (λ n. 1 + n) (place-there c xs ys h.1) ∙ (let e : 1 + length xs ≡ suc (length xs) = omega arith in e)

place-none : (c : ℕ) (xs : List ℕ) → Lacks c xs → position_or_len (λ b. b == c) xs ≡ length xs
place-none c [] h = refl
place-none c (x ∷ xs) h =
    ap (λ t. cond (not t) (1 + position_or_len (λ b. b == c) xs) 0) (other x c h.0)
    ∙ ap (λ n. 1 + n) (place-none c xs h.1) ∙ (let e : 1 + length xs ≡ suc (length xs) = omega arith in e)

until-there : (c : ℕ) (xs ys : List ℕ) → Lacks c xs → until c (xs ++ c ∷ ys) ≡ xs
until-there c xs ys h = ap (λ n. take n (xs ++ c ∷ ys)) (place-there c xs ys h) ∙ take-append_seam xs (c ∷ ys)

until-none : (c : ℕ) (xs : List ℕ) → Lacks c xs → until c xs ≡ xs
until-none c xs h = ap (λ n. take n xs) (place-none c xs h) ∙ take-length xs

behind-there : (c : ℕ) (xs ys : List ℕ) → Lacks c xs → behind c (xs ++ c ∷ ys) ≡ ys
behind-there c xs ys h = ap (λ n. drop (n + 1) (xs ++ c ∷ ys)) (place-there c xs ys h) ∙ dropped xs
  where
    dropped : (xs : List ℕ) → drop (length xs + 1) (xs ++ c ∷ ys) ≡ ys
    dropped [] = refl
    dropped (x ∷ xs) = ap (λ n. drop n (x ∷ (xs ++ c ∷ ys))) (let e : suc (length xs) + 1 ≡ suc (length xs + 1) = omega arith in e) ∙ dropped xs

drop-seam : (xs ys : List ℕ) → drop (length xs) (xs ++ ys) ≡ ys
drop-seam [] ys = refl
drop-seam (x ∷ xs) ys = drop-seam xs ys

-- the onset stands up to the byte 21, or to the end
onset-first : (o d : List ℕ) (v : ℤ) (w : Option ℤ) → SpellsOnset o v → SpellsDuration d w → until 21 (o ++ d) ≡ o
onset-first o d v None h k =
    ap (λ x. until 21 (o ++ x)) k ∙ ap (until 21) (append-nil o) ∙ until-none 21 o (onset-lacks 21 o v (omega arith) h)
onset-first o d v (Some w) h (span, is, time, value) =
    ap (λ x. until 21 (o ++ x)) is ∙ until-there 21 o span (onset-lacks 21 o v (omega arith) h)

-- what stands before the first byte 20
pub head-read : (lane bytes rest : List ℕ) (tal : TalValue) → (s : SpellsTal bytes tal) → lane ≡ bytes ++ 0 ∷ rest → until 20 lane ≡ s.onset ++ s.duration
head-read lane bytes rest tal s whole =
    let o = s.onset in
    let d = s.duration in
    let times : Lacks 20 (o ++ d) = lacks-append 20 o d (onset-lacks 20 o tal.onset (omega arith) s.onset_is) (duration-lacks 20 d tal.duration (omega arith) s.duration_is) in
    let flat : lane ≡ (o ++ d) ++ 20 ∷ (ended tal.texts ++ 0 ∷ rest) = whole ∙ ap (λ b. b ++ 0 ∷ rest) s.whole ∙ append_assoc (o ++ d) (20 ∷ ended tal.texts) (0 ∷ rest) in
    ap (until 20) flat ∙ until-there 20 (o ++ d) (ended tal.texts ++ 0 ∷ rest) times

-- what is read of a lane is the layout of its first TAL
pub first-read : (lane bytes rest : List ℕ) (tal : TalValue) (layout : TalLayout) → IsLaidTal bytes tal layout → lane ≡ bytes ++ 0 ∷ rest → (layout_at lane ≡ layout) × (behind 0 lane ≡ rest)
first-read lane bytes rest tal layout laid whole =
    let s = laid.spelled in
    let o = s.onset in
    let d = s.duration in
    let head : until 20 lane ≡ o ++ d = head-read lane bytes rest tal s whole in
    let onset : onset_at lane ≡ o = ap (until 21) head ∙ onset-first o d tal.onset tal.duration s.onset_is s.duration_is in
    let duration : duration_at lane ≡ d = ap (λ x. drop (length x) (until 20 lane)) onset ∙ ap (drop (length o)) head ∙ drop-seam o d in
    let make : Option (List ℕ) → Option (List ℕ) → TalLayout = λ a b. record { onset = a; duration = b } in (
      ap (λ t. make (unless_plain (is_plain_onset t) t) (unless_plain (is_plain_duration (duration_at lane)) (duration_at lane))) onset
          ∙ ap (λ t. make (unless_plain (is_plain_onset o) o) (unless_plain (is_plain_duration t) t)) duration
          ∙ ap (λ a. make a (unless_plain (is_plain_duration d) d)) (sym laid.onset) ∙ ap (make layout.onset) (sym laid.duration),
      ap (behind 0) whole ∙ behind-there 0 bytes rest (tal-lacks bytes tal s),
    )
