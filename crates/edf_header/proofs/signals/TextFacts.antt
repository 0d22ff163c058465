-- The texts of a signal, one behind the other.
use Rattle.std.proofs.Common.{◌≡◌, ℕ, length, ◌+◌, ◌-◌, List, ◌++◌, take, drop, sym, ap, ◌∙◌, arith, append_assoc}
use Rattle.std.proofs.Math.Seq.{take-append_seam, drop-append_seam}
use Rattle.std.proofs.lemmas.List.{length-append}
use Rattle.edf_header.specs.signals.PackedTexts.{SignalTexts, between, texts_between, AreBehind}

-- what stands between what comes before and what comes behind
between-is : (xs ys zs : List ℕ) (from to : ℕ) → from ≡ length xs → to ≡ length xs + length ys → between from to (xs ++ (ys ++ zs)) ≡ ys
between-is xs ys zs from to f t =
    let count : to - from ≡ length ys = omega (arith, f, t) in
    ap (λ n. take (to - from) (drop n (xs ++ (ys ++ zs)))) f
    ∙ ap (take (to - from)) (drop-append_seam xs (ys ++ zs))
    ∙ ap (λ n. take n (ys ++ zs)) count
    ∙ take-append_seam ys zs

-- texts that were put one behind the other stand between the places at which they ended
pub texts_kept : (a b c d : List ℕ) (i j k : ℕ) → i ≡ length a → j ≡ length a + length b → k ≡ length (a ++ b) + length c
    → texts_between (((a ++ b) ++ c) ++ d) i j k ≡ record { transducer = a; dimension = b; prefilter = c; reserved = d }
texts_kept a b c d i j k at-i at-j at-k =
    let all : List ℕ = ((a ++ b) ++ c) ++ d in
    let two : all ≡ (a ++ b) ++ (c ++ d) = append_assoc (a ++ b) c d in
    let one : all ≡ a ++ (b ++ (c ++ d)) = two ∙ append_assoc a b (c ++ d) in
    let j-at : j ≡ length (a ++ b) = at-j ∙ sym (length-append a b) in
    let k-at : k ≡ length ((a ++ b) ++ c) = at-k ∙ sym (length-append (a ++ b) c) in
    let transducer : take i all ≡ a = ap (take i) one ∙ ap (λ n. take n (a ++ (b ++ (c ++ d)))) at-i ∙ take-append_seam a (b ++ (c ++ d)) in
    let dimension : between i j all ≡ b = ap (between i j) one ∙ between-is a b (c ++ d) i j at-i at-j in
    let prefilter : between j k all ≡ c = ap (between j k) two ∙ between-is (a ++ b) c d j k j-at at-k in
    let reserved : drop k all ≡ d = ap (λ n. drop n all) k-at ∙ drop-append_seam ((a ++ b) ++ c) d in
    let made : List ℕ → List ℕ → List ℕ → List ℕ → SignalTexts = λ w x y z. record { transducer = w; dimension = x; prefilter = y; reserved = z } in
    ap (λ w. made w (between i j all) (between j k all) (drop k all)) transducer
    ∙ ap (λ x. made a x (between j k all) (drop k all)) dimension
    ∙ ap (λ y. made a b y (drop k all)) prefilter
    ∙ ap (λ z. made a b c z) reserved

-- and each ends where the next one begins
pub texts_behind : (a b c d : List ℕ) (i j k : ℕ) → i ≡ length a → j ≡ length a + length b → k ≡ length (a ++ b) + length c
    → AreBehind (((a ++ b) ++ c) ++ d) i j k
texts_behind a b c d i j k at-i at-j at-k =
    let two : length (a ++ b) ≡ length a + length b = length-append a b in
    let three : length ((a ++ b) ++ c) ≡ length (a ++ b) + length c = length-append (a ++ b) c in
    let four : length (((a ++ b) ++ c) ++ d) ≡ length ((a ++ b) ++ c) + length d = length-append ((a ++ b) ++ c) d in
    record {
      first = omega (arith, at-i, at-j);
      second = omega (arith, at-j, at-k, two);
      third = omega (arith, at-k, three, four);
    }
