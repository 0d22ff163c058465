-- The words of a command's last argument, which is one word or more, are walked over one at a time.
use Rattle.std.proofs.Common.{◌≡◌, ◌≤◌, ◌<◌, ◌&&◌, ℕ, Bool, List, [], ◌∷◌, ◌++◌, codes, true, false, refl, nat_eq, nat_le, length, Some, None, ap, sym, ◌∙◌, arith, append_assoc}
use Rattle.std.proofs.lemmas.List.{append-nil}
use Rattle.std.proofs.lemmas.Bool.Decides.{nat_tests}
use Rattle.std.specs.Prelude.{fold}
use Rattle.std.specs.List.{list_all}
use Rattle.clap.specs.Walk.{Held, Row, Rule, Text, Walk, finished, positional, walked}
use Rattle.clap.specs.Simple.{Shape}
use Rattle.clap.specs.Takes.{default_passes, is_valid, settle_passes, turn_passes, value_passes, walk_passes}
use Rattle.edf_command_line.proofs.PlainFacts.{first_is, tail_plain}
use Rattle.edf_jobs.specs.Jobs.{ArePlain}

-- the walk within the last argument, which is the one at this place, from 1 on
abbrev pub reading : ℕ → List Row → List Text → Walk
reading place rows seen = record {
  held = record { rows = rows; pending = Some (codes "EXPORT", seen); skip = 0 };
  waiting = positional;
  position = place;
  is_trailing = false;
  stopped = None;
}

-- a word more is one more of the last argument
abbrev pub ReadsOn : Shape → ℕ → Type 0
ReadsOn s place = (rows : List Row) (seen : List Text) (a : ℕ) (xs : Text) → nat_eq a 45 ≡ false
    → walked s.rules [] (reading place rows seen) (a ∷ xs) ≡ reading place rows (seen ++ (a ∷ xs) ∷ [])

abbrev pub PassesOn : Shape → ℕ → Type 0
PassesOn s place = (rows : List Row) (seen : List Text) (a : ℕ) (xs : Text) → nat_eq a 45 ≡ false
    → turn_passes s [] (reading place rows seen) (a ∷ xs) ≡ true

pub all_read : (s : Shape) (place : ℕ) → ReadsOn s place → (rows : List Row) (seen words : List Text) → ArePlain words
    → fold (walked s.rules []) (reading place rows seen) words ≡ reading place rows (seen ++ words)
all_read s place reads rows seen [] plain = ap (reading place rows) (sym (append-nil seen))
all_read s place reads rows seen ([] ∷ rest) plain = let none : 0 < length {A = ℕ} [] = (plain 0 (omega arith)).0 in absurd (omega arith)
all_read s place reads rows seen ((a ∷ xs) ∷ rest) plain =
    ap (λ (w : Walk). fold (walked s.rules []) w rest) (reads rows seen a xs (first_is a (plain 0 (omega arith)).1))
    ∙ all_read s place reads rows (seen ++ (a ∷ xs) ∷ []) rest (tail_plain (a ∷ xs) rest plain)
    ∙ ap (reading place rows) (append_assoc seen ((a ∷ xs) ∷ []) rest)

pub all_pass : (s : Shape) (place : ℕ) → ReadsOn s place → PassesOn s place → (rows : List Row) (seen words : List Text) → ArePlain words
    → walk_passes s [] (reading place rows seen) words ≡ true
unfolding walk_passes
all_pass s place reads passes rows seen [] plain = refl
all_pass s place reads passes rows seen ([] ∷ rest) plain = let none : 0 < length {A = ℕ} [] = (plain 0 (omega arith)).0 in absurd (omega arith)
all_pass s place reads passes rows seen ((a ∷ xs) ∷ rest) plain =
    let p : nat_eq a 45 ≡ false = first_is a (plain 0 (omega arith)).1 in
    ap (λ b. b && walk_passes s [] (walked s.rules [] (reading place rows seen) (a ∷ xs)) rest) (passes rows seen a xs p)
    ∙ ap (λ (w : Walk). walk_passes s [] w rest) (reads rows seen a xs p)
    ∙ all_pass s place reads passes rows (seen ++ (a ∷ xs) ∷ []) rest (tail_plain (a ∷ xs) rest plain)

pub all_values : (r : Rule) → ((x : Text) → value_passes r x ≡ true) → (words : List Text) → list_all (value_passes r) words ≡ true
all_values r each [] = refl
all_values r each (x ∷ xs) = ap (λ b. b && list_all (value_passes r) xs) (each x) ∙ all_values r each xs

pub both_true : (a b : Bool) → a ≡ true → b ≡ true → (a && b) ≡ true
both_true a b p q = ap (λ x. x && b) p ∙ q

pub at_most : (a b : ℕ) → a ≤ b → nat_le a b ≡ true
at_most a b h = grind (arith, nat_tests)

-- what is left to pass at the end of the words
abbrev pub ends : Shape → Held → Bool
ends s h = settle_passes s.rules s.args_override_self h && (list_all default_passes s.rules && is_valid s (finished s.rules h) false)
