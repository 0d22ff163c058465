-- The arguments of a command over an original, a claim and several exports are those that `clap` takes, whatever its name.
use Rattle.std.proofs.Common.{◌≡◌, ◌≤◌, ◌&&◌, ℕ, List, [], ◌∷◌, true, false, refl, nat_eq, nat_le, length, ap, ◌∙◌, arith}
use Rattle.std.specs.Prelude.{fold}
use Rattle.std.specs.List.{list_all, slice_index_or}
use Rattle.clap.specs.Lexer.{usize_max}
use Rattle.clap.specs.Walk.{Row, Rule, Text, Walk, finished, nothing_held, used, walk_from, walked}
use Rattle.clap.specs.Simple.{Shape}
use Rattle.clap.specs.Takes.{is_valid, level_passes, settle_passes, value_passes, walk_passes}
use Rattle.clap.proofs.OnLiterals.{clap_on_literals}
use Rattle.edf_command_line.proofs.ExportFacts.{alone}
use Rattle.edf_command_line.proofs.LastFacts.{PassesOn, ReadsOn, all_pass, all_read, all_values, at_most, both_true, ends, reading}
use Rattle.edf_command_line.proofs.PlainFacts.{IsPlain, first_is}
use Rattle.edf_command_line.specs.Commands.{needed, parts_app}
use Rattle.edf_jobs.specs.Jobs.{ArePlain}

-- the command as it is built, in a program that has no other
module _ (name : Text) where
  abbrev pub parts : Shape
  parts = alone (parts_app name)

  abbrev rule_at : ℕ → Rule
  rule_at k = slice_index_or parts.rules k (needed [])

  reads : ReadsOn parts 3
  unfolding clap_on_literals
  reads rows seen a xs p = simp p

  passes : PassesOn parts 3
  unfolding clap_on_literals
  passes rows seen a xs p = simp p

  -- the rows of the two arguments before the last
  abbrev rows_with : Text → Text → List Row
  rows_with x y = used (rule_at 1) (y ∷ []) (used (rule_at 0) (x ∷ []) [])

  begun : (a b c : ℕ) (xs ys zs : Text) (rest : List Text) → nat_eq a 45 ≡ false → nat_eq b 45 ≡ false → nat_eq c 45 ≡ false
      → fold (walked parts.rules []) (walk_from nothing_held) ((a ∷ xs) ∷ (b ∷ ys) ∷ (c ∷ zs) ∷ rest)
      ≡ fold (walked parts.rules []) (reading 3 (rows_with (a ∷ xs) (b ∷ ys)) ((c ∷ zs) ∷ [])) rest
  unfolding clap_on_literals
  begun a b c xs ys zs rest p q r = simp (p, q, r)

  begun_passes : (a b c : ℕ) (xs ys zs : Text) (rest : List Text) → nat_eq a 45 ≡ false → nat_eq b 45 ≡ false → nat_eq c 45 ≡ false
      → walk_passes parts [] (walk_from nothing_held) ((a ∷ xs) ∷ (b ∷ ys) ∷ (c ∷ zs) ∷ rest)
      ≡ walk_passes parts [] (reading 3 (rows_with (a ∷ xs) (b ∷ ys)) ((c ∷ zs) ∷ [])) rest
  unfolding clap_on_literals
  begun_passes a b c xs ys zs rest p q r = simp (p, q, r)

  -- the last argument as it is used at the end
  settles : (x y z : Text) (rest : List Text) → length (z ∷ rest) ≤ usize_max
      → settle_passes parts.rules false (reading 3 (rows_with x y) (z ∷ rest)).held ≡ true
  unfolding clap_on_literals
  settles x y z rest small =
      both_true (nat_le 1 (length (z ∷ rest))) (nat_le (length (z ∷ rest)) usize_max && list_all (value_passes (rule_at 2)) (z ∷ rest))
      (at_most 1 (length (z ∷ rest)) (omega arith))
      (both_true (nat_le (length (z ∷ rest)) usize_max) (list_all (value_passes (rule_at 2)) (z ∷ rest)) (at_most (length (z ∷ rest)) usize_max small) (all_values (rule_at 2) (λ v. refl) (z ∷ rest)))

  is_whole : (x y z : Text) (rest : List Text) → is_valid parts (finished parts.rules (reading 3 (rows_with x y) (z ∷ rest)).held) false ≡ true
  unfolding clap_on_literals
  is_whole x y z rest = refl

  -- the subcommand takes its words
  parts_begun : (a b c : ℕ) (xs ys zs : Text) (rest : List Text) → nat_eq a 45 ≡ false → nat_eq b 45 ≡ false → nat_eq c 45 ≡ false → ArePlain rest
      → length ((c ∷ zs) ∷ rest) ≤ usize_max → level_passes parts [] nothing_held ((a ∷ xs) ∷ (b ∷ ys) ∷ (c ∷ zs) ∷ rest) false ≡ true
  parts_begun a b c xs ys zs rest p q r plain small =
      both_true (walk_passes parts [] (walk_from nothing_held) ((a ∷ xs) ∷ (b ∷ ys) ∷ (c ∷ zs) ∷ rest))
      (ends parts (fold (walked parts.rules []) (walk_from nothing_held) ((a ∷ xs) ∷ (b ∷ ys) ∷ (c ∷ zs) ∷ rest)).held)
      (begun_passes a b c xs ys zs rest p q r ∙ all_pass parts 3 reads passes (rows_with (a ∷ xs) (b ∷ ys)) ((c ∷ zs) ∷ []) rest plain)
      (ap (λ (w : Walk). ends parts w.held) (begun a b c xs ys zs rest p q r ∙ all_read parts 3 reads (rows_with (a ∷ xs) (b ∷ ys)) ((c ∷ zs) ∷ []) rest plain)
      ∙ both_true (settle_passes parts.rules false (reading 3 (rows_with (a ∷ xs) (b ∷ ys)) ((c ∷ zs) ∷ rest)).held)
      (is_valid parts (finished parts.rules (reading 3 (rows_with (a ∷ xs) (b ∷ ys)) ((c ∷ zs) ∷ rest)).held) false)
      (settles (a ∷ xs) (b ∷ ys) (c ∷ zs) rest small) (is_whole (a ∷ xs) (b ∷ ys) (c ∷ zs) rest))

  pub parts_passes : (x y z : Text) (rest : List Text) → IsPlain x → IsPlain y → IsPlain z → ArePlain rest → length (z ∷ rest) ≤ usize_max
      → level_passes parts [] nothing_held (x ∷ y ∷ z ∷ rest) false ≡ true
  parts_passes (a ∷ xs) (b ∷ ys) (c ∷ zs) rest p q r plain small = parts_begun a b c xs ys zs rest (first_is a p.1) (first_is b q.1) (first_is c r.1) plain small
  parts_passes [] y z rest p q r plain small = absurd (omega arith)
  parts_passes (a ∷ xs) [] z rest p q r plain small = absurd (omega arith)
  parts_passes (a ∷ xs) (b ∷ ys) [] rest p q r plain small = absurd (omega arith)
