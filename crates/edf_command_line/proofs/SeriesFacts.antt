-- The arguments of a command over an original and several exports are those that `clap` takes, whatever its name.
use Rattle.std.proofs.Common.{◌≡◌, ◌≤◌, ◌&&◌, ℕ, List, [], ◌∷◌, codes, true, false, refl, nat_eq, nat_le, length, ap, ◌∙◌, arith}
use Rattle.std.specs.Prelude.{fold}
use Rattle.std.specs.List.{list_all, slice_index_or}
use Rattle.clap.specs.Lexer.{usize_max}
use Rattle.clap.specs.Walk.{Row, Rule, Text, Walk, finished, nothing_held, used, walk_from, walked}
use Rattle.clap.specs.Simple.{Shape}
use Rattle.clap.specs.Takes.{is_valid, level_passes, settle_passes, value_passes, walk_passes}
use Rattle.clap.proofs.OnLiterals.{clap_on_literals}
use Rattle.edf_command_line.proofs.ExportFacts.{alone}
use Rattle.edf_command_line.proofs.LastFacts.{PassesOn, ReadsOn, all_pass, all_read, all_values, at_most, both_true, ends, reading}
use Rattle.edf_command_line.proofs.PlainFacts.{IsPlain, first_is}
use Rattle.edf_command_line.specs.Commands.{needed, series_app}
use Rattle.edf_jobs.specs.Jobs.{ArePlain}

-- the command as it is built, in a program that has no other
module _ (name : Text) where
  abbrev pub series : Shape
  series = alone (series_app name)

  abbrev rule_at : ℕ → Rule
  rule_at k = slice_index_or series.rules k (needed [])

  reads : ReadsOn series 2
  unfolding clap_on_literals
  reads rows seen a xs p = simp p

  passes : PassesOn series 2
  unfolding clap_on_literals
  passes rows seen a xs p = simp p

  -- the row of the argument before the last
  abbrev rows_with : Text → List Row
  rows_with x = used (rule_at 0) (x ∷ []) []

  begun : (a b : ℕ) (xs ys : Text) (rest : List Text) → nat_eq a 45 ≡ false → nat_eq b 45 ≡ false
      → fold (walked series.rules []) (walk_from nothing_held) ((a ∷ xs) ∷ (b ∷ ys) ∷ rest)
      ≡ fold (walked series.rules []) (reading 2 (rows_with (a ∷ xs)) ((b ∷ ys) ∷ [])) rest
  unfolding clap_on_literals
  begun a b xs ys rest p q = simp (p, q)

  begun_passes : (a b : ℕ) (xs ys : Text) (rest : List Text) → nat_eq a 45 ≡ false → nat_eq b 45 ≡ false
      → walk_passes series [] (walk_from nothing_held) ((a ∷ xs) ∷ (b ∷ ys) ∷ rest)
      ≡ walk_passes series [] (reading 2 (rows_with (a ∷ xs)) ((b ∷ ys) ∷ [])) rest
  unfolding clap_on_literals
  begun_passes a b xs ys rest p q = simp (p, q)

  -- the last argument as it is used at the end
  settles : (x y : Text) (rest : List Text) → length (y ∷ rest) ≤ usize_max
      → settle_passes series.rules false (reading 2 (rows_with x) (y ∷ rest)).held ≡ true
  unfolding clap_on_literals
  settles x y rest small =
      both_true (nat_le 1 (length (y ∷ rest))) (nat_le (length (y ∷ rest)) usize_max && list_all (value_passes (rule_at 1)) (y ∷ rest))
      (at_most 1 (length (y ∷ rest)) (omega arith))
      (both_true (nat_le (length (y ∷ rest)) usize_max) (list_all (value_passes (rule_at 1)) (y ∷ rest)) (at_most (length (y ∷ rest)) usize_max small)
      (all_values (rule_at 1) (λ v. refl) (y ∷ rest)))

  is_whole : (x y : Text) (rest : List Text) → is_valid series (finished series.rules (reading 2 (rows_with x) (y ∷ rest)).held) false ≡ true
  unfolding clap_on_literals
  is_whole x y rest = refl

  -- the subcommand takes its words
  leaf_begun : (a b : ℕ) (xs ys : Text) (rest : List Text) → nat_eq a 45 ≡ false → nat_eq b 45 ≡ false → ArePlain rest
      → length ((b ∷ ys) ∷ rest) ≤ usize_max → level_passes series [] nothing_held ((a ∷ xs) ∷ (b ∷ ys) ∷ rest) false ≡ true
  leaf_begun a b xs ys rest p q plain small =
      both_true (walk_passes series [] (walk_from nothing_held) ((a ∷ xs) ∷ (b ∷ ys) ∷ rest))
      (ends series (fold (walked series.rules []) (walk_from nothing_held) ((a ∷ xs) ∷ (b ∷ ys) ∷ rest)).held)
      (begun_passes a b xs ys rest p q ∙ all_pass series 2 reads passes (rows_with (a ∷ xs)) ((b ∷ ys) ∷ []) rest plain)
      (ap (λ (w : Walk). ends series w.held) (begun a b xs ys rest p q ∙ all_read series 2 reads (rows_with (a ∷ xs)) ((b ∷ ys) ∷ []) rest plain)
      ∙ both_true (settle_passes series.rules false (reading 2 (rows_with (a ∷ xs)) ((b ∷ ys) ∷ rest)).held)
      (is_valid series (finished series.rules (reading 2 (rows_with (a ∷ xs)) ((b ∷ ys) ∷ rest)).held) false)
      (settles (a ∷ xs) (b ∷ ys) rest small) (is_whole (a ∷ xs) (b ∷ ys) rest))

  pub series_passes : (x y : Text) (rest : List Text) → IsPlain x → IsPlain y → ArePlain rest → length (y ∷ rest) ≤ usize_max
      → level_passes series [] nothing_held (x ∷ y ∷ rest) false ≡ true
  series_passes (a ∷ xs) (b ∷ ys) rest p q plain small = leaf_begun a b xs ys rest (first_is a p.1) (first_is b q.1) plain small
  series_passes [] y rest p q plain small = absurd (omega arith)
  series_passes (a ∷ xs) [] rest p q plain small = absurd (omega arith)
