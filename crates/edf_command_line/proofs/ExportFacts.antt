-- The arguments of a command that has a fixed number of them are those that `clap` takes, whatever its name.
use Rattle.std.proofs.Common.{◌≡◌, ℕ, [], ◌∷◌, true, false, nat_eq, arith, refl}
use Rattle.std.specs.List.{slice_index_or}
use Rattle.clap.specs.Walk.{Text, nothing_held}
use Rattle.clap.specs.Simple.{App, Shape, built, new_app, with_subcommand}
use Rattle.clap.specs.Takes.{level_passes}
use Rattle.clap.proofs.OnLiterals.{clap_on_literals}
use Rattle.edf_command_line.proofs.PlainFacts.{IsPlain, first_is}
use Rattle.edf_command_line.specs.Commands.{bare_app, claim_app, export_app, file_app, pair_app}

-- a command as it is built, in a program that has no other
abbrev pub alone : App → Shape
alone app = slice_index_or (built (with_subcommand bare_app app.top)).subs 0 app.top

begun_export : (name : Text) (a b c : ℕ) (xs ys zs : Text) → nat_eq a 45 ≡ false → nat_eq b 45 ≡ false → nat_eq c 45 ≡ false
    → level_passes (alone (export_app name)) [] nothing_held ((a ∷ xs) ∷ (b ∷ ys) ∷ (c ∷ zs) ∷ []) false ≡ true
unfolding clap_on_literals
begun_export name a b c xs ys zs p q r = simp (p, q, r)

pub export_passes : (name x y z : Text) → IsPlain x → IsPlain y → IsPlain z → level_passes (alone (export_app name)) [] nothing_held (x ∷ y ∷ z ∷ []) false ≡ true
export_passes name (a ∷ xs) (b ∷ ys) (c ∷ zs) p q r = begun_export name a b c xs ys zs (first_is a p.1) (first_is b q.1) (first_is c r.1)
export_passes name [] y z p q r = absurd (omega arith)
export_passes name (a ∷ xs) [] z p q r = absurd (omega arith)
export_passes name (a ∷ xs) (b ∷ ys) [] p q r = absurd (omega arith)

begun_pair : (name : Text) (a b : ℕ) (xs ys : Text) → nat_eq a 45 ≡ false → nat_eq b 45 ≡ false
    → level_passes (alone (pair_app name)) [] nothing_held ((a ∷ xs) ∷ (b ∷ ys) ∷ []) false ≡ true
unfolding clap_on_literals
begun_pair name a b xs ys p q = simp (p, q)

pub pair_passes : (name x y : Text) → IsPlain x → IsPlain y → level_passes (alone (pair_app name)) [] nothing_held (x ∷ y ∷ []) false ≡ true
pair_passes name (a ∷ xs) (b ∷ ys) p q = begun_pair name a b xs ys (first_is a p.1) (first_is b q.1)
pair_passes name [] y p q = absurd (omega arith)
pair_passes name (a ∷ xs) [] p q = absurd (omega arith)

begun_file : (name : Text) (a : ℕ) (xs : Text) → nat_eq a 45 ≡ false → level_passes (alone (file_app name)) [] nothing_held ((a ∷ xs) ∷ []) false ≡ true
unfolding clap_on_literals
begun_file name a xs p = simp p

pub file_passes : (name x : Text) → IsPlain x → level_passes (alone (file_app name)) [] nothing_held (x ∷ []) false ≡ true
file_passes name (a ∷ xs) p = begun_file name a xs (first_is a p.1)
file_passes name [] p = absurd (omega arith)

begun_claim : (name : Text) (a : ℕ) (xs : Text) → nat_eq a 45 ≡ false → level_passes (alone (claim_app name)) [] nothing_held ((a ∷ xs) ∷ []) false ≡ true
unfolding clap_on_literals
begun_claim name a xs p = simp p

pub claim_passes : (name x : Text) → IsPlain x → level_passes (alone (claim_app name)) [] nothing_held (x ∷ []) false ≡ true
claim_passes name (a ∷ xs) p = begun_claim name a xs (first_is a p.1)
claim_passes name [] p = absurd (omega arith)

pub none_passes : (name : Text) → level_passes (alone (new_app name)) [] nothing_held [] false ≡ true
unfolding clap_on_literals
none_passes name = refl
