-- A command whose arguments are taken, as it is built alone, is a line that `clap` takes.
use Rattle.std.proofs.Common.{◌≡◌, ◌≤◌, ◌<◌, ◌&&◌, Bool, List, [], ◌∷◌, ◌++◌, codes, true, false, refl, is_some, length, Some, ap, ap₂, sym, ◌∙◌, arith, append_assoc}
use Rattle.std.proofs.lemmas.List.{append-nil}
use Rattle.std.specs.Prelude.{fold}
use Rattle.std.specs.List.{list_all}
use Rattle.clap.specs.Lexer.{usize_max}
use Rattle.clap.specs.Walk.{Names, Rule, Text, Walk, finished, nothing_held, walk, walk_from, walked}
use Rattle.clap.specs.Simple.{App, Shape, built, entered, names_of, new_app}
use Rattle.clap.specs.Takes.{default_passes, entered_passes, is_valid, level_passes, settle_passes, takes, walk_passes}
use Rattle.clap.proofs.OnLiterals.{clap_on_literals}
use Rattle.edf_command_line.proofs.ExportFacts.{alone}
use Rattle.edf_command_line.proofs.LastFacts.{both_true}
use Rattle.edf_command_line.specs.Commands.{claim_app, export_app, file_app, pair_app, parts_app, program_app, series_app}

-- behind a subcommand's name each word goes to the subcommand
stopped_walk : (rules : List Rule) (names : Names) (w : Walk) (name : Text) (seen words : List Text)
    → fold (walked rules names) (record w { stopped = Some (name, seen) }) words ≡ record w { stopped = Some (name, seen ++ words) }
unfolding walked
stopped_walk rules names w name seen [] = ap (λ (l : List Text). record w { stopped = Some (name, l) }) (sym (append-nil seen))
stopped_walk rules names w name seen (x ∷ xs) =
    stopped_walk rules names w name (seen ++ x ∷ []) xs ∙ ap (λ (l : List Text). record w { stopped = Some (name, l) }) (append_assoc seen (x ∷ []) xs)

stopped_passes : (s : Shape) (names : Names) (w : Walk) (name : Text) (seen words : List Text)
    → walk_passes s names (record w { stopped = Some (name, seen) }) words ≡ true
unfolding walked walk_passes
stopped_passes s names w name seen [] = refl
stopped_passes s names w name seen (x ∷ xs) = stopped_passes s names w name (seen ++ x ∷ []) xs

-- the program as it is built
abbrev top : App
top = built program_app

-- the walk over its words, behind the name of a subcommand and the words that follow
abbrev at : Text → List Text → Walk
at name rest = record (walk_from nothing_held) { stopped = Some (name, rest) }

abbrev top_ends : Walk → Bool
top_ends w = settle_passes top.top.rules top.top.args_override_self w.held
    && (list_all default_passes top.top.rules && is_valid top.top (finished top.top.rules w.held) (is_some (entered top w.stopped)))

abbrev all_ends : Bool → Walk → Bool
all_ends passes w = entered_passes top w.stopped && (passes && top_ends w)

-- the name is that of a subcommand, which is built as this app is
pub record Enters (name : Text) (app : App) : Type 0 where
  pub walks : (rest : List Text) → walk top.top.rules (names_of top) nothing_held (name ∷ rest) ≡ at name rest
  pub passes : (rest : List Text) → walk_passes top.top (names_of top) (walk_from nothing_held) (name ∷ rest) ≡ true
  pub whole : (rest : List Text) → top_ends (at name rest) ≡ true
  pub finds : (rest : List Text) → level_passes (alone app) [] nothing_held rest false ≡ true → entered_passes top (Some (name, rest)) ≡ true

-- a subcommand that takes the words behind its name
pub takes_by : (name : Text) (app : App) → Enters name app → (w : Text) (rest : List Text) → level_passes (alone app) [] nothing_held rest false ≡ true
    → takes program_app (w ∷ name ∷ rest) ≡ true
takes_by name app enters w rest h =
    ap₂ all_ends (enters.passes rest) (enters.walks rest)
    ∙ both_true (entered_passes top (Some (name, rest))) (top_ends (at name rest)) (enters.finds rest h) (enters.whole rest)

walks_to : (name : Text) (rest : List Text) → fold (walked top.top.rules (names_of top)) (at name []) rest ≡ at name rest
walks_to name rest = stopped_walk top.top.rules (names_of top) (walk_from nothing_held) name [] rest

passes_to : (name : Text) (rest : List Text) → walk_passes top.top (names_of top) (at name []) rest ≡ true
passes_to name rest = stopped_passes top.top (names_of top) (walk_from nothing_held) name [] rest

-- each command
pub enters_check : Enters (codes "check") (export_app (codes "check"))
unfolding clap_on_literals
enters_check = record { walks = walks_to (codes "check"); passes = passes_to (codes "check"); whole = λ rest. refl; finds = λ rest h. h }

pub enters_check_parts : Enters (codes "check-parts") (parts_app (codes "check-parts"))
unfolding clap_on_literals
enters_check_parts = record { walks = walks_to (codes "check-parts"); passes = passes_to (codes "check-parts"); whole = λ rest. refl; finds = λ rest h. h }

pub enters_receipt : Enters (codes "receipt") (export_app (codes "receipt"))
unfolding clap_on_literals
enters_receipt = record { walks = walks_to (codes "receipt"); passes = passes_to (codes "receipt"); whole = λ rest. refl; finds = λ rest h. h }

pub enters_receipt_parts : Enters (codes "receipt-parts") (parts_app (codes "receipt-parts"))
unfolding clap_on_literals
enters_receipt_parts = record { walks = walks_to (codes "receipt-parts"); passes = passes_to (codes "receipt-parts"); whole = λ rest. refl; finds = λ rest h. h }

pub enters_draft : Enters (codes "draft") (pair_app (codes "draft"))
unfolding clap_on_literals
enters_draft = record { walks = walks_to (codes "draft"); passes = passes_to (codes "draft"); whole = λ rest. refl; finds = λ rest h. h }

pub enters_draft_parts : Enters (codes "draft-parts") (series_app (codes "draft-parts"))
unfolding clap_on_literals
enters_draft_parts = record { walks = walks_to (codes "draft-parts"); passes = passes_to (codes "draft-parts"); whole = λ rest. refl; finds = λ rest h. h }

pub enters_explain : Enters (codes "explain") (export_app (codes "explain"))
unfolding clap_on_literals
enters_explain = record { walks = walks_to (codes "explain"); passes = passes_to (codes "explain"); whole = λ rest. refl; finds = λ rest h. h }

pub enters_explain_parts : Enters (codes "explain-parts") (parts_app (codes "explain-parts"))
unfolding clap_on_literals
enters_explain_parts = record { walks = walks_to (codes "explain-parts"); passes = passes_to (codes "explain-parts"); whole = λ rest. refl; finds = λ rest h. h }

pub enters_conform : Enters (codes "conform") (file_app (codes "conform"))
unfolding clap_on_literals
enters_conform = record { walks = walks_to (codes "conform"); passes = passes_to (codes "conform"); whole = λ rest. refl; finds = λ rest h. h }

pub enters_show : Enters (codes "show") (file_app (codes "show"))
unfolding clap_on_literals
enters_show = record { walks = walks_to (codes "show"); passes = passes_to (codes "show"); whole = λ rest. refl; finds = λ rest h. h }

pub enters_notes : Enters (codes "notes") (file_app (codes "notes"))
unfolding clap_on_literals
enters_notes = record { walks = walks_to (codes "notes"); passes = passes_to (codes "notes"); whole = λ rest. refl; finds = λ rest h. h }

pub enters_read : Enters (codes "read") (file_app (codes "read"))
unfolding clap_on_literals
enters_read = record { walks = walks_to (codes "read"); passes = passes_to (codes "read"); whole = λ rest. refl; finds = λ rest h. h }

pub enters_layout : Enters (codes "layout") (file_app (codes "layout"))
unfolding clap_on_literals
enters_layout = record { walks = walks_to (codes "layout"); passes = passes_to (codes "layout"); whole = λ rest. refl; finds = λ rest h. h }

pub enters_claim : Enters (codes "claim") (claim_app (codes "claim"))
unfolding clap_on_literals
enters_claim = record { walks = walks_to (codes "claim"); passes = passes_to (codes "claim"); whole = λ rest. refl; finds = λ rest h. h }

pub enters_vectors : Enters (codes "vectors") (new_app (codes "vectors"))
unfolding clap_on_literals
enters_vectors = record { walks = walks_to (codes "vectors"); passes = passes_to (codes "vectors"); whole = λ rest. refl; finds = λ rest h. h }
