-- The program's commands, as a parse reads them.
use Rattle.std.specs.Prelude.{[], codes, true, Some}
use Rattle.clap.specs.Lexer.{usize_max}
use Rattle.clap.specs.Walk.{Rule, Text}
use Rattle.clap.specs.Simple.{App, new_app, new_shape, new_rule, with_rule, with_subcommand}

-- an argument that has to be there
abbrev pub needed : Text → Rule
needed id = record (new_rule id) { required = true }

-- an argument of one word or more
abbrev pub needed_some : Text → Rule
needed_some id = record (needed id) { range = Some (record { start_inclusive = 1; end_inclusive = usize_max }) }

-- a command over an original, an export and a claim
abbrev pub export_app : Text → App
export_app name = with_rule (with_rule (with_rule (new_app name) (needed (codes "ORIGINAL"))) (needed (codes "EXPORT"))) (needed (codes "CLAIM"))

-- a command over an original, a claim and several exports
abbrev pub parts_app : Text → App
parts_app name = with_rule (with_rule (with_rule (new_app name) (needed (codes "ORIGINAL"))) (needed (codes "CLAIM"))) (needed_some (codes "EXPORT"))

-- a command over an original and an export
abbrev pub pair_app : Text → App
pair_app name = with_rule (with_rule (new_app name) (needed (codes "ORIGINAL"))) (needed (codes "EXPORT"))

-- a command over an original and several exports
abbrev pub series_app : Text → App
series_app name = with_rule (with_rule (new_app name) (needed (codes "ORIGINAL"))) (needed_some (codes "EXPORT"))

-- a command of one file
abbrev pub file_app : Text → App
file_app name = with_rule (new_app name) (needed (codes "FILE"))

-- a command of a claim alone
abbrev pub claim_app : Text → App
claim_app name = with_rule (new_app name) (needed (codes "CLAIM"))

-- the program with its version, and without a command
abbrev pub bare_app : App
bare_app = record { top = record (new_shape (codes "edfclaim")) { has_version = true }; subs = [] }

-- the program with a command over one export and one over several
abbrev pub with_both : App → Text → Text → App
with_both program of_one of_several = with_subcommand (with_subcommand program (export_app of_one).top) (parts_app of_several).top

-- the program with its two checks, and without another command
abbrev pub checking_app : App
checking_app = with_both bare_app (codes "check") (codes "check-parts")

-- the program with its checks and their receipts
abbrev pub receipt_app : App
receipt_app = with_both checking_app (codes "receipt") (codes "receipt-parts")

-- the same with the drafts of a claim
abbrev pub draft_app : App
draft_app = with_subcommand (with_subcommand receipt_app (pair_app (codes "draft")).top) (series_app (codes "draft-parts")).top

-- the same with the checks that explain themselves
abbrev pub explain_app : App
explain_app = with_both draft_app (codes "explain") (codes "explain-parts")

-- the same with the reports on one recording
abbrev pub reporting_app : App
reporting_app = with_subcommand (with_subcommand (with_subcommand (with_subcommand explain_app
    (file_app (codes "conform")).top) (file_app (codes "show")).top) (file_app (codes "notes")).top) (file_app (codes "read")).top

-- the same with the layout of one recording
abbrev pub layout_app : App
layout_app = with_subcommand reporting_app (file_app (codes "layout")).top

abbrev pub program_app : App
program_app = with_subcommand (with_subcommand layout_app (claim_app (codes "claim")).top) (new_app (codes "vectors")).top
