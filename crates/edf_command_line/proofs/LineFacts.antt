-- Each command with its arguments is a line that `clap` takes.
use Rattle.std.proofs.Common.{◌≡◌, ℕ, ◌≤◌, ◌<◌, List, [], ◌∷◌, codes, true, length, map, drop, ap, sym, subst, arith}
use Rattle.std.proofs.lemmas.List.{length-map}
use Rattle.std.specs.Borrow.{Bor}
use Rattle.clap.specs.Lexer.{usize_max}
use Rattle.clap.specs.Simple.{new_app}
use Rattle.clap.specs.Takes.{takes}
use Rattle.edf_command_line.proofs.EnterFacts.{Enters, enters_check, enters_check_parts, enters_claim, enters_conform, enters_draft, enters_draft_parts, enters_explain, enters_explain_parts, enters_layout, enters_notes, enters_read, enters_receipt, enters_receipt_parts, enters_show, enters_vectors, takes_by}
use Rattle.edf_command_line.proofs.ExportFacts.{claim_passes, export_passes, file_passes, none_passes, pair_passes}
use Rattle.edf_command_line.proofs.PartsFacts.{parts_passes}
use Rattle.edf_command_line.proofs.PlainFacts.{tail_plain}
use Rattle.edf_command_line.proofs.SeriesFacts.{series_passes}
use Rattle.edf_command_line.specs.Commands.{claim_app, export_app, file_app, pair_app, parts_app, program_app, series_app}
use Rattle.edf_jobs.specs.Jobs.{ArePlain, SaysJob}
use Rattle.edf_jobs.specs.declared.jobs.Job.{Job}
use Rattle.edf_jobs.specs.declared.jobs.Job.TheVariants.{Check, CheckParts, Receipt, ReceiptParts, Draft, DraftParts, Explain, ExplainParts, Conform, Show, Notes, Read, Layout, Claim, Vectors}

-- the words behind the program's name are taken
abbrev Taken : List ℕ → List (List ℕ) → Type 0
Taken w ws = takes program_app (w ∷ ws) ≡ true

-- those of a command over an original, an export and a claim
export_taken : (name : List ℕ) → Enters name (export_app name) → (w : List ℕ) (ws : List (List ℕ)) (x y z : List ℕ) → ArePlain ws → ws ≡ name ∷ x ∷ y ∷ z ∷ [] → Taken w ws
export_taken name enters w ws x y z plain says =
    let each : ArePlain (name ∷ x ∷ y ∷ z ∷ []) = subst ArePlain says plain in
    subst (Taken w) (sym says) (takes_by name (export_app name) enters w (x ∷ y ∷ z ∷ []) (export_passes name x y z (each 1 (omega arith)) (each 2 (omega arith)) (each 3 (omega arith))))

pair_taken : (name : List ℕ) → Enters name (pair_app name) → (w : List ℕ) (ws : List (List ℕ)) (x y : List ℕ) → ArePlain ws → ws ≡ name ∷ x ∷ y ∷ [] → Taken w ws
pair_taken name enters w ws x y plain says =
    let each : ArePlain (name ∷ x ∷ y ∷ []) = subst ArePlain says plain in
    subst (Taken w) (sym says) (takes_by name (pair_app name) enters w (x ∷ y ∷ []) (pair_passes name x y (each 1 (omega arith)) (each 2 (omega arith))))

file_taken : (name : List ℕ) → Enters name (file_app name) → (w : List ℕ) (ws : List (List ℕ)) (x : List ℕ) → ArePlain ws → ws ≡ name ∷ x ∷ [] → Taken w ws
file_taken name enters w ws x plain says =
    let each : ArePlain (name ∷ x ∷ []) = subst ArePlain says plain in
    subst (Taken w) (sym says) (takes_by name (file_app name) enters w (x ∷ []) (file_passes name x (each 1 (omega arith))))

claim_taken : (name : List ℕ) → Enters name (claim_app name) → (w : List ℕ) (ws : List (List ℕ)) (x : List ℕ) → ArePlain ws → ws ≡ name ∷ x ∷ [] → Taken w ws
claim_taken name enters w ws x plain says =
    let each : ArePlain (name ∷ x ∷ []) = subst ArePlain says plain in
    subst (Taken w) (sym says) (takes_by name (claim_app name) enters w (x ∷ []) (claim_passes name x (each 1 (omega arith))))

-- those of a command over an original, a claim and several exports
parts_line : (name : List ℕ) → Enters name (parts_app name) → (w x y : List ℕ) (last : List (List ℕ)) → 0 < length last → ArePlain (name ∷ x ∷ y ∷ last) → length last ≤ usize_max
    → Taken w (name ∷ x ∷ y ∷ last)
parts_line name enters w x y [] some plain small = absurd (omega arith)
parts_line name enters w x y (z ∷ rest) some plain small =
    let last : ArePlain (z ∷ rest) = tail_plain y (z ∷ rest) (tail_plain x (y ∷ z ∷ rest) (tail_plain name (x ∷ y ∷ z ∷ rest) plain)) in
    takes_by name (parts_app name) enters w (x ∷ y ∷ z ∷ rest) (parts_passes name x y z rest (plain 1 (omega arith)) (plain 2 (omega arith)) (plain 3 (omega arith)) (tail_plain z rest last) small)

parts_taken : (name : List ℕ) → Enters name (parts_app name) → (w : List ℕ) (ws : List (List ℕ)) (x y : List ℕ) (es : List (Bor (List ℕ))) → length ws ≤ usize_max → ArePlain ws → 0 < length es
    → ws ≡ name ∷ x ∷ y ∷ map (λ t. t.now) es → Taken w ws
parts_taken name enters w ws x y es small plain some says =
    let last : List (List ℕ) = map (λ t. t.now) es in
    let as_many : length last ≡ length es = length-map es (λ t. t.now) in
    let long : length ws ≡ length (name ∷ x ∷ y ∷ last) = ap (λ (r : List (List ℕ)). length r) says in
    subst (Taken w) (sym says) (parts_line name enters w x y last (omega (arith, as_many, some)) (subst ArePlain says plain) (omega (arith, small, long)))

-- those of a command over an original and several exports
series_line : (name : List ℕ) → Enters name (series_app name) → (w x : List ℕ) (last : List (List ℕ)) → 0 < length last → ArePlain (name ∷ x ∷ last) → length last ≤ usize_max → Taken w (name ∷ x ∷ last)
series_line name enters w x [] some plain small = absurd (omega arith)
series_line name enters w x (y ∷ rest) some plain small =
    let last : ArePlain (y ∷ rest) = tail_plain x (y ∷ rest) (tail_plain name (x ∷ y ∷ rest) plain) in
    takes_by name (series_app name) enters w (x ∷ y ∷ rest) (series_passes name x y rest (plain 1 (omega arith)) (plain 2 (omega arith)) (tail_plain y rest last) small)

series_taken : (name : List ℕ) → Enters name (series_app name) → (w : List ℕ) (ws : List (List ℕ)) (x : List ℕ) (es : List (Bor (List ℕ))) → length ws ≤ usize_max → ArePlain ws → 0 < length es
    → ws ≡ name ∷ x ∷ map (λ t. t.now) es → Taken w ws
series_taken name enters w ws x es small plain some says =
    let last : List (List ℕ) = map (λ t. t.now) es in
    let as_many : length last ≡ length es = length-map es (λ t. t.now) in
    let long : length ws ≡ length (name ∷ x ∷ last) = ap (λ (r : List (List ℕ)). length r) says in
    subst (Taken w) (sym says) (series_line name enters w x last (omega (arith, as_many, some)) (subst ArePlain says plain) (omega (arith, small, long)))

-- the words behind the first are a job's, which is taken
job_taken : (w : List ℕ) (ws : List (List ℕ)) (j : Job) → length ws ≤ usize_max → ArePlain ws → SaysJob ws j → Taken w ws
job_taken w ws (Check o e c) small plain says = export_taken (codes "check") enters_check w ws o.now e.now c.now plain says
job_taken w ws (CheckParts o c es) small plain says = parts_taken (codes "check-parts") enters_check_parts w ws o.now c.now es.now small plain says.1 says.0
job_taken w ws (Receipt o e c) small plain says = export_taken (codes "receipt") enters_receipt w ws o.now e.now c.now plain says
job_taken w ws (ReceiptParts o c es) small plain says = parts_taken (codes "receipt-parts") enters_receipt_parts w ws o.now c.now es.now small plain says.1 says.0
job_taken w ws (Draft o e) small plain says = pair_taken (codes "draft") enters_draft w ws o.now e.now plain says
job_taken w ws (DraftParts o es) small plain says = series_taken (codes "draft-parts") enters_draft_parts w ws o.now es.now small plain says.1 says.0
job_taken w ws (Explain o e c) small plain says = export_taken (codes "explain") enters_explain w ws o.now e.now c.now plain says
job_taken w ws (ExplainParts o c es) small plain says = parts_taken (codes "explain-parts") enters_explain_parts w ws o.now c.now es.now small plain says.1 says.0
job_taken w ws (Conform f) small plain says = file_taken (codes "conform") enters_conform w ws f.now plain says
job_taken w ws (Show f) small plain says = file_taken (codes "show") enters_show w ws f.now plain says
job_taken w ws (Notes f) small plain says = file_taken (codes "notes") enters_notes w ws f.now plain says
job_taken w ws (Read f) small plain says = file_taken (codes "read") enters_read w ws f.now plain says
job_taken w ws (Layout f) small plain says = file_taken (codes "layout") enters_layout w ws f.now plain says
job_taken w ws (Claim f) small plain says = claim_taken (codes "claim") enters_claim w ws f.now plain says
job_taken w ws Vectors small plain says = subst (Taken w) (sym says) (takes_by (codes "vectors") (new_app (codes "vectors")) enters_vectors w [] (none_passes (codes "vectors")))

no_words : (j : Job) → SaysJob [] j → ⊥
no_words (Check o e c) says = cc
no_words (CheckParts o c es) says = cc
no_words (Receipt o e c) says = cc
no_words (ReceiptParts o c es) says = cc
no_words (Draft o e) says = cc
no_words (DraftParts o es) says = cc
no_words (ExplainParts o c es) says = cc
no_words (Explain o e c) says = cc
no_words (Conform f) says = cc
no_words (Show f) says = cc
no_words (Notes f) says = cc
no_words (Read f) says = cc
no_words (Layout f) says = cc
no_words (Claim f) says = cc
no_words Vectors says = cc

-- a line that says a job is taken
pub taken : (ws : List (List ℕ)) (j : Job) → length ws ≤ usize_max → ArePlain (drop 1 ws) → SaysJob (drop 1 ws) j → takes program_app ws ≡ true
taken [] j small plain says = absurd (no_words j says)
taken (w ∷ ws) j small plain says = job_taken w ws j (omega arith) plain says
