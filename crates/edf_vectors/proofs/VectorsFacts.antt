-- Rows that are written behind rows.
use Rattle.std.proofs.Common.{◌≡◌, ◌↔◌, ℕ, ◌+◌, ◌<◌, List, [], ◌∷◌, ◌++◌, map, take, get_or, length, Some, inl, inr, refl, sym, ap, ◌∙◌, append_assoc, arith, subst}
use Rattle.std.specs.List.{flat_map}
use Rattle.std.proofs.lemmas.List.{map-append, append-nil, map_more}
use Rattle.std.proofs.lemmas.List.Concat.{flat_map-append}
use Rattle.std.proofs.lemmas.List.Elements.{All-push, All-pop}
use Rattle.edf_fields.specs.declared.in_out.source.SliceSource.{SliceSource}
use Rattle.edf_fields.specs.in_out.SliceSource.{reads_of}
use Rattle.edf_fields.specs.in_out.Sources.{Fails}
use Rattle.edf_fields.specs.in_out.PlainReads.{plain_reads}
use Rattle.edf_claim.specs.declared.stop.ClaimStop.{ClaimStop}
use Rattle.edf_stop.specs.declared.parts_stops.PartSide.{PartSide}
use Rattle.edf_stop.specs.declared.parts_stops.PartSide.TheVariants as sides
use Rattle.edf_stop.specs.declared.parts_stops.PartsRunStop.{PartsRunStop}
use Rattle.edf_stop.specs.declared.parts_stops.PartsRunStop.TheVariants.{ReadFailed}
use Rattle.edf_verdict.specs.declared.outcome.Outcome.{Outcome}
use Rattle.edf_verdict.specs.declared.outcome.Outcome.TheVariants as outcomes
use Rattle.edf_check.specs.Runs.{PartsRunStops}
use Rattle.edf_pace.specs.PartsStops.{HasFailed}
use Rattle.edf_vectors.specs.Vectors.{CheckedRow, checked_text, IsStored, row_text, AreRowsWritten, IsRowWritten}
use Rattle.edf_rows.specs.Rows.{WorkedRow, row_of}
use Rattle.edf_rows.specs.declared.rows.Row.{Row}

-- one row more: Yes is said of them all exactly where it was said of those before and of this one
row_behind : {rows : List WorkedRow} {row : WorkedRow} {old middle new : List ℕ} {before this all : Outcome}
    → AreRowsWritten rows old middle before → IsRowWritten row middle new this
    → ((all ≡ outcomes.Yes) ↔ ((before ≡ outcomes.Yes) × (this ≡ outcomes.Yes)))
    → AreRowsWritten (rows ++ row ∷ []) old new all
row_behind {rows} {row} {old} w r both =
    let last : CheckedRow = record { row = row; line = r.line; is_line = r.is_line } in
    let front = flat_map checked_text w.checked in
    let text = row_text row.number r.line in
    record {
      checked = w.checked ++ last ∷ [];
      rows_are = map-append (λ c. c.row) w.checked (last ∷ []) ∙ ap (λ xs. xs ++ row ∷ []) w.rows_are;
      text = r.text ∙ ap (λ xs. xs ++ text) w.text ∙ append_assoc old front text
          ∙ ap (λ xs. old ++ xs) (ap (λ xs. front ++ xs) (sym (append-nil text)) ∙ sym (flat_map-append checked_text w.checked (last ∷ [])));
      are_stored = (
        (λ e. let p = both.0 e in All-push IsStored w.checked last (w.are_stored.0 p.0) (r.is_stored.0 p.1)),
        (λ h. let p = All-pop IsStored (w.checked ++ last ∷ []) w.checked (Some last) refl h in both.1 (w.are_stored.1 p.0, r.is_stored.1 p.1)),
      );
    }

-- the step of the loop over the rows
pub row_more : (rows : List Row) (i : ℕ) (d : Row) {old middle new : List ℕ} {before this all : Outcome}
    → i < length rows → AreRowsWritten (map row_of (take i rows)) old middle before → IsRowWritten (row_of (get_or rows i d)) middle new this
    → ((all ≡ outcomes.Yes) ↔ ((before ≡ outcomes.Yes) × (this ≡ outcomes.Yes)))
    → AreRowsWritten (map row_of (take (i + 1) rows)) old new all
row_more rows i d within w r both =
    rw (map_more row_of rows i d within) (row_behind w r both)

-- no read of bytes in memory fails
pub none_failed : (olds news : List SliceSource) (j part : ℕ) → HasFailed j (map reads_of olds) (map reads_of news) part → ⊥
none_failed [] news j part failed = failed
none_failed (old ∷ olds) [] j part failed = failed
none_failed (old ∷ olds) (new ∷ news) j part (inl here) = let rises = here.1 in omega (arith, rises)
none_failed (old ∷ olds) (new ∷ news) j part (inr there) = none_failed olds news (j + 1) part there

-- so a run over bytes in memory doesn't stop so
pub no_read_failed : (olds news : List SliceSource) (refused : ClaimStop → Type 0) (failed none : Type 0) (stop : PartsRunStop) (side : PartSide)
    → stop ≡ ReadFailed side → PartsRunStops refused (Fails (plain_reads 0) (plain_reads 0)) failed none (map reads_of olds) (map reads_of news) stop → ⊥
no_read_failed olds news refused failed none stop side is stops =
    of_side side (subst (PartsRunStops refused (Fails (plain_reads 0) (plain_reads 0)) failed none (map reads_of olds) (map reads_of news)) is stops)
  where
    of_side : (s : PartSide) → PartsRunStops refused (Fails (plain_reads 0) (plain_reads 0)) failed none (map reads_of olds) (map reads_of news) (ReadFailed s) → ⊥
    of_side sides.Original rises = omega (arith, rises)
    of_side (sides.Part part) there = none_failed olds news 0 part there
