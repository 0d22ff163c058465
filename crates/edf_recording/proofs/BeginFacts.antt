-- Where the first data record of a file starts.
use Rattle.std.proofs.Common.{◌≡◌, ◌+ℤ◌, ℕ, ℤ, List, Option, None, Some, IfSome, IfNone, ap, sym, ◌∙◌, arith}
use Rattle.edf_header.specs.Heads.{Head}
use Rattle.edf_stream.specs.Conforming.{Conforms}
use Rattle.edf_stream.specs.records.Records.{record_at}
use Rattle.edf_stream.specs.times.Starts.{file_start}
use Rattle.edf_stream.specs.times.StartsReading.{end_before, start_at, start_in}
use Rattle.edf_recording.specs.Times.{begin_of, end_of}
use Rattle.edf_recording.specs.declared.times.RecordStart.{RecordStart}

-- one data record more, and it is known where the first one starts
pub first_known : (P : Type 0) (file : List ℕ) (h next : Head) (read : ℕ) (current : List ℕ) (seen : Option RecordStart) (start : ℤ)
    → next ≡ h → (P → current ≡ record_at file h read) → IfNone seen (read ≡ 0) → IfSome seen (λ s. P → s.ps ≡ start_at file h 0)
    → IfSome seen (λ s. start ≡ s.ps) → IfNone seen (start ≡ start_in next current) → P → start ≡ start_at file next 0
first_known P file h next read current (Some s) start same is unseen known one other p = one ∙ known p ∙ ap (λ x. start_at file x 0) (sym same)
first_known P file h next read current None start same is unseen known one other p =
    other ∙ ap (start_in next) (is p ∙ ap (record_at file h) unseen) ∙ ap (λ x. start_in next (record_at file x 0)) (sym same)

-- at the end of a file that conforms it is known
pub begins_there : (P : Type 0) (file : List ℕ) (h next : Head) (read : ℕ) (seen : Option RecordStart) (begin : ℤ)
    → next ≡ h → (P → Conforms file h × (read ≡ h.records)) → IfNone seen (read ≡ 0) → IfSome seen (λ s. P → s.ps ≡ start_at file h 0)
    → IfSome seen (λ s. begin ≡ file_start next +ℤ s.ps) → P → begin ≡ begin_of file next
begins_there P file h next read (Some s) begin same whole unseen known is p =
    is ∙ ap (λ x. file_start next +ℤ x) (known p ∙ ap (λ x. start_at file x 0) (sym same))
begins_there P file h next read None begin same whole unseen known is p =
    let some = (whole p).0.header.standard.some_records in
    let all = (whole p).1 in
    absurd (omega (arith, some, all, unseen))

-- and where the last one ends
pub ends_there : (file : List ℕ) (h : Head) (read : ℕ) (ended end : ℤ) → read ≡ h.records → ended ≡ end_before file h read
    → end ≡ file_start h +ℤ ended → end ≡ end_of file h
ends_there file h read ended end all last is = is ∙ ap (λ x. file_start h +ℤ x) (last ∙ ap (end_before file h) all)
