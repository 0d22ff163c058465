-- The tests of the bytes of one data record.
use Rattle.std.proofs.Common.{◌≡◌, ℕ, ℤ, ◌+◌, ◌-◌, List, [], ◌∷◌, length, drop, Some, None, Result, Ok, sym, ap, ◌∙◌, length-drop}
use Rattle.edf_fields.proofs.ForCallers.{first-passed, first-found, pass-cons, alone}
use Rattle.edf_fields.specs.declared.faults.fault.Fault.{Fault}
use Rattle.edf_header.specs.declared.kind.Kind.{Kind}
use Rattle.edf_header.specs.Heads.{Head}
use Rattle.edf_tal.specs.declared.start.StartCause.{StartCause}
use Rattle.edf_stream.specs.records.Records.{annotation_lanes}
use Rattle.edf_stream.specs.annotation.NotesReading.{notes_in, notes_of_lanes}
use Rattle.edf_stream.specs.times.StartsReading.{said_start, or_zero, start_in}
use Rattle.edf_fields.specs.Tests.{first}
use Rattle.edf_stream.specs.Faults.{cause_of_lanes, lanes_fault, time_fault, start_fault, notes_fault, timed_faults, record_fault}

-- too many annotations are the fault where the tests before pass
pub too_many : (h : Head) (kind : Kind) (k : ℕ) (ended start : ℤ) (said : Result ℤ StartCause) (notes : ℕ) (bytes : List ℕ) (f : Fault) → kind ≡ h.kind → lanes_fault k (cause_of_lanes (annotation_lanes h.signals bytes)) ≡ None
    → said ≡ said_start h bytes → time_fault k said ≡ None → said ≡ Ok start → start_fault kind k ended start ≡ None
    → notes_fault k (notes + (length (notes_of_lanes (annotation_lanes h.signals bytes)) - 1)) ≡ Some f → record_fault h k ended notes bytes ≡ Some f
unfolding record_fault notes_in
too_many h kind k ended start said notes bytes f same lanes is time at begins found =
    let texts = notes_of_lanes (annotation_lanes h.signals bytes) in
    let here : start_in h bytes ≡ start = ap or_zero (sym is ∙ at) in
    let passes : start_fault h.kind k ended (start_in h bytes) ≡ None = ap (start_fault h.kind k ended) here ∙ ap (λ x. start_fault x k ended start) (sym same) ∙ begins in
    first-passed (lanes_fault k (cause_of_lanes (annotation_lanes h.signals bytes)) ∷ time_fault k (said_start h bytes) ∷ start_fault h.kind k ended (start_in h bytes) ∷ []) _
    (pass-cons _ _ lanes (pass-cons _ _ (ap (time_fault k) (sym is) ∙ time) (alone (start_fault h.kind k ended (start_in h bytes)) ∙ passes)))
    ∙ alone (notes_fault k (notes + length (drop 1 texts))) ∙ ap (λ n. notes_fault k (notes + n)) (length-drop 1 texts) ∙ found

-- the first tests of a data record are among all of its tests
pub timed_found : (h : Head) (k : ℕ) (ended : ℤ) (notes : ℕ) (bytes : List ℕ) (f : Fault) → first (timed_faults h k bytes) ≡ Some f → record_fault h k ended notes bytes ≡ Some f
unfolding record_fault
timed_found h k ended notes bytes f e = first-found (timed_faults h k bytes) (start_fault h.kind k ended (start_in h bytes) ∷ notes_fault k (notes + length (notes_in h bytes)) ∷ []) f e
