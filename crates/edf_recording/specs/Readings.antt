-- What holds of the file that a source has left, and why it isn't read to its end.
use Rattle.std.specs.Prelude.{◌≡◌, ℕ, IsTrue, List, Some}
use Rattle.edf_fields.specs.declared.in_out.source.Source.{Ghosts}
use Rattle.edf_fields.specs.in_out.Sources.{Fails}
use Rattle.edf_header.specs.Stops.{Stops}
use Rattle.edf_header.specs.declared.stop.Stop.{Stop}
use Rattle.edf_stream.specs.Faults.{file_fault}

-- where the source is honest, this holds of the file that it has left
abbrev pub OfSource : {S : Type 0} → Ghosts S → S → (List ℕ → Type 0) → Type 0
OfSource source s Holds = IsTrue (source.is_honest s) → Holds (source.left s)

-- why a source isn't read to the end of its file: the first fault of the file, a failed read, or want of memory
abbrev pub StopsAtFault : {S : Type 0} → Ghosts S → S → S → Stop → Type 0
StopsAtFault source s s' stop = Stops (λ f. IsTrue (source.is_honest s) → file_fault (source.left s) ≡ Some f) (Fails (source.reads s) (source.reads s')) (source.reads s' ≡ source.reads s) stop
