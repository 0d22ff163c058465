-- What is told of the reads of a source that doesn't remember its start.
use Rattle.std.specs.Prelude.{ℕ, false, []}
use Rattle.edf_fields.specs.in_out.Sources.{Reads}

-- so many reads failed so far; nothing is known of what the source had at its start
abbrev pub plain_reads : ℕ → Reads
plain_reads failed = record { failed = failed; start = []; known = false }
