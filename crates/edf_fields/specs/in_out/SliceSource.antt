-- What a source over bytes in memory has left.
use Rattle.std.specs.Prelude.{ℕ, Bool, true, List}
use Rattle.edf_fields.specs.in_out.Sources.{Reads}
use Rattle.edf_fields.specs.in_out.PlainReads.{plain_reads}
use Rattle.edf_fields.specs.declared.in_out.source.SliceSource.{SliceSource}

-- the bytes that the source still gives
abbrev pub left_of : SliceSource → List ℕ
left_of source = source.rest.now

-- no read of it ever fails
abbrev pub reads_of : SliceSource → Reads
reads_of source = plain_reads 0

-- what the source has left is always known
abbrev pub is_known : SliceSource → Bool
is_known source = true
