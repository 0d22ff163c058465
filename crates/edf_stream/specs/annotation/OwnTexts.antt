-- The texts of annotations.
use Rattle.std.specs.Prelude.{ℕ, List, string_bytes}
use Rattle.edf_stream.specs.declared.annotation.own_text.StoredText.{StoredText}
use Rattle.edf_stream.specs.declared.annotation.own_text.StoredText.TheVariants.{Inline, Apart}

-- the bytes of a text, wherever they lie
abbrev pub kept_bytes : StoredText → List ℕ
kept_bytes (Inline text) = text.bytes
kept_bytes (Apart text) = string_bytes text
