-- The headers of the exports that were read.
use Rattle.std.specs.Prelude.{List, ◌∷◌, map}
use Rattle.edf_header.specs.Heads.{Head}
use Rattle.edf_draft.specs.declared.exported.Exported.{Exported}

-- that of the first, and of those behind it
abbrev pub heads_of : Exported → List Head
heads_of e = ((e.together).reader).head ∷ map (λ r. r.head) (e.others).items
