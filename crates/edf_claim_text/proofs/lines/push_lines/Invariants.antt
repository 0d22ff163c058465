-- those so far stand behind the text
use Rattle.std.proofs.Common.{◌≡◌, ◌++◌, map, take}
use Rattle.std.specs.List.{flat_map}
use Rattle.edf_claim_text.specs.PlainTexts.{text_line}
use Rattle.edf_claim_text.proofs.lines.push_lines.Given as goal

abbrev pub invariant-loop-said : goal.invariant-loop-said
invariant-loop-said l = l.text.items ≡ l.initial.text.items ++ flat_map text_line (map (λ t. t.items) (take l.said-index l.texts))
