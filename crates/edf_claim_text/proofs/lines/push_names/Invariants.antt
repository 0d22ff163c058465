-- those so far stand behind the text
use Rattle.std.proofs.Common.{◌≡◌, ◌++◌, take}
use Rattle.std.specs.List.{flat_map}
use Rattle.edf_claim_text.specs.PlainTexts.{name_line}
use Rattle.edf_claim_text.proofs.lines.push_names.Given as goal

abbrev pub invariant-loop-which : goal.invariant-loop-which
invariant-loop-which l = l.text.items ≡ l.initial.text.items ++ flat_map name_line (take l.which-index l.whiches)
