use Rattle.std.proofs.Common.{◌≡◌, ◌++◌, drop}
use Rattle.edf_layout.specs.HeadTexts.{spaces_text}
use Rattle.edf_layout.proofs.head_lines.push_counts.Given as goal

abbrev pub invariant-loop-count : goal.invariant-loop-count
invariant-loop-count l = l.text.items ++ spaces_text (drop l.count-index l.counts) ≡ l.initial.text.items ++ spaces_text l.counts
