-- those so far stand behind the text
use Rattle.std.proofs.Common.{◌≡◌, ◌++◌, take}
use Rattle.std.specs.List.{flat_map}
use Rattle.edf_claim_text.specs.PlainTexts.{interval_line}
use Rattle.edf_claim_text.proofs.lines.push_intervals.Given as goal

abbrev pub invariant-loop-interval : goal.invariant-loop-interval
invariant-loop-interval l =
    l.text.items ≡ l.initial.text.items ++ flat_map (interval_line l.says_ps) (take l.interval-index l.intervals)
