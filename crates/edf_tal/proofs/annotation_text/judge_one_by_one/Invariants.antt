use Rattle.std.proofs.Common.{◌≡◌, length}
use Rattle.edf_tal.specs.Reading.{judge_texts, texts_of}
use Rattle.edf_tal.proofs.annotation_text.judge_one_by_one.Given as goal

abbrev pub invariant-loop-text : goal.invariant-loop-text
invariant-loop-text l = judge_texts (texts_of l.left) ≡ judge_texts (texts_of l.body)

abbrev pub decreases-loop-text : goal.decreases-loop-text
decreases-loop-text l = length l.left
