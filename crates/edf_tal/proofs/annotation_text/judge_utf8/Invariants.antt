use Rattle.std.proofs.Common.{◌≡◌}
use Rattle.edf_tal.specs.Reading.{judge_texts, texts_of}
use Rattle.edf_tal.proofs.annotation_text.judge_utf8.Given as goal

abbrev pub invariant-loop-text : goal.invariant-loop-text
invariant-loop-text l = judge_texts (texts_of l.text-iterator.rest.now) ≡ judge_texts (texts_of l.body)
