use Rattle.std.proofs.Common.{◌==◌, ap, sym, ◌∙◌, arith}
use Rattle.std.proofs.lemmas.List.{take_all}
use Rattle.std.specs.List.{count_by}
use Rattle.edf_tal.proofs.TextFacts.{ends_counted}
use Rattle.edf_tal.proofs.tal.count_ends.Goals as goal

pub returns : goal.returns
returns c =
    let bytes = c.args.body.now in
    c.loop-byte.invariant.counted ∙ ap (count_by (λ b. b == 20)) (take_all c.loop-byte.byte-index bytes (omega (arith, c.loop-byte-test.false))) ∙ sym (ends_counted bytes)
