use Rattle.std.proofs.Common.{◌∙◌, ap, sym, take, drop}
use Rattle.std.proofs.Math.Seq.{take-length}
use Rattle.std.proofs.lemmas.List.{length-drop}
use Rattle.edf_tal.specs.Reading.{are_zeros}
use Rattle.edf_tal.proofs.ZeroFacts.{zeros_behind}
use Rattle.edf_tal.proofs.zeros.are_zeros.Goals as goal

pub returns : goal.returns
returns c =
    let n = c.any_zero_front.result in
    let bytes = c.args.bytes.now in
    c.all_zeros.ensures
    ∙ ap are_zeros (ap (λ k. take k (drop n bytes)) (sym (length-drop n bytes)) ∙ take-length (drop n bytes))
    ∙ zeros_behind n bytes c.any_zero_front.ensures.within c.any_zero_front.ensures.zeros
