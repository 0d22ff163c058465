use Rattle.std.proofs.Common.{map, sym, ◌∙◌}
use Rattle.std.proofs.lemmas.Slice.Eq.{bytes_eq-Decides, slice_eq-Decides}
use Rattle.std.specs.Cmp.Derive.Mapped.{pointwise-map}
use Rattle.std.specs.Str.{bytes_eq}
use Rattle.edf_claim_text.proofs.same.are_same_texts.Goals as goal

pub returns : goal.returns
returns c =
    slice_eq-Decides bytes_eq-Decides (map (λ t. t.items) c.args.texts.now) (map (λ t. t.items) c.args.others.now) c.eq.result
    (c.eq.ensures ∙ sym (pointwise-map (λ t. t.items) bytes_eq c.args.texts.now c.args.others.now))
