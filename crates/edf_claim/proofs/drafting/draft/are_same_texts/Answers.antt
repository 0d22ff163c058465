use Rattle.std.proofs.Common.{arith, length, map, [], ◌<◌, ◌∙◌, sym}
use Rattle.std.proofs.lemmas.List.{get_or-map, length-map}
use Rattle.std.proofs.lemmas.Slice.Eq.{bytes_eq-Decides}
use Rattle.edf_claim.proofs.DraftFacts.{same_more, so_true}
use Rattle.edf_claim.proofs.drafting.draft.are_same_texts.Goals as goal

pub loop-i-preserved : goal.loop-i-preserved
loop-i-preserved c =
    let inv = c.loop-i.invariant in
    let here = (bytes_eq-Decides c.as_slice.result.now c.as_slice-in-loop-i.result.now).0 (so_true _ c.if-ne.ensures) in
    let within : c.loop-i.i < length c.args.texts.now = omega arith in
    let beside : c.loop-i.i < length c.args.others.now = omega (arith, inv.long) in
    let as_many = length-map c.args.texts.now (λ t. t.items) in
    let as_many_others = length-map c.args.others.now (λ t. t.items) in
    let s = c.as_slice.ensures in
    let t = c.as_slice-in-loop-i.ensures in
    record {
      long = inv.long;
      same = same_more (map (λ t. t.items) c.args.texts.now) (map (λ t. t.items) c.args.others.now) c.loop-i.i [] [] (omega (arith, as_many, within)) (omega (arith, as_many_others, beside)) inv.same
          (get_or-map (λ t. t.items) c.args.texts.now c.loop-i.i c.index-texts-i.result [] within
          ∙ sym (λ i. (c.index-texts-i.is i).items) ∙ sym s.value ∙ here ∙ t.value ∙ (λ i. (c.index-others-i.is i).items) ∙ sym (get_or-map (λ t. t.items) c.args.others.now c.loop-i.i c.index-others-i.result [] beside));
    }
