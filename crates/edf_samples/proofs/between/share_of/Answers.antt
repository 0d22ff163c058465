use Rattle.std.proofs.Common.{max, sym, ap, ◌∙◌, rules}
use Rattle.std.proofs.lemmas.Int.{to_z-of_z}
use mir.Val.{SFits}
use mir.Syntax.{w128}
use Rattle.edf_samples.specs.Stretches.{whole}
use Rattle.edf_samples.proofs.StretchFacts.{front-alike}
use Rattle.edf_samples.proofs.between.share_of.Goals as goal

pub returns-clause-share : goal.returns-clause-share
returns-clause-share c =
    let s = c.args.lane in
    let f : SFits w128 s.num = search rules in
    let g : SFits w128 s.step = search rules in
    let h : SFits w128 c.num_at.result = search rules in
    let e = simp to_z-of_z at c.num_at.ensures.value in
    record {
      num = simp to_z-of_z e;
      begin = λ bytes l. c.count_before-begin.ensures.value ∙ front-alike s.den s.num s.step (whole (c.args.within.from).ps) s.bytes.now bytes (c.requires.whole ∙ sym l);
      end = λ bytes l. c.max.ensures ∙ ap (λ k. max k c.count_before-begin.result) (c.count_before-end.ensures.value ∙ front-alike s.den s.num s.step (whole (c.args.within.to).ps) s.bytes.now bytes (c.requires.whole ∙ sym l));
    }
