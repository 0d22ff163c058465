use Rattle.std.proofs.Common.{arith, rules, ◌≡◌, ◌+◌, ◌-◌, ◌<◌, length, take, ap, ◌∙◌, sym}
use Rattle.edf_fields.proofs.PartFacts.{text_of-take-space, text_of-take-other}
use Rattle.edf_fields.specs.Parts.{text_of}
use Rattle.edf_fields.proofs.texts.number.text_len.Goals as goal

pub loop-end-preserved : goal.loop-end-preserved
loop-end-preserved c =
    let low : c.loop-end.end - 1 < length c.args.field.now = omega arith in
    let next : c.loop-end.end - 1 + 1 ≡ c.loop-end.end = omega arith in
    let step = text_of-take-space c.args.field.now (c.loop-end.end - 1) low (search rules) in
    record {
      within = omega arith;
      same = sym step ∙ ap (λ n. text_of (take n c.args.field.now)) next ∙ c.loop-end.invariant.same;
    }

pub returns-else-field-end-eq32-clause-text : goal.returns-else-field-end-eq32-clause-text
returns-else-field-end-eq32-clause-text c =
    let low : c.loop-end.end - 1 < length c.args.field.now = omega arith in
    let next : c.loop-end.end - 1 + 1 ≡ c.loop-end.end = omega arith in
    let step = text_of-take-other c.args.field.now (c.loop-end.end - 1) low (search rules) in
    ap (λ n. take n c.args.field.now) (sym next) ∙ sym step ∙ ap (λ n. text_of (take n c.args.field.now)) next ∙ c.loop-end.invariant.same
