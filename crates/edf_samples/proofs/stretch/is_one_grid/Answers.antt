use Rattle.std.proofs.Common.{◌≡◌, ◌∙◌, ◌&&◌, true, false, ap, sym}
use Rattle.std.specs.Ordering.{int_eq}
use Rattle.edf_samples.proofs.FractionFacts.{same_grid}
use Rattle.edf_samples.proofs.stretch.is_one_grid.Goals as goal

pub returns-then-is_one_num : goal.returns-then-is_one_num
returns-then-is_one_num c =
    let x = c.args.x in
    let y = c.args.y in
    let num : true ≡ int_eq x.num y.num = sym c.if-is_one_num.true ∙ c.is_one_num.ensures in
    c.is_one_step.ensures ∙ ap (λ b. b && int_eq x.step y.step) num ∙ same_grid x y c.requires.x c.if-x-y.true

pub returns-else-is_one_num : goal.returns-else-is_one_num
returns-else-is_one_num c =
    let x = c.args.x in
    let y = c.args.y in
    let num : false ≡ int_eq x.num y.num = sym c.if-is_one_num.false ∙ c.is_one_num.ensures in
    c.if-is_one_num.false ∙ ap (λ b. b && int_eq x.step y.step) num ∙ same_grid x y c.requires.x c.if-x-y.true
