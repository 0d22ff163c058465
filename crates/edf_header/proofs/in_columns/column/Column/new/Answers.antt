use Rattle.std.proofs.Common.{ℕ, List, length, ap, ◌∙◌}
use Rattle.edf_header.specs.Narrow.{WideColumn}
use Rattle.edf_header.proofs.in_columns.NarrowFacts.{column-kept, length-narrowed}
use Rattle.edf_header.proofs.in_columns.column.Column.new.Goals as goal

pub invariant_of-result : goal.invariant_of-result
invariant_of-result c = (
  c.longest_text-kept.ensures.within,
  ap length c.in_ok-bytes.ensures.value ∙ length-narrowed c.args.width c.longest_text-kept.result c.args.count c.args.bytes.now c.longest_text-kept.ensures.within c.requires.whole,
  c.requires.narrow,
  c.requires.few,
)

pub returns : goal.returns
returns c =
    let made : List ℕ → WideColumn = λ xs. record { width = c.args.width; count = c.args.count; bytes = xs } in
    ap made (column-kept c.args.width c.longest_text-kept.result c.args.count c.args.bytes.now c.in_ok-bytes.bytes.items
    c.longest_text-kept.ensures.value c.longest_text-kept.ensures.within c.requires.whole c.in_ok-bytes.ensures.value)
