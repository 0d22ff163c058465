use Rattle.std.proofs.Common.{◌≡◌, ℕ, ◌<◌, ◌*◌, ◌∙◌, sym, ap, subst, arith}
use Rattle.edf_fields.specs.Parts.{part}
use Rattle.edf_fields.specs.fields.LayoutReading.{columns, column_field}
use Rattle.edf_header.specs.Narrow.{WideColumns, SaysTheSame, all_bytes}
use Rattle.edf_header.proofs.in_columns.WideFacts.{length-columns, column-said, signal_field-at}
use Rattle.edf_header.proofs.in_columns.columns.Columns.field.Goals as goal

pub index-requires : goal.index-requires
index-requires c =
    let long = length-columns c.self.inside.signals columns c.self.inside.columns.items c.self.invariant in
    let within = c.place.ensures.within in
    omega (arith, long, within)

pub field-requires : goal.field-requires
field-requires c =
    let n = c.self.inside.signals in
    let column = c.index.result.now in
    let few : c.args.signal < n = subst (λ (w : WideColumns). c.args.signal < w.signals) (sym c.self.view_is) c.requires in
    let count : column.count ≡ n = ap (λ w. w.count) c.index.ensures ∙ (column-said n columns c.self.inside.columns.items c.place.result column c.self.invariant c.place.ensures.within).1 in
    omega (arith, few, count, c.from.ensures)

pub returns : goal.returns
returns c =
    let n = c.self.inside.signals in
    let s = c.args.signal in
    let column = c.index.result.now in
    let items = c.self.inside.columns.items in
    let few : s < n = subst (λ (w : WideColumns). s < w.signals) (sym c.self.view_is) c.requires in
    let there : column_field (all_bytes items) n s c.args.field ≡ part column.bytes (column.width * s) column.width =
    signal_field-at n items c.place.result s column c.args.field c.self.invariant c.place.ensures.within c.place.ensures.field few
    ∙ ap (λ w. part w.bytes (w.width * s) w.width) (sym c.index.ensures) in
    let here : SaysTheSame c.field.result.now (part column.bytes (column.width * s) column.width) =
    subst (λ (k : ℕ). SaysTheSame c.field.result.now (part column.bytes (column.width * k) column.width)) c.from.ensures c.field.ensures in
    subst (λ (w : WideColumns). SaysTheSame c.field.result.now (column_field w.bytes w.signals s c.args.field)) c.self.view_is
    (subst (SaysTheSame c.field.result.now) (sym there) here)
