use Rattle.std.proofs.Common.{◌*◌, ◌<◌, ◌∙◌, ap, sym, subst}
use Rattle.edf_fields.specs.Parts.{part}
use Rattle.edf_header.specs.Narrow.{WideColumn, SaysTheSame}
use Rattle.edf_header.proofs.in_columns.NarrowFacts.{field_kept}
use Rattle.edf_header.proofs.in_columns.column.Column.field.Goals as goal

pub returns : goal.returns
returns c =
    let inside = c.self.inside in
    let within : c.args.signal < inside.count = subst (λ (w : WideColumn). c.args.signal < w.count) (sym c.self.view_is) c.requires in
    let here = c.bytes_at.ensures.value ∙ ap (λ xs. part xs (inside.kept * c.args.signal) inside.kept) c.deref.ensures.value in
    subst (λ (w : WideColumn). SaysTheSame c.bytes_at.result.now (part w.bytes (w.width * c.args.signal) w.width)) c.self.view_is
    (field_kept inside.width inside.kept inside.count c.args.signal inside.bytes.items c.bytes_at.result.now within c.self.invariant.0 c.self.invariant.1 here)
