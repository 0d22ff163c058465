use Rattle.std.proofs.Common.{◌∙◌, ap, arith}
use Rattle.edf_fields.specs.texts.Dates.{month_of, IsDashed}
use Rattle.edf_fields.proofs.texts.DateFacts.{dashed_named}
use Rattle.edf_fields.proofs.texts.date.dashed_day.Goals as goal

pub returns : goal.returns
returns c =
    let dashed : IsDashed c.args.text.now = record { len = omega arith; dashes = (omega arith, omega arith); day = c.in_ok-day.ensures.0; year = c.in_ok-year.ensures.0 } in
    dashed_named c.existing_day.result c.args.text.now _ _ _ dashed c.in_ok-year.ensures.1
    (c.in_ok-month.ensures.0 ∙ ap month_of c.bytes_at.ensures.value) c.in_ok-day.ensures.1 c.existing_day.ensures
