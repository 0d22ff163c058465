use Rattle.std.proofs.Common.{◌∙◌, ap}
use Rattle.edf_fields.specs.texts.Dates.{full_year}
use Rattle.edf_fields.proofs.texts.DateFacts.{dotted_named}
use Rattle.edf_fields.proofs.texts.date.dotted_day.Goals as goal

pub returns : goal.returns
returns c =
    let read = c.in_ok-numbers.ensures in
    dotted_named c.existing_day.result c.args.text.now _ _ _ read.0 (c.full_year.ensures.year ∙ ap full_year read.3) read.2 read.1 c.existing_day.ensures
