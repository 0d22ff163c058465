use Rattle.std.proofs.Common.{sym, ◌∙◌}
use Rattle.edf_fields.specs.texts.IdentificationsReading.{recording_of}
use Rattle.edf_header.proofs.SaidFacts.{recording_date_is}
use Rattle.edf_header.proofs.fixed_part.startdate.read_date.Goals as goal

pub returns-in-Ok : goal.returns-in-Ok
returns-in-Ok c =
    (sym c.in-Ok.ensures.cause, c.date.ensures ∙ recording_date_is c.args.field.now (recording_of c.in-Ok.recording) c.in-Ok.ensures.said)
