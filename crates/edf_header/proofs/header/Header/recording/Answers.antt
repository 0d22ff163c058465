use Rattle.std.proofs.Common.{◌∙◌, ap}
use Rattle.edf_fields.specs.texts.IdentificationsReading.{recording_of}
use Rattle.edf_fields.specs.declared.fields.layout.FixedField.TheVariants as fixed
use Rattle.edf_fields.specs.fields.Layout.{fixed_field}
use Rattle.edf_header.specs.HeadsReading.{recording_in}
use Rattle.edf_header.proofs.SaidFacts.{recording_is}
use Rattle.edf_header.proofs.header.Header.recording.Goals as goal

pub returns : goal.returns
returns c =
    let field = c.fixed_field.ensures.value ∙ ap (λ xs. fixed_field xs fixed.Recording) c.deref.ensures.value in
    recording_is c.fixed_field.result.now (recording_of c.of_judged.result) c.of_judged.ensures ∙ ap recording_in field ∙ ap (λ h. h.recording) c.self.view_is
