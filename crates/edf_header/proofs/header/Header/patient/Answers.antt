use Rattle.std.proofs.Common.{◌∙◌, ap}
use Rattle.edf_fields.specs.texts.IdentificationsReading.{patient_of}
use Rattle.edf_fields.specs.declared.fields.layout.FixedField.TheVariants as fixed
use Rattle.edf_fields.specs.fields.Layout.{fixed_field}
use Rattle.edf_header.specs.HeadsReading.{patient_in}
use Rattle.edf_header.proofs.SaidFacts.{patient_is}
use Rattle.edf_header.proofs.header.Header.patient.Goals as goal

pub returns : goal.returns
returns c =
    let field = c.fixed_field.ensures.value ∙ ap (λ xs. fixed_field xs fixed.Patient) c.deref.ensures.value in
    patient_is c.fixed_field.result.now (patient_of c.of_judged.result) c.of_judged.ensures ∙ ap patient_in field ∙ ap (λ h. h.patient) c.self.view_is
