use Rattle.std.proofs.Common.{◌∙◌, ◌↔◌, IsTrue, ap, sym, subst}
use Rattle.std.specs.List.{list_all}
use Rattle.edf_fields.specs.texts.Identifications.{Patient, Recording}
use Rattle.edf_fields.specs.declared.fields.which.Which.{Which}
use Rattle.edf_heads.specs.Comparisons.{is_x, IsAnonymous}
use Rattle.edf_heads.proofs.SubfieldFacts.{all_x_tested}
use Rattle.edf_heads.proofs.subfields.is_anonymous.Goals as goal

pub returns-in-PatientExtras : goal.returns-in-PatientExtras
returns-in-PatientExtras c =
    subst (λ (w : Which). IsTrue c.are_all_x.result ↔ IsAnonymous c.args.header.now w) (sym c.in-PatientExtras.is)
    (all_x_tested c.are_all_x.result c.args.header.now.patient.extras (c.are_all_x.ensures ∙ ap (list_all is_x) (c.extras.ensures ∙ ap (λ (p : Patient). p.extras) c.patient-patient.ensures)))

pub returns-in-RecordingExtras : goal.returns-in-RecordingExtras
returns-in-RecordingExtras c =
    subst (λ (w : Which). IsTrue c.are_all_x-in-RecordingExtras.result ↔ IsAnonymous c.args.header.now w) (sym c.in-RecordingExtras.is)
    (all_x_tested c.are_all_x-in-RecordingExtras.result c.args.header.now.recording.extras
    (c.are_all_x-in-RecordingExtras.ensures ∙ ap (list_all is_x) (c.extras-in-RecordingExtras.ensures ∙ ap (λ (r : Recording). r.extras) c.recording-recording.ensures)))
