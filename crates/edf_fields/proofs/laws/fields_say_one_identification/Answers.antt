use Rattle.edf_fields.proofs.texts.IdentificationFacts.{one_patient, one_recording}
use Rattle.edf_fields.proofs.laws.fields_say_one_identification.Goals as goal

pub returns-clause-patient : goal.returns-clause-patient
returns-clause-patient c = one_patient

pub returns-clause-recording : goal.returns-clause-recording
returns-clause-recording c = one_recording
