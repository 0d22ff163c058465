use Rattle.edf_draft.proofs.answer.read_side.Goals as goal

pub returns-in-Ok-clause-read : goal.returns-in-Ok-clause-read
returns-in-Ok-clause-read g c = λ h. record { conforms = c.in-Ok.ensures.conforms h; begins = c.in-Ok.ensures.begins h; ends = c.in-Ok.ensures.ends h }
