use Rattle.edf_check.proofs.parts.CompareFacts.{if_faulty, if_read}
use Rattle.edf_check.proofs.parts.part.read_course.Goals as goal

pub returns-else-shown-clause-through : goal.returns-else-shown-clause-through
returns-else-shown-clause-through g c = if_read c.pass_over.result _ _ (λ course through last ho he a b bo se. through ho he a b bo.there se) c.pass_over.ensures.through

pub returns-else-shown-clause-passed : goal.returns-else-shown-clause-passed
returns-else-shown-clause-passed g c = if_read c.pass_over.result _ _ (λ course passed ho he a b bo se. passed ho he a b bo.there se) c.pass_over.ensures.passed

pub returns-else-shown-clause-fault : goal.returns-else-shown-clause-fault
returns-else-shown-clause-fault g c = if_faulty c.pass_over.result _ _ (λ w fault ho he a b bo se. fault ho he a b bo.there se) c.pass_over.ensures.fault
