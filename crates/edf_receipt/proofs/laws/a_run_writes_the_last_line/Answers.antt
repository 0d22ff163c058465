use Rattle.edf_receipt.proofs.RunLineFacts.{parts_run_is_last, run_is_last}
use Rattle.edf_receipt.proofs.laws.a_run_writes_the_last_line.Goals as goal

pub returns-clause-one : goal.returns-clause-one
returns-clause-one c = run_is_last c.tables_say_one_claim.ensures c.there_is_one_verdict.ensures

pub returns-clause-several : goal.returns-clause-several
returns-clause-several c = parts_run_is_last c.tables_say_one_claim.ensures c.there_is_one_verdict_on_parts.ensures
