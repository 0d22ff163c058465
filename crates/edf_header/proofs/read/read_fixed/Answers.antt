use Rattle.std.proofs.Common.{◌∙◌}
use Rattle.std.proofs.lemmas.Result.{err_from_is_err_and}
use Rattle.edf_header.proofs.ReadFacts.{front_found}
use Rattle.edf_header.proofs.read.read_fixed.Goals as goal

pub returns-in_err-said-clause-stop : goal.returns-in_err-said-clause-stop
returns-in_err-said-clause-stop g c =
    let p = err_from_is_err_and c.from_residual-in_err-said.result c.from_residual-in_err-said.ensures.1 in
    rw (p.1, p.2) ((λ h. front_found _ _ _ (c.deref.ensures.value ∙ c.in_ok-bytes.ensures.front h) c.in_err-said.ensures), c.in_ok-bytes.ensures.failures)

pub returns-clause-said : goal.returns-clause-said
returns-clause-said g c = rw c.deref.ensures.value at c.in_ok-said.ensures
