use Rattle.edf_check.proofs.ProductFacts.{products_fit}
use Rattle.edf_check.proofs.laws.products_fit.Goals as goal

pub returns : goal.returns
returns c = products_fit
