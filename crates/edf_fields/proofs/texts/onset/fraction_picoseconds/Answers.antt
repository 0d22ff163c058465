use Rattle.edf_fields.proofs.texts.OnsetFacts.{fraction_missing}
use Rattle.edf_fields.proofs.texts.onset.fraction_picoseconds.Goals as goal

pub returns-in_err-fraction : goal.returns-in_err-fraction
returns-in_err-fraction c =
    let missing = rw c.without_trailing_zeros-front.ensures at c.in_err-fraction.ensures in
    rw c.from_residual.ensures (fraction_missing c.args.bytes.now missing)
