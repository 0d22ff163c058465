use Rattle.std.proofs.Common.{arith}
use Rattle.edf_samples.proofs.rates.StrideFacts.{divisor_above, divisor_end, divisor_step}
use Rattle.edf_samples.proofs.counts.strides.common_divisor.Goals as goal

pub loop-rest-preserved : goal.loop-rest-preserved
loop-rest-preserved c g h = c.loop-rest.invariant g (divisor_step _ _ g h)

pub returns-clause-value : goal.returns-clause-value
returns-clause-value c = c.loop-rest.invariant _ (divisor_end _ _ (omega arith))

pub returns-clause-some : goal.returns-clause-some
returns-clause-some c = divisor_above _ _ _ c.requires (c.loop-rest.invariant _ (divisor_end _ _ (omega arith)))
