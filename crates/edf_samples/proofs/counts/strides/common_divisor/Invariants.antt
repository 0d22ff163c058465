use Rattle.std.proofs.Common.{ℕ}
use Rattle.edf_samples.specs.Strides.{IsCommonDivisor}
use Rattle.edf_samples.proofs.counts.strides.common_divisor.Given as goal

abbrev pub invariant-loop-rest : goal.invariant-loop-rest
invariant-loop-rest l = (g : ℕ) → IsCommonDivisor l.divisor l.rest g → IsCommonDivisor l.fn.a l.fn.b g

abbrev pub decreases-loop-rest : goal.decreases-loop-rest
decreases-loop-rest l = l.rest
