use Rattle.std.proofs.Common.{◌≡◌, drop}
use Rattle.edf_findings.specs.Kinds.{nearly_all_from}
use Rattle.edf_findings.proofs.samples.kinds.nearly_all.Given as goal

abbrev pub invariant-loop-channel : goal.invariant-loop-channel
invariant-loop-channel l = nearly_all_from l.changed l.compared (drop l.channel-index l.channels) ≡ nearly_all_from 0 0 l.channels
