use Rattle.std.proofs.Common.{◌≡◌, ◌||◌, drop, nat_lt}
use Rattle.std.specs.List.{list_any}
use Rattle.edf_findings.specs.declared.samples.compared.ComparedChannel.{ComparedChannel}
use Rattle.edf_findings.specs.Kinds.{nearly_all_from}
use Rattle.edf_findings.proofs.samples.kinds.SampleKinds.of.Given as goal

abbrev pub invariant-loop-channel : goal.invariant-loop-channel
invariant-loop-channel l = record {
  missing : (l.kinds.missing || list_any (λ (channel : ComparedChannel). nat_lt 0 (channel.missing).count) (drop l.channel-index l.channels)) ≡ list_any (λ (channel : ComparedChannel). nat_lt 0 (channel.missing).count) l.channels;
  extra : (l.kinds.extra || list_any (λ (channel : ComparedChannel). nat_lt 0 (channel.extra).count) (drop l.channel-index l.channels)) ≡ list_any (λ (channel : ComparedChannel). nat_lt 0 (channel.extra).count) l.channels;
  changed : (l.kinds.changed || list_any (λ (channel : ComparedChannel). nat_lt 0 (channel.changed).count) (drop l.channel-index l.channels)) ≡ list_any (λ (channel : ComparedChannel). nat_lt 0 (channel.changed).count) l.channels;
  nearly_all : l.kinds.nearly_all ≡ nearly_all_from 0 0 l.channels;
}
