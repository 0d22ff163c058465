use Rattle.std.proofs.Common.{◌≡◌, map, take}
use Rattle.edf_fields.specs.Lists.{Has}
use Rattle.edf_findings.specs.declared.samples.compared.ComparedChannel.{ComparedChannel}
use Rattle.edf_findings.specs.Told.{IsToldOf, places_from}
use Rattle.edf_findings.proofs.samples.claimed.CountedLabels.channels.Given as goal

abbrev pub invariant-loop-place : goal.invariant-loop-place
invariant-loop-place l = record {
  which : map (λ (channel : ComparedChannel). channel.place) l.channels.items ≡ places_from (l.self.headers.0).now (l.self.headers.1).now 0 (take l.place l.labels);
  each : (channel : ComparedChannel) → Has l.channels.items channel → IsToldOf l.labels l.self.labels.now (record { original = (l.self.headers.0).now; export = (l.self.headers.1).now; counts = l.self.counts.now }) channel;
}
