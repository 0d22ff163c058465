use Rattle.std.proofs.Common.{◌≡◌, ◌≤◌, ◌++◌, drop}
use Rattle.std.specs.List.{All}
use Rattle.edf_header.specs.Heads.{samples_together}
use Rattle.edf_stream.specs.times.InstantOrder.{IsSmall}
use Rattle.edf_stream.specs.samples.SamplesReading.{samples_by}
use Rattle.edf_header.specs.signals.Channels.{channels_among}
use Rattle.edf_stream.proofs.samples.sample.push_samples.Given as goal

abbrev pub invariant-loop-signal : goal.invariant-loop-signal
invariant-loop-signal l = record {
  value : l.samples.items ++ samples_by l.channel (l.time).start_ps (l.time).duration_ps (channels_among (drop l.signal-index (l.header).signals)) l.bytes
      ≡ (l.initial.samples).items ++ samples_by 0 (l.time).start_ps (l.time).duration_ps (channels_among (l.header).signals) l.bytes;
  small : All (λ x. IsSmall x.instant) l.samples.items;
  few : samples_together (drop l.signal-index (l.header).signals) ≤ samples_together (l.header).signals;
  places : l.channel ≤ l.signal-index;
}
