use Rattle.std.proofs.Common.{◌≡◌, drop}
use Rattle.std.specs.List.{position_from}
use Rattle.edf_header.specs.signals.ChannelsReading.{is_channel_of}
use Rattle.edf_header.proofs.signals.together.find_channel.Given as goal

abbrev pub invariant-loop-s : goal.invariant-loop-s
invariant-loop-s l = position_from (is_channel_of l.label) 0 l.signals ≡ position_from (is_channel_of l.label) l.s (drop l.s l.signals)
