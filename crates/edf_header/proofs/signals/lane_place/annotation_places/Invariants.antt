use Rattle.std.proofs.Common.{◌≡◌, ◌++◌, drop}
use Rattle.edf_header.specs.signals.Lanes.{annotation_places}
use Rattle.edf_header.proofs.signals.lane_place.annotation_places.Given as goal

abbrev pub invariant-loop-signal : goal.invariant-loop-signal
invariant-loop-signal l = annotation_places l.signals ≡ l.places.items ++ annotation_places (drop l.signal-index l.signals)
