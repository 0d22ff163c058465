-- Where the lanes of the signals that hold annotations lie in each data record (EDF, "Data record"; EDF+, "The 'EDF Annotations' signal").
use Rattle.std.specs.Prelude.{if◌then◌else◌, List, [], ◌∷◌}
use Rattle.edf_header.specs.declared.signals.lane_place.LanePlace.{LanePlace}
use Rattle.edf_header.specs.Heads.{SignalHead, is_annotations}

-- where the lane of a signal lies
abbrev pub place_of : SignalHead → LanePlace
place_of signal = record { offset = signal.offset; samples = signal.samples }

-- where the lanes of those of the signals that hold annotations lie, in their order
abbrev pub annotation_places : List SignalHead → List LanePlace
annotation_places [] = []
annotation_places (signal ∷ signals) = if is_annotations signal.label then place_of signal ∷ annotation_places signals else annotation_places signals
