-- The data records of a file, and what each signal has in them. EDF (1992), "Data record".
use Rattle.std.specs.Prelude.{ℕ, ◌+◌, ◌*◌, List, [], map, filter}
use Rattle.edf_fields.specs.Parts.{part}
use Rattle.edf_header.specs.Heads.{SignalHead, Head, header_bytes, record_bytes, is_annotations}

-- data record k: the first one stands behind the header, and each other one behind the one before it
abbrev pub record_at : List ℕ → Head → ℕ → List ℕ
record_at file h k = part file (header_bytes h + k * record_bytes h) (record_bytes h)

-- the lane of a signal in the bytes of a data record: its samples, two bytes each, behind those of the signals before it
abbrev pub lane_of : SignalHead → List ℕ → List ℕ
lane_of signal bytes = part bytes signal.offset (2 * signal.samples)

-- the lanes of those of the signals that hold annotations, in their order. EDF+ (2003), "The 'EDF Annotations' signal"
abbrev pub annotation_lanes : List SignalHead → List ℕ → List (List ℕ)
annotation_lanes signals bytes = map (λ signal. lane_of signal bytes) (filter (λ signal. is_annotations signal.label) signals)
