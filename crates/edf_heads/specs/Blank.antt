-- The free text of a header.
use Rattle.std.specs.Prelude.{◌≡◌, [], filter}
use Rattle.std.specs.List.{All}
use Rattle.edf_header.specs.Heads.{SignalHead, Head, is_annotations}
use Rattle.edf_header.specs.signals.Channels.{channels_among}

-- the texts of a signal but its label are empty (EDF, "Header record": transducer type, physical dimension, prefiltering, reserved)
pub record HasNoTexts (signal : SignalHead) : Type 0 where
  pub transducer : signal.transducer ≡ []
  pub dimension : signal.dimension ≡ []
  pub prefilter : signal.prefilter ≡ []
  pub reserved : signal.reserved ≡ []

-- the fields of the header that hold nothing but free text are empty (this project's profile): what stands behind `EDF+C` or `EDF+D`, the reserved field of each channel, and all texts of an annotation signal but its label (EDF+, "The EDF+ header", "The 'EDF Annotations' signal")
pub record IsBlank (h : Head) : Type 0 where
  pub free : h.free ≡ []
  pub channels : All (λ channel. channel.reserved ≡ []) (channels_among h.signals)
  pub annotations : All HasNoTexts (filter (λ signal. is_annotations signal.label) h.signals)
