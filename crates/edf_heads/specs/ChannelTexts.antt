-- The texts of the channels.
use Rattle.std.specs.Prelude.{◌≡◌}
use Rattle.edf_header.specs.Heads.{SignalHead}

-- two channels have the same texts (EDF, "Header record": transducer type, prefiltering)
abbrev pub HaveSameTexts : SignalHead → SignalHead → Type 0
HaveSameTexts x y = (x.transducer ≡ y.transducer) × (x.prefilter ≡ y.prefilter)
