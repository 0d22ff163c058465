-- The columns of signals, as the code holds them.
use Rattle.std.specs.Prelude.{◌*◌, ◌<◌, ◌≡◌, length}
use Rattle.edf_layout.specs.declared.signal_fields.RawSignals.{RawSignals}

-- there are 256 bytes for each signal, and fewer signals than a count of four digits can say
pub record AreRaw (signals : RawSignals) : Type 0 where
  pub few : signals.count < 10000
  pub whole : length signals.columns.now ≡ 256 * signals.count
