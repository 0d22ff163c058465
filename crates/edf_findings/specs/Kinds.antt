-- Which kinds of differences the samples of all channels have.
use Rattle.std.specs.Prelude.{◌==◌, ◌&&◌, ℕ, ◌+◌, ◌*◌, ◌-◌, ◌^◌, min, nat_lt, nat_le, not, Bool, List, [], ◌∷◌, Option, None, Some, if◌then◌else◌}
use Rattle.edf_findings.specs.declared.samples.compared.ComparedChannel.{ComparedChannel}

-- of a channel that wasn't sampled anew, at least 99 of 100 samples that both files have at the same times have other values
abbrev pub has_nearly_all : ComparedChannel → Bool
has_nearly_all channel = not channel.has_other_rate && (not (channel.compared == 0) && nat_le (channel.compared * 99) ((channel.changed).count * 100))

-- a counter stays at the largest value that it holds
abbrev pub counted_on : ℕ → ℕ → ℕ
counted_on before more = min (before + more) (2 ^ 64 - 1)

-- how many samples have other values, and of how many, where that are nearly all of each of these channels, and more than 20 together; so many stand before them
abbrev pub nearly_all_from : ℕ → ℕ → List ComparedChannel → Option (ℕ × ℕ)
nearly_all_from changed compared [] = if nat_lt 20 compared then Some (changed, compared) else None
nearly_all_from changed compared (channel ∷ channels) =
    if has_nearly_all channel then nearly_all_from (counted_on changed (channel.changed).count) (counted_on compared channel.compared) channels else None
