-- What a claim says.
use Rattle.std.specs.Prelude.{ℕ, ℤ, List}
use Rattle.edf_claim.specs.declared.kept.interval.Interval.{Interval}
use Rattle.edf_fields.specs.declared.fields.which.Which.{Which}

-- a claim: the labels of the channels, the intervals that are kept, what is made anonymous, the shift in seconds, the texts of annotations
-- that are removed, the beginnings of texts that are, and the texts that are blanked; intervals count picoseconds after the second at which the original starts by its header
pub record ClaimValue : Type 0 where
  pub channels : List (List ℕ)
  pub keep : List Interval
  pub anonymous : List Which
  pub shift : ℤ
  pub remove : List (List ℕ)
  pub remove_prefix : List (List ℕ)
  pub blank : List (List ℕ)
