-- A table that passes each test has no fault.
use Rattle.std.proofs.Common.{◌≡◌, true, Some, None, refl}
use Rattle.toml.specs.Data.{Members}
use Rattle.edf_claim.specs.Reading.{has_format, has_keys_of_format, channels_of, keep_of, anonymous_of, shift_of, remove_of, remove_prefix_of, blank_of, claim_fault}
use Rattle.edf_claim.specs.ClaimValues.{ClaimValue}

-- the parts that are read of a table are those of this claim
pub record AreParts (m : Members) (c : ClaimValue) : Type 0 where
  pub channels : channels_of m ≡ Some c.channels
  pub keep : keep_of m ≡ Some c.keep
  pub anonymous : anonymous_of m ≡ Some c.anonymous
  pub shift : shift_of m ≡ Some c.shift
  pub remove : remove_of m ≡ Some c.remove
  pub remove_prefix : remove_prefix_of m ≡ Some c.remove_prefix
  pub blank : blank_of m ≡ Some c.blank

pub all-passed : (m : Members) (c : ClaimValue) → has_format m ≡ true → has_keys_of_format m ≡ true → AreParts m c → claim_fault m ≡ None
unfolding claim_fault
all-passed m c f k p = rw (f, k, p.channels, p.keep, p.anonymous, p.shift, p.remove, p.remove_prefix, p.blank) refl
