-- What a source has digested.
use Rattle.std.specs.Prelude.{◌≡◌, ◌<◌, ◌-◌, ◌^◌, ℕ, Bool, true, List, ◌++◌, length, min}
use Rattle.sha2.specs.Hashers.{Holds256}
use Rattle.sha2.specs.Sha256.{sha256}
use Rattle.sha2.specs.declared.Sha256.{Sha256}
use Rattle.edf_receipt.specs.declared.digest_source.Digested.{Digested}
use Rattle.edf_fields.specs.declared.in_out.source.Source.{Ghosts}
use Rattle.edf_fields.specs.in_out.Sources.{Fails, Reads}

-- the hasher holds what is gone of the whole where this is left, and so many bytes are gone
abbrev pub HasDigested : Sha256 → ℕ → List ℕ → List ℕ → Type 0
HasDigested hasher bytes whole left = (gone : List ℕ) × Holds256 hasher gone × (whole ≡ gone ++ left) × (bytes ≡ min (length gone) (2 ^ 64 - 1))

-- what is told of the reads of a source that remembers its start
abbrev pub digest_reads : ℕ → List ℕ → Bool → Reads
digest_reads failed start known = record { failed = failed; start = start; known = known }

-- this is the digest of these bytes, by SHA-256, and their number
abbrev pub IsDigestOf : List ℕ → Digested → Type 0
IsDigestOf whole digested = (digested.sha256 ≡ sha256 whole) × (digested.bytes ≡ length whole)

-- ---- the same of a source that digests, before and behind

-- whatever known bytes it began with: of those that are gone of them this holds
abbrev pub OfGone : {D : Type 0} → Ghosts D → D → (List ℕ → Type 0) → Type 0
OfGone source d Holds = (whole gone : List ℕ) → source.reads d ≡ digest_reads 0 whole true → whole ≡ gone ++ source.left d → Holds gone

-- this is the digest of all known bytes that it began with, where they are fewer than the most that are counted
abbrev pub IsDigestOfAll : {D : Type 0} → Ghosts D → D → Digested → Type 0
IsDigestOfAll source d digested =
    (whole : List ℕ) → source.reads d ≡ digest_reads 0 whole true → length whole < 2 ^ 64 - 1 → IsDigestOf whole digested

-- a read of it failed
abbrev pub FailsReading : {D : Type 0} → Ghosts D → D → D → Type 0
FailsReading source d d' = Fails (source.reads d) (source.reads d')
