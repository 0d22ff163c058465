-- The data records at hand of two files that are read in step, and where samples lie that are counted then. These are steps between the
-- definitions and the code.
use Rattle.std.specs.Prelude.{◌≡◌, ◌+◌, ◌⊎◌, ℕ, ℤ, Bool, false, not, IsTrue, if◌then◌else◌, List, [], ◌∷◌, MatchOption, Option, None, Some}
use Rattle.edf_pace.specs.Words.{Instant, PointDifference, Reader, is_current, option_map, option_or}
use Rattle.edf_samples.specs.InstantOrder.{is_before}
use Rattle.edf_samples.specs.Stretches.{whole}
use Rattle.edf_samples.specs.Tallies.{joined, tally_of}
use Rattle.edf_samples.specs.declared.counts.counted.Counted.{Counted}
use Rattle.edf_samples.specs.declared.counts.tally.Tally.{Tally}
use Rattle.edf_pace.specs.declared.walk.watchers.at_hand.Hand.{Hand}
use Rattle.edf_pace.specs.declared.walk.watchers.at_hand.Hands.{Hands}
use Rattle.edf_pace.specs.declared.walk.watchers.found_in.ChannelCount.{ChannelCount}
use Rattle.edf_pace.specs.declared.walk.watchers.found_in.FoundIn.{FoundIn}
use Rattle.edf_pace.specs.declared.walk.watchers.found_in.RecordsAt.{RecordsAt}
use Rattle.edf_pace.specs.walk.Shown.{begins_at}

-- this is the data record at hand of a reader whose file is moved by so much: its number, counted from 0, and when it begins; or none
-- is at hand
abbrev pub IsHandOf : Reader → ℤ → Hand → Type 0
IsHandOf r ps hand = MatchOption hand.number ((is_current r.status ≡ false) ⊎ (r.read ≡ 0)) (λ number.
    IsTrue (is_current r.status) × (number + 1 ≡ r.read) × ((hand.from).ps ≡ begins_at r ps))

-- these are the data records at hand of an original and of an export that are moved by so much
abbrev pub AreHandsOf : Reader → ℤ → Reader → ℤ → Hands → Type 0
AreHandsOf original a export b hands = IsHandOf original a hands.original × IsHandOf export b hands.export

-- the number of a data record at hand, where an instant isn't before its begin
abbrev pub number_in : Hand → Instant → Option ℕ
number_in hand at = if is_before at (whole (hand.from).ps) then None else hand.number

-- the numbers of those at hand, each where the instant isn't before its begin
abbrev pub records_at : Hands → Instant → RecordsAt
records_at hands at = record { original = number_in hands.original at; export = number_in hands.export at }

-- there is a difference, at a time or later
abbrev pub is_since : ℤ → Option PointDifference → Bool
is_since t None = false
is_since t (Some d) = not (is_before d.at (whole t))

-- where the first and the last of some samples lie, if those since t lie in the data records at hand
abbrev pub found_on : Hands → ℤ → FoundIn → Counted → FoundIn
found_on hands t before counted =
    if is_since t counted.last then record {
      first = option_or before.first (option_map (λ (d : PointDifference). records_at hands d.at) counted.first);
      last = option_map (λ (d : PointDifference). records_at hands d.at) counted.last;
    } else before

-- what is counted of a channel that has this tally now
abbrev pub counted_on : Hands → ℤ → ChannelCount → Tally → ChannelCount
counted_on hands t before tally = record {
  tally = tally;
  missing = found_on hands t before.missing tally.missing;
  extra = found_on hands t before.extra tally.extra;
  changed = found_on hands t before.changed tally.changed;
}

-- what is counted of each channel, with these differences since t
abbrev pub joined_each : Hands → ℤ → List ChannelCount → List (List PointDifference) → List ChannelCount
joined_each hands t [] ds = []
joined_each hands t (a ∷ more) [] = a ∷ more
joined_each hands t (a ∷ more) (d ∷ ds) = counted_on hands t a (joined a.tally (tally_of d)) ∷ joined_each hands t more ds
