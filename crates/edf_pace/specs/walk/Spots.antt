-- In which data records of two files the samples lie that were counted. By `ps` a file is moved: its times then count from the second at
-- which the original starts, before the shift. EDF (1992), "Data record"; EDF+ (2003), "Time keeping of data records".
use Rattle.std.specs.Prelude.{ℕ, zero, suc, ℤ, Bool, ◌&&◌, not, if◌then◌else◌, List, [], Option, None, Some}
use Rattle.edf_pace.specs.Words.{Head, Instant, PointDifference, option_map}
use Rattle.edf_samples.specs.InstantOrder.{is_before}
use Rattle.edf_samples.specs.Stretches.{whole}
use Rattle.edf_samples.specs.Tallies.{tally_of}
use Rattle.edf_samples.specs.declared.counts.counted.Counted.{Counted}
use Rattle.edf_samples.specs.declared.counts.tally.Tally.{Tally}
use Rattle.edf_pace.specs.declared.walk.watchers.found_in.ChannelCount.{ChannelCount}
use Rattle.edf_pace.specs.declared.walk.watchers.found_in.FoundIn.{FoundIn}
use Rattle.edf_pace.specs.declared.walk.watchers.found_in.RecordsAt.{RecordsAt}
use Rattle.edf_pace.specs.walk.Shown.{begin_by, end_by}
use Rattle.edf_pace.specs.walk.Watching.{TwoFiles}

-- an instant lies in the data record of a file with this number, from its begin on and before its end
abbrev pub lies_in : List ℕ → Head → ℤ → Instant → ℕ → Bool
lies_in file h ps at k = not (is_before at (whole (begin_by file h ps k))) && is_before at (whole (end_by file h ps k))

-- the number of the last of the first n data records in which it lies
abbrev pub record_among : List ℕ → Head → ℤ → Instant → ℕ → Option ℕ
record_among file h ps at zero = None
record_among file h ps at (suc k) = if lies_in file h ps at k then Some k else record_among file h ps at k

-- the number of the data record in which it lies; none where it lies in none
abbrev pub record_in : List ℕ → Head → ℤ → Instant → Option ℕ
record_in file h ps at = record_among file h ps at h.records

-- those of an original and an export, which are moved by a and b
abbrev pub records_in : TwoFiles → ℤ → ℤ → Instant → RecordsAt
records_in files a b at = record {
  original = record_in files.original files.head a at;
  export = record_in files.export files.export_head b at;
}

-- where the first and the last of some samples lie
abbrev pub found_in : TwoFiles → ℤ → ℤ → Counted → FoundIn
found_in files a b counted = record {
  first = option_map (λ (d : PointDifference). records_in files a b d.at) counted.first;
  last = option_map (λ (d : PointDifference). records_in files a b d.at) counted.last;
}

-- what is counted of a channel that has this tally
abbrev pub count_in : TwoFiles → ℤ → ℤ → Tally → ChannelCount
count_in files a b tally = record {
  tally = tally;
  missing = found_in files a b tally.missing;
  extra = found_in files a b tally.extra;
  changed = found_in files a b tally.changed;
}

-- nothing was found
abbrev pub nowhere : FoundIn
nowhere = record { first = None; last = None }

-- nothing was counted
abbrev pub no_count : ChannelCount
no_count = record { tally = tally_of []; missing = nowhere; extra = nowhere; changed = nowhere }
