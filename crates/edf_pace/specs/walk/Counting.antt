-- What a watcher counts that looks at each channel.
use Rattle.std.specs.Prelude.{◌≡◌, ℕ, ℤ, Bool, true, false, List, [], map, Option, None, Some}
use Rattle.edf_pace.specs.Words.{keeps_instant, ClaimValue, PointDifference, ChannelPlace, Clock, Frame, Pair, Reader, Window}
use Rattle.edf_claim.specs.KeepsReading.{IsUncut}
use Rattle.edf_samples.specs.declared.counts.tally.Tally.{Tally}
use Rattle.edf_pace.specs.declared.walk.shares.Shares.{Shares}
use Rattle.edf_pace.specs.declared.walk.watchers.at_hand.Hands.{Hands}
use Rattle.edf_pace.specs.declared.walk.watchers.found_in.ChannelCount.{ChannelCount}
use Rattle.edf_pace.specs.walk.Columns.{Sampled}
use Rattle.edf_samples.specs.Stretches.{since, until}
use Rattle.edf_samples.specs.Tallies.{differences_of, joined, tally_of}
use Rattle.edf_pace.specs.walk.Hands.{AreHandsOf, joined_each}
use Rattle.edf_pace.specs.walk.Pairs.{Places, places_of}
use Rattle.edf_pace.specs.walk.Shown.{Covers}
use Rattle.edf_pace.specs.walk.Spots.{count_in}
use Rattle.edf_pace.specs.walk.Watching.{TwoFiles, moved_export, moved_original}
use Rattle.edf_pace.specs.walk.Windows.{IsShareIn, kept_at, points_at, sampled}

-- all differences of two channels, of the samples from t on and before u; none where one of them isn't there
unfoldable pub differences_in : ClaimValue → Sampled → Sampled → ℤ → ℤ → Option ChannelPlace → Option ChannelPlace → List PointDifference
differences_in claim o e t u None q = []
differences_in claim o e t u (Some p) None = []
differences_in claim o e t u (Some p) (Some q) =
    differences_of p.samples (until p.samples u (since p.samples t (kept_at claim o p))) q.samples (until q.samples u (since q.samples t (points_at e q)))

-- the tally of each channel of a frame, from t on and before u
abbrev pub tallies_between : Frame → TwoFiles → ℤ → ℤ → List Tally
tallies_between frame files t u =
    map (λ (pair : Pair). tally_of (differences_in ((frame.turn).setting.claim).now (sampled files.original files.head (moved_original frame.turn)) (sampled files.export files.export_head (moved_export frame.turn)) t u
    (places_of pair).0 (places_of pair).1)) (frame.pairs).now

-- what is counted of each channel, and where the first and the last of each kind lie
abbrev pub counts_between : Frame → TwoFiles → ℤ → ℤ → List ChannelCount
counts_between frame files t u = map (count_in files (moved_original frame.turn) (moved_export frame.turn)) (tallies_between frame files t u)

-- this is counted of each channel of a frame, from t on and before u
abbrev pub AreCounts : List ChannelCount → Frame → TwoFiles → ℤ → ℤ → Type 0
AreCounts counts frame files t u = counts ≡ counts_between frame files t u

-- all differences of two channels, of the samples from t on
unfoldable pub differences_since : ClaimValue → Sampled → Sampled → ℤ → Option ChannelPlace → Option ChannelPlace → List PointDifference
differences_since claim o e t None q = []
differences_since claim o e t (Some p) None = []
differences_since claim o e t (Some p) (Some q) = differences_of p.samples (since p.samples t (kept_at claim o p)) q.samples (since q.samples t (points_at e q))

-- the tally of each of these channels, of the samples from t on; where further exports follow, of those before u alone
abbrev pub span_tallies : Bool → ClaimValue → Sampled → Sampled → List Places → ℤ → ℤ → List Tally
span_tallies true claim o e places t u = map (λ (p : Places). tally_of (differences_since claim o e t p.0 p.1)) places
span_tallies false claim o e places t u = map (λ (p : Places). tally_of (differences_in claim o e t u p.0 p.1)) places

-- what is counted of each of these channels of two files that are moved by a and b, and where the first and the last of each kind lie
abbrev pub span_counts : Bool → ClaimValue → TwoFiles → ℤ → ℤ → List Places → ℤ → ℤ → List ChannelCount
span_counts last claim files a b places t u = map (count_in files a b) (span_tallies last claim (sampled files.original files.head a) (sampled files.export files.export_head b) places t u)

-- the differences of a pair of channels were counted that two readers show in a window of which these are the shares
abbrev pub IsPairCounted : Reader → Reader → Shares → Pair → Tally → Tally → Type 0
IsPairCounted r s shares pair before after = (claim : ClaimValue) (clock : Clock) (w : Window)
    → IsShareIn r (clock.original).ps w shares.original → IsShareIn s (clock.export).ps w shares.export
    → IsUncut claim.keep (w.from).ps (w.to).ps → shares.is_kept ≡ keeps_instant claim (w.from).ps 1
    → (o e : List ℕ) → Covers r o (clock.original).ps (w.from).ps (w.to).ps → Covers s e (clock.export).ps (w.from).ps (w.to).ps
    → after ≡ joined before (tally_of (differences_in claim (sampled o r.head (clock.original).ps) (sampled e s.head (clock.export).ps) (w.from).ps (w.to).ps (places_of pair).0 (places_of pair).1))

-- the differences between t and u of each channel of a frame were counted that two readers show, and where the first and the last of each kind lie
abbrev pub AreCounted : Reader → Reader → Frame → Window → List ChannelCount → List ChannelCount → Type 0
AreCounted r s frame w before after = (hands : Hands) × AreHandsOf r (moved_original frame.turn) s (moved_export frame.turn) hands
    × ((o e : List ℕ) → Covers r o (moved_original frame.turn) (w.from).ps (w.to).ps → Covers s e (moved_export frame.turn) (w.from).ps (w.to).ps
    → after ≡ joined_each hands (w.from).ps before (map (λ (pair : Pair). differences_in ((frame.turn).setting.claim).now (sampled o r.head (moved_original frame.turn)) (sampled e s.head (moved_export frame.turn)) (w.from).ps (w.to).ps (places_of pair).0 (places_of pair).1) (frame.pairs).now))
