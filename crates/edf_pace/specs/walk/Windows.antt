-- Which samples of the data record at hand stand between two times, and the channels of two files compared there, in picoseconds after the
-- second at which the original starts, before the shift. These are steps between the definitions and the code.
use Rattle.std.specs.Prelude.{◌≡◌, ℕ, ℤ, Bool, true, false, List, map, Option, None, Some, [], ◌∷◌, IfSome, ◌<◌, pos, ◌+ℤ◌, ◌*ℤ◌}
use Rattle.edf_pace.specs.Words.{keeps_instant, ClaimValue, Head, Reader, PointDifference, Found, Point, Share, ChannelPlace, Clock, Frame, Window, Pair, is_current, file_start, start_in, Track}
use Rattle.edf_claim.specs.KeepsReading.{IsUncut}
use Rattle.edf_stream.specs.samples.SamplesReading.{samples_of}
use Rattle.edf_pace.specs.declared.walk.shares.Shares.{Shares}
use Rattle.edf_pace.specs.walk.Columns.{Sampled, is_of, is_kept, points_of}
use Rattle.edf_samples.specs.Differences.{first_difference_of, earliest}
use Rattle.edf_samples.specs.Shares.{IsShareOf}
use Rattle.edf_samples.specs.Stretches.{since, until}
use Rattle.edf_pace.specs.walk.Pairs.{Places, places_of}
use Rattle.edf_pace.specs.walk.Shown.{Covers}

-- where the first of n samples of a lane stands in the data record at hand, moved
abbrev pub first_at : Reader → ℤ → ℕ → ℤ
first_at r ps n = (pos n *ℤ (file_start r.head +ℤ start_in r.head r.current)) +ℤ (pos n *ℤ ps)

-- a share of each lane with so many samples of the data record at hand, if they are any
abbrev pub IsShareIn : Reader → ℤ → Window → Share → Type 0
IsShareIn r ps w s = 0 < s.samples → IsShareOf (first_at r ps s.samples) r.head.duration w s

-- the same of both files
abbrev pub AreSharesIn : Reader → Reader → Clock → Window → Shares → Type 0
AreSharesIn r s clock w shares = IsShareIn r (clock.original).ps w shares.original × IsShareIn s (clock.export).ps w shares.export

-- where a data record is at hand, the share is one of lanes with as many samples as this channel's
abbrev pub HasShare : Reader → Option Track → Share → Type 0
HasShare r track share = IfSome track (λ t. is_current r.status ≡ true → share.samples ≡ t.place.samples)

-- a file with its samples, moved by so many picoseconds
abbrev pub sampled : List ℕ → Head → ℤ → Sampled
sampled file h ps = record { head = h; samples = samples_of file h; moved = ps }

-- the samples of a channel, and those that a claim keeps
abbrev pub points_at : Sampled → ChannelPlace → List Point
points_at file place = points_of (is_of place.number) file.moved file.samples

abbrev pub kept_at : ClaimValue → Sampled → ChannelPlace → List Point
kept_at claim file place = points_of (is_kept claim place.number file.moved) file.moved file.samples

-- the first difference of two channels, of which the samples from t on are compared; none where one of them isn't there
abbrev pub rest_of : ClaimValue → Sampled → Sampled → ℤ → Option ChannelPlace → Option ChannelPlace → Option PointDifference
rest_of claim o e t None q = None
rest_of claim o e t (Some p) None = None
rest_of claim o e t (Some p) (Some q) =
    first_difference_of p.samples (since p.samples t (kept_at claim o p)) q.samples (since q.samples t (points_at e q))

-- the same of the samples before u
abbrev pub window_of : ClaimValue → Sampled → Sampled → ℤ → ℤ → Option ChannelPlace → Option ChannelPlace → Option PointDifference
window_of claim o e t u None q = None
window_of claim o e t u (Some p) None = None
window_of claim o e t u (Some p) (Some q) =
    first_difference_of p.samples (until p.samples u (since p.samples t (kept_at claim o p))) q.samples (until q.samples u (since q.samples t (points_at e q)))

-- the earliest difference of these channels, of the samples from t on; of those from t on and before u
unfoldable pub rest_difference : ClaimValue → Sampled → Sampled → List Places → ℤ → Option Found
rest_difference claim o e places t = earliest 0 (map (λ p. rest_of claim o e t p.0 p.1) places)

unfoldable pub window_difference : ClaimValue → Sampled → Sampled → List Places → ℤ → ℤ → Option Found
window_difference claim o e places t u = earliest 0 (map (λ p. window_of claim o e t u p.0 p.1) places)

-- no part follows
abbrev pub is_last : List (List ℕ) → Bool
is_last [] = true
is_last (part ∷ parts) = false

-- the same of those from t on; where further exports follow, of those before u alone
abbrev pub span_difference : Bool → ClaimValue → Sampled → Sampled → List Places → ℤ → ℤ → Option Found
span_difference true claim o e places t u = rest_difference claim o e places t
span_difference false claim o e places t u = window_difference claim o e places t u

-- these are the samples of a channel that a reader shows in a window of which this is the share; and those of them that a claim keeps
abbrev pub AreShown : Reader → Share → ChannelPlace → List Point → Type 0
AreShown r share place points = (ps : ℤ) (w : Window) → IsShareIn r ps w share → (file : List ℕ) → Covers r file ps (w.from).ps (w.to).ps
    → points ≡ until place.samples (w.to).ps (since place.samples (w.from).ps (points_at (sampled file r.head ps) place))

abbrev pub AreKeptOf : Reader → Share → Bool → ChannelPlace → List Point → Type 0
AreKeptOf r share is_kept place points = (claim : ClaimValue) (ps : ℤ) (w : Window) → IsShareIn r ps w share
    → IsUncut claim.keep (w.from).ps (w.to).ps → is_kept ≡ keeps_instant claim (w.from).ps 1
    → (file : List ℕ) → Covers r file ps (w.from).ps (w.to).ps
    → points ≡ until place.samples (w.to).ps (since place.samples (w.from).ps (kept_at claim (sampled file r.head ps) place))

-- the first difference of a pair of channels that two readers show in a window of which these are the shares
abbrev pub IsPairIn : Reader → Reader → Shares → Pair → Option PointDifference → Type 0
IsPairIn r s shares pair found = (claim : ClaimValue) (clock : Clock) (w : Window)
    → IsShareIn r (clock.original).ps w shares.original → IsShareIn s (clock.export).ps w shares.export
    → IsUncut claim.keep (w.from).ps (w.to).ps → shares.is_kept ≡ keeps_instant claim (w.from).ps 1
    → (o e : List ℕ) → Covers r o (clock.original).ps (w.from).ps (w.to).ps → Covers s e (clock.export).ps (w.from).ps (w.to).ps
    → found ≡ window_of claim (sampled o r.head (clock.original).ps) (sampled e s.head (clock.export).ps) (w.from).ps (w.to).ps (places_of pair).0 (places_of pair).1

-- what two readers show between two times, of an original and a part of which each is moved, has this first difference
abbrev pub IsDifferenceIn : Reader → Reader → ClaimValue → Clock → List Pair → Window → Option Found → Type 0
IsDifferenceIn r s claim clock pairs w found = (o e : List ℕ) → Covers r o (clock.original).ps (w.from).ps (w.to).ps → Covers s e (clock.export).ps (w.from).ps (w.to).ps
    → found ≡ window_difference claim (sampled o r.head (clock.original).ps) (sampled e s.head (clock.export).ps) (map places_of pairs) (w.from).ps (w.to).ps

abbrev pub IsDifferenceBy : Frame → Reader → Reader → Window → Option Found → Type 0
IsDifferenceBy frame r s w found = IsDifferenceIn r s ((frame.turn).setting.claim).now (frame.turn).setting.clock (frame.pairs).now w found
