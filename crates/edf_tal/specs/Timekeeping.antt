-- Lanes by the TAL that keeps the time. EDF+ (2003), "Time keeping of data records".
use Rattle.std.specs.Prelude.{◌≡◌, ◌≢◌, ◌⊎◌, ℕ, true, ℤ, List, [], ◌∷◌, ◌++◌, None}
use Rattle.edf_tal.specs.Tals.{TalValue, SpellsTal, IsLaneOf}
use Rattle.edf_tal.specs.Reading.{are_zeros}

-- the TAL of this onset that only keeps the time
abbrev pub time_tal : ℤ → TalValue
time_tal v = record { onset = v; duration = None; texts = [] ∷ [] }

-- the lane begins with a TAL whose first text is empty, and this is its onset. EDF+ (2003), "Time keeping of data records"
pub record StartsAt (lane : List ℕ) (v : ℤ) : Type 0 where
  pub bytes : List ℕ
  pub rest : List ℕ
  pub tal : TalValue
  pub more : List (List ℕ)
  pub spelled : SpellsTal bytes tal
  pub whole : lane ≡ bytes ++ 0 ∷ rest
  pub empty : tal.texts ≡ [] ∷ more
  pub onset : tal.onset ≡ v

-- the lane begins with a TAL that has no text, or a first text that isn't empty
pub record BeginsSilent (lane : List ℕ) : Type 0 where
  pub bytes : List ℕ
  pub rest : List ℕ
  pub tal : TalValue
  pub spelled : SpellsTal bytes tal
  pub whole : lane ≡ bytes ++ 0 ∷ rest
  pub silent : (more : List (List ℕ)) → tal.texts ≢ [] ∷ more

-- the lane doesn't say where its data record starts, and has no fault there: it is zeros alone, or begins
-- with a TAL whose first text isn't the empty one. EDF+ (2003), "Time keeping of data records"
abbrev pub KeepsNoTime : List ℕ → Type 0
KeepsNoTime lane = (are_zeros lane ≡ true) ⊎ BeginsSilent lane

-- the lane holds the TAL that keeps the time and nothing else: this onset, no duration, no text but the empty one. EDF+ (2003),
-- "Time keeping of data records"
abbrev pub IsTimeAlone : List ℕ → ℤ → Type 0
IsTimeAlone lane v = IsLaneOf lane (time_tal v ∷ [])

-- a lane has at most one list of TALs
abbrev pub HasOneList : Type 0
HasOneList = (lane : List ℕ) (tals others : List TalValue) → IsLaneOf lane tals → IsLaneOf lane others → tals ≡ others
