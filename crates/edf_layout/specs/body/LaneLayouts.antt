-- How the TALs of a lane are spelled. EDF+ (2003), "Time-stamped Annotations Lists (TALs) in an 'EDF Annotations' signal".
use Rattle.std.specs.Prelude.{◌≡◌, ℕ, Bool, true, List, [], ◌∷◌, ◌++◌, Option, Some, None, if◌then◌else◌}
use Rattle.edf_tal.specs.Tals.{TalValue, SpellsTal}
use Rattle.edf_tal.specs.Reading.{are_zeros}
use Rattle.edf_layout.specs.PlainNumbers.{is_plain_unsigned}
use Rattle.edf_layout.specs.PlainLaws.{is_plain_onset}

-- no bytes, or the byte 21 and a duration that is spelled in its plain way
abbrev pub is_plain_duration : List ℕ → Bool
is_plain_duration [] = true
is_plain_duration (separator ∷ span) = is_plain_unsigned span

-- a text where it isn't plain, and nothing where it is
abbrev pub unless_plain : Bool → List ℕ → Option (List ℕ)
unless_plain is_plain text = if is_plain then None else Some text

-- of a TAL: its onset and its duration, each where it isn't spelled in its plain way
pub record TalLayout : Type 0 where
  pub onset : Option (List ℕ)
  pub duration : Option (List ℕ)

-- the bytes spell the TAL, and this is the layout of its spelling
pub record IsLaidTal (bytes : List ℕ) (tal : TalValue) (layout : TalLayout) : Type 0 where
  pub spelled : SpellsTal bytes tal
  pub onset : layout.onset ≡ unless_plain (is_plain_onset spelled.onset) spelled.onset
  pub duration : layout.duration ≡ unless_plain (is_plain_duration spelled.duration) spelled.duration

-- the lane is one spelling of each TAL in order, with these layouts, the byte 0 behind each, then zeros to its end
abbrev pub IsLaidLane : List ℕ → List TalValue → List TalLayout → Type 0
IsLaidLane lane [] [] = are_zeros lane ≡ true
IsLaidLane lane [] (layout ∷ layouts) = ⊥
IsLaidLane lane (tal ∷ tals) [] = ⊥
IsLaidLane lane (tal ∷ tals) (layout ∷ layouts) =
    (bytes : List ℕ) × (rest : List ℕ) × IsLaidTal bytes tal layout × (lane ≡ bytes ++ 0 ∷ rest) × IsLaidLane rest tals layouts
