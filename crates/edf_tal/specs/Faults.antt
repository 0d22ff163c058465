-- Why a lane is no list of TALs: the first cause, in words.
use Rattle.std.specs.Prelude.{◌≡◌, ◌≢◌, ℕ, ◌<◌, ◌==◌, true, false, ℤ, List, [], ◌∷◌, ◌++◌, ◌⊎◌, length, Option, IsUtf8, All}
use Rattle.std.specs.List.{list_any, position_or_len}
use Rattle.edf_fields.specs.texts.Onsets.{SpellsOnset}
use Rattle.edf_fields.specs.texts.OnsetsReading.{SpellsSpan}
use Rattle.edf_fields.specs.declared.faults.cause.TalCause.{TalCause}
use Rattle.edf_fields.specs.declared.faults.cause.TalCause.TheVariants.{BadOnset, BadDuration, NoEnd, NotUtf8, ControlByte, NotZeroFilled}
use Rattle.edf_tal.specs.Tals.{TalValue, SpellsTal, SpellsDuration, IsText, IsLaneOf}
use Rattle.edf_tal.specs.Reading.{until, behind, IsClosed, is_control, ended, are_zeros}

-- no byte is c
abbrev pub Lacks : ℕ → List ℕ → Type 0
Lacks c [] = Unit {0}
Lacks c (b ∷ bytes) = ((b == c) ≡ false) × Lacks c bytes

-- the lane begins with these bytes and the byte 0, its first one; the bytes end with the byte 20, and the
-- first byte 20 stands between head and body
pub record BeginsWith (lane head body : List ℕ) : Type 0 where
  pub rest : List ℕ
  pub whole : lane ≡ (head ++ 20 ∷ body) ++ 0 ∷ rest
  pub no_zero : Lacks 0 (head ++ 20 ∷ body)
  pub no_end : Lacks 20 head
  pub closed : IsClosed body

-- the head spells an onset, and no duration or one behind the byte 21
pub record SpellsHead (head : List ℕ) : Type 0 where
  pub onset : List ℕ
  pub duration : List ℕ
  pub onset_value : ℤ
  pub duration_value : Option ℤ
  pub onset_is : SpellsOnset onset onset_value
  pub duration_is : SpellsDuration duration duration_value
  pub whole : head ≡ onset ++ duration

-- the body has texts, each with the byte 20 behind it, and this one is the first that is none
pub record FirstBadText (body text : List ℕ) : Type 0 where
  pub before : List (List ℕ)
  pub after : List ℕ
  pub whole : body ≡ ended before ++ (text ++ 20 ∷ after)
  pub good : All IsText before
  pub no_end : Lacks 20 text

-- the lane's first TAL has this fault, or a bad filling stands in its place; each cause stands behind those
-- that are looked for before it
abbrev pub HasFault : List ℕ → TalCause → Type 0
HasFault lane NotZeroFilled = (rest : List ℕ) × (lane ≡ 0 ∷ rest) × (are_zeros rest ≡ false)
HasFault lane NoEnd = (b : ℕ) × (rest : List ℕ) × (lane ≡ b ∷ rest) × (b ≢ 0) × ((head body : List ℕ) → BeginsWith lane head body → ⊥)
HasFault lane BadOnset = (head : List ℕ) × (body : List ℕ) × BeginsWith lane head body × ((v : ℤ) → SpellsOnset (until 21 head) v → ⊥)
HasFault lane BadDuration =
    (head : List ℕ) × (body : List ℕ) × BeginsWith lane head body × ((v : ℤ) × SpellsOnset (until 21 head) v)
    × (position_or_len (λ b. b == 21) head < length head) × ((v : ℤ) → SpellsSpan (behind 21 head) v → ⊥)
HasFault lane NotUtf8 =
    (head : List ℕ) × (body : List ℕ) × (text : List ℕ) × BeginsWith lane head body × SpellsHead head × FirstBadText body text × (IsUtf8 text → ⊥)
HasFault lane ControlByte =
    (head : List ℕ) × (body : List ℕ) × (text : List ℕ) × BeginsWith lane head body × SpellsHead head × FirstBadText body text × IsUtf8 text × (list_any is_control text ≡ true)

-- the lane is one spelling of each TAL in order, the byte 0 behind each, and what follows has this fault
abbrev pub FaultAfter : List ℕ → List TalValue → TalCause → Type 0
FaultAfter lane [] cause = HasFault lane cause
FaultAfter lane (tal ∷ tals) cause = (bytes : List ℕ) × (rest : List ℕ) × SpellsTal bytes tal × (lane ≡ bytes ++ 0 ∷ rest) × FaultAfter rest tals cause

-- a lane is one of some list of TALs, or it has a first fault
abbrev pub HasListOrFault : Type 0
HasListOrFault =
    (lane : List ℕ)
    → ((tals : List TalValue) × IsLaneOf lane tals) ⊎ ((tals : List TalValue) × (cause : TalCause) × FaultAfter lane tals cause)
