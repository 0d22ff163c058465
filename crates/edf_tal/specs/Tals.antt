-- Time-stamped annotation lists (TALs), as they are spelled. EDF+ (2003), "Time-stamped Annotations Lists
-- (TALs) in an 'EDF Annotations' signal".
use Rattle.std.specs.Prelude.{◌≡◌, ℕ, ◌≤◌, ◌⊎◌, ◌==◌, ℤ, pos, IsTrue, List, [], ◌∷◌, ◌++◌, Option, Some, None, IsUtf8}
use Rattle.std.specs.List.{All, list_all, flat_map}
use Rattle.edf_fields.specs.texts.Onsets.{SpellsOnset, IsTime, time_of}

-- a TAL: its onset and, where there is one, its duration, in picoseconds, and its texts
pub record TalValue : Type 0 where
  pub onset : ℤ
  pub duration : Option ℤ
  pub texts : List (List ℕ)

-- the text of an annotation: UTF-8 without control bytes other than 9, 10 and 13 (which of them may stand in a text is this project's profile)
abbrev pub IsText : List ℕ → Type 0
IsText text = IsUtf8 text × All (λ b. (32 ≤ b) ⊎ (b ≡ 9) ⊎ (b ≡ 10) ⊎ (b ≡ 13)) text

-- no duration, or the byte 21 and a time with no sign, in picoseconds (EDF+, "Time-stamped Annotations Lists (TALs) in an 'EDF Annotations' signal": the duration)
abbrev pub SpellsDuration : List ℕ → Option ℤ → Type 0
SpellsDuration bytes None = bytes ≡ []
SpellsDuration bytes (Some v) = (span : List ℕ) × (bytes ≡ 21 ∷ span) × IsTime span × (v ≡ pos (time_of span))

-- one spelling of a TAL, without the byte 0 at its end: an onset, maybe a duration, the byte 20, and each
-- text with the byte 20 behind it
pub record SpellsTal (bytes : List ℕ) (tal : TalValue) : Type 0 where
  pub onset : List ℕ
  pub duration : List ℕ
  pub onset_is : SpellsOnset onset tal.onset
  pub duration_is : SpellsDuration duration tal.duration
  pub texts : All IsText tal.texts
  pub whole : bytes ≡ (onset ++ duration) ++ 20 ∷ flat_map (λ text. text ++ 20 ∷ []) tal.texts

-- the lane is one spelling of each TAL in order, the byte 0 behind each, then zeros to its end
abbrev pub IsLaneOf : List ℕ → List TalValue → Type 0
IsLaneOf lane [] = IsTrue (list_all (λ b. b == 0) lane)
IsLaneOf lane (tal ∷ tals) = (bytes : List ℕ) × (rest : List ℕ) × SpellsTal bytes tal × (lane ≡ bytes ++ 0 ∷ rest) × IsLaneOf rest tals
