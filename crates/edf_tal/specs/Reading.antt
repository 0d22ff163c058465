-- What a lane gives to a reader that goes from the left: its TALs, and the first cause why it isn't one.
use Rattle.std.specs.Prelude.{◌≡◌, ℕ, ◌-◌, ◌<◌, Bool, true, false, not, ◌==◌, nat_lt, ◌&&◌, ◌||◌, ℤ, List, [], ◌∷◌, ◌++◌, length, drop, slice_index, Option, Some, None, Result, Ok, Err, if◌then◌else◌}
use Rattle.std.specs.List.{slice_split, before_first, after_first, position_or_len, list_any, list_all, flat_map}
use Rattle.std.specs.Option.{ok_or}
use Rattle.std.specs.Str.{is_utf8}
use Rattle.edf_fields.specs.texts.OnsetsReading.{onset_of, span_of}
use Rattle.edf_fields.specs.declared.faults.cause.TalCause.{TalCause}
use Rattle.edf_fields.specs.declared.faults.cause.TalCause.TheVariants.{BadOnset, BadDuration, NoEnd, NotUtf8, ControlByte, NotZeroFilled}
use Rattle.edf_tal.specs.Tals.{TalValue}

-- a byte from 0 to 31 other than 9, 10 and 13: no text has it
abbrev pub is_control : ℕ → Bool
is_control b = nat_lt b 32 && not (b == 9 || (b == 10 || b == 13))

-- each text with the byte 20 behind it
abbrev pub ended : List (List ℕ) → List ℕ
ended texts = flat_map (λ text. text ++ 20 ∷ []) texts

-- zeros alone
abbrev pub are_zeros : List ℕ → Bool
are_zeros bytes = list_all (λ b. b == 0) bytes

-- what stands before the first byte c
abbrev pub until : ℕ → List ℕ → List ℕ
until c bytes = before_first (λ b. b == c) bytes

-- what stands behind it
abbrev pub behind : ℕ → List ℕ → List ℕ
behind c bytes = after_first (λ b. b == c) bytes

-- the pieces between the bytes c
abbrev pub pieces : ℕ → List ℕ → List (List ℕ)
pieces c bytes = slice_split (λ b. b == c) bytes

-- one step after the other, up to the first cause
infixl 10 ◌then◌
abbrev pub ◌then◌ : {A B : Type 0} → Result A TalCause → (A → Result B TalCause) → Result B TalCause
(Ok x) then f = f x
(Err cause) then f = Err cause

-- the duration in what stands before the first byte 20: none where no byte 21 is there
abbrev pub duration_of : List ℕ → Result (Option ℤ) TalCause
duration_of head =
    if nat_lt (position_or_len (λ b. b == 21) head) (length head)
    then (ok_or (span_of (behind 21 head)) BadDuration then λ duration. Ok (Some duration))
    else Ok None

-- all but the last one
abbrev pub closed : List (List ℕ) → List (List ℕ)
closed [] = []
closed (piece ∷ []) = []
closed (piece ∷ next ∷ more) = piece ∷ closed (next ∷ more)

-- the texts, each of which ends before a byte 20
abbrev pub texts_of : List ℕ → List (List ℕ)
texts_of body = closed (pieces 20 body)

-- a text is none of the profile: first its encoding is looked at, then its control bytes
abbrev pub judge_text : List ℕ → Result (Unit {0}) TalCause
judge_text text = if is_utf8 text then (if list_any is_control text then Err ControlByte else Ok tt) else Err NotUtf8

-- a control byte that ends no text
abbrev pub is_foreign : ℕ → Bool
is_foreign b = is_control b && not (b == 20)

-- text by text
abbrev pub judge_texts : List (List ℕ) → Result (Unit {0}) TalCause
judge_texts [] = Ok tt
judge_texts (text ∷ texts) = judge_text text then λ _. judge_texts texts

-- a TAL of what stands before its first byte 20, and what stands behind it
unfoldable pub tal_of_parts : List ℕ → List ℕ → Result TalValue TalCause
tal_of_parts head body =
    ok_or (onset_of (until 21 head)) BadOnset then λ onset.
    duration_of head then λ duration.
    judge_texts (texts_of body) then λ _.
    Ok (record { onset = onset; duration = duration; texts = texts_of body })

-- a TAL of what stands before a byte 0: it ends with the byte 20
abbrev pub tal_of : List ℕ → Result TalValue TalCause
tal_of piece = if slice_index piece (length piece - 1) == 20 then tal_of_parts (until 20 piece) (behind 20 piece) else Err NoEnd

-- nothing, or the byte 20 at the end
abbrev pub IsClosed : List ℕ → Type 0
IsClosed body = 0 < length body → slice_index body (length body - 1) ≡ 20

-- what a reader gives at one place
abbrev pub Item : Type 0
Item = Result TalValue TalCause

-- an item before others; a cause is the last one
abbrev pub onto : Item → List Item → List Item
onto (Ok tal) items = Ok tal ∷ items
onto (Err cause) items = Err cause ∷ []

-- there is no byte
abbrev pub is_nil : List ℕ → Bool
is_nil [] = true
is_nil (b ∷ bytes) = false

-- the items of the pieces between the bytes 0: where a piece is empty only zeros may follow, and the last
-- piece has no byte 0 behind it
abbrev pub items_of_pieces : List (List ℕ) → List Item
items_of_pieces [] = []
items_of_pieces (last ∷ []) = if is_nil last then [] else Err NoEnd ∷ []
items_of_pieces (piece ∷ next ∷ more) =
    if is_nil piece then (if list_all is_nil (next ∷ more) then [] else Err NotZeroFilled ∷ [])
    else onto (tal_of piece) (items_of_pieces (next ∷ more))

-- the items of a lane
unfoldable pub items_of : List ℕ → List Item
items_of lane = items_of_pieces (pieces 0 lane)

-- what stands behind the first byte 20 is the end of an empty text, and zeros
abbrev pub ends_alone : List ℕ → Bool
ends_alone texts = nat_lt 1 (length texts) && (slice_index texts 0 == 20 && are_zeros (drop 1 texts))

-- the onset of a lane that holds the TAL that keeps the time and nothing else
unfoldable pub time_alone_of : List ℕ → Option ℤ
time_alone_of lane =
    if nat_lt (position_or_len (λ b. b == 20) lane) (length lane) && ends_alone (behind 20 lane)
    then onset_of (until 20 lane)
    else None
