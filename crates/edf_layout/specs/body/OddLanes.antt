-- The annotation lanes that don't stand as a plain order puts them, and the order that fits a file best.
use Rattle.std.specs.Prelude.{ℕ, ◌+◌, nat_lt, List, [], ◌∷◌, ◌++◌, length, drop, codes, if◌then◌else◌, Option, Some, None, ℤ}
use Rattle.std.specs.List.{flat_map}
use Rattle.std.specs.Str.{bytes_eq}
use Rattle.edf_stream.specs.annotation.Notes.{NoteValue}
use Rattle.edf_verdict.specs.NoteTimes.{duration_text, note_times}
use Rattle.edf_layout.specs.HeadTexts.{spaces_text}
use Rattle.edf_layout.specs.body.BodyLayouts.{TalContent, KeepsTime, SaysNothing, Annotates, PlacedTal, RecordLayout, BodyLayout}
use Rattle.edf_layout.specs.body.PlainOrders.{PlainOrder, OneByOne, ByTime, plain_body}

-- ---- a TAL in words

-- the text that spells an onset, where that isn't the plain one
abbrev pub onset_words : Option (List ℕ) → List ℕ
onset_words None = codes "plain"
onset_words (Some text) = text

-- that which spells a duration, without the byte 21 in front of it
abbrev pub duration_words : Option (List ℕ) → List ℕ
duration_words None = codes "plain"
duration_words (Some text) = drop 1 text

-- what a TAL says: its annotations by their places among all of the file in order
abbrev pub content_words : TalContent → List ℕ
content_words (KeepsTime duration places) =
    codes "time lasting " ++ (duration_text duration ++ (codes " annotations" ++ spaces_text places))
content_words (SaysNothing onset duration) = codes "no text at " ++ note_times onset duration
content_words (Annotates places) = codes "annotations" ++ spaces_text places

-- the line of a TAL
unfoldable pub tal_line : PlacedTal → List ℕ
tal_line placed =
    codes "  onset "
    ++ (onset_words placed.spelling.onset
    ++ (codes " duration "
    ++ (duration_words placed.spelling.duration ++ (32 ∷ (content_words placed.content ++ (10 ∷ []))))))

-- the lines of the TALs of a lane
abbrev pub tal_lines : List PlacedTal → List ℕ
tal_lines tals = flat_map tal_line tals

-- ---- lanes that a plain order has otherwise

-- one of them: its data record, its number among the annotation signals, and its TALs
pub record OddLane : Type 0 where
  pub data_record : ℕ
  pub number : ℕ
  pub tals : List PlacedTal

-- the first list, if there is one
abbrev pub front_of : {X : Type 0} → List (List X) → List X
front_of [] = []
front_of (xs ∷ xss) = xs

-- lane j of data record k, where other lines are written of it than of the lane of a plain order
abbrev pub odd_lane : ℕ → ℕ → List PlacedTal → List PlacedTal → List OddLane
odd_lane k j tals plain =
    if bytes_eq (tal_lines tals) (tal_lines plain)
    then []
    else record { data_record = k; number = j; tals = tals } ∷ []

-- those of data record k, from lane j on
abbrev pub odd_in : ℕ → ℕ → RecordLayout → RecordLayout → List OddLane
odd_in k j [] plains = []
odd_in k j (tals ∷ lanes) plains = odd_lane k j tals (front_of plains) ++ odd_in k (j + 1) lanes (drop 1 plains)

-- those of the data records from number k on
abbrev pub odd_from : ℕ → BodyLayout → BodyLayout → List OddLane
odd_from k [] plains = []
odd_from k (lanes ∷ body) plains = odd_in k 0 lanes (front_of plains) ++ odd_from (k + 1) body (drop 1 plains)

-- those of data records with this layout, with these annotations in order, these sizes of annotation lanes and
-- these starts
unfoldable pub odd_lanes : PlainOrder → List NoteValue → List ℕ → List ℤ → BodyLayout → List OddLane
odd_lanes order notes sizes starts body = odd_from 0 body (plain_body order notes sizes starts)

-- the order that fewer lanes differ from; where as many do, the first one
unfoldable pub base_order : List NoteValue → List ℕ → List ℤ → BodyLayout → PlainOrder
base_order notes sizes starts body =
    if nat_lt (length (odd_lanes ByTime notes sizes starts body)) (length (odd_lanes OneByOne notes sizes starts body))
    then ByTime
    else OneByOne
