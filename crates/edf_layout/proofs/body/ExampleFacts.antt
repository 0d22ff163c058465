-- The plain orders by example.
use Rattle.std.proofs.Common.{◌≡◌, ℕ, ℤ, pos, List, [], ◌∷◌, None, refl, codes}
use Rattle.std.specs.Fmt.{digits}
use Rattle.edf_stream.specs.annotation.Notes.{NoteValue}
use Rattle.edf_layout.specs.body.PlainOrders.{OneByOne, ByTime, plain_lanes, plain_time, tal_of_note, tal_of_start}

abbrev note : ℕ → List ℕ → NoteValue
note onset text = record { onset = pos onset; duration = None; text = text }

-- data records that start at 0 s, 1 s and 2.5 s
abbrev starts : List ℤ
starts = pos 0 ∷ pos 1000000000000 ∷ pos 2500000000000 ∷ []

abbrev first : NoteValue
first = note 1200000000000 (codes "a")

abbrev second : NoteValue
second = note 1300000000000 (codes "b")

abbrev third : NoteValue
third = note 9000000000000 (codes "c")

abbrev notes : List NoteValue
notes = first ∷ second ∷ third ∷ []

pub one_by_one : plain_lanes OneByOne notes (20 ∷ []) starts ≡
    ((tal_of_start (pos 0) ∷ tal_of_note first ∷ []) ∷ [])
    ∷ ((tal_of_start (pos 1000000000000) ∷ tal_of_note second ∷ []) ∷ [])
    ∷ ((tal_of_start (pos 2500000000000) ∷ tal_of_note third ∷ []) ∷ [])
    ∷ []
unfolding plain_lanes plain_time digits
one_by_one = refl

-- more annotations than data records
pub begun_again : plain_lanes OneByOne notes (20 ∷ []) (pos 0 ∷ pos 1000000000000 ∷ []) ≡
    ((tal_of_start (pos 0) ∷ tal_of_note first ∷ tal_of_note third ∷ []) ∷ [])
    ∷ ((tal_of_start (pos 1000000000000) ∷ tal_of_note second ∷ []) ∷ [])
    ∷ []
unfolding plain_lanes plain_time digits
begun_again = refl

-- 24 bytes have room for the TAL that keeps the time, of 5 bytes, and two of 8
pub by_time : plain_lanes ByTime notes (24 ∷ []) starts ≡
    ((tal_of_start (pos 0) ∷ []) ∷ [])
    ∷ ((tal_of_start (pos 1000000000000) ∷ tal_of_note first ∷ tal_of_note second ∷ []) ∷ [])
    ∷ ((tal_of_start (pos 2500000000000) ∷ tal_of_note third ∷ []) ∷ [])
    ∷ []
unfolding plain_lanes plain_time digits
by_time = refl

-- with 20 bytes the second of them goes on into the next data record, where it leaves no room for the third one
pub on_into_records : plain_lanes ByTime notes (20 ∷ []) starts ≡
    ((tal_of_start (pos 0) ∷ tal_of_note third ∷ []) ∷ [])
    ∷ ((tal_of_start (pos 1000000000000) ∷ tal_of_note first ∷ []) ∷ [])
    ∷ ((tal_of_start (pos 2500000000000) ∷ tal_of_note second ∷ []) ∷ [])
    ∷ []
unfolding plain_lanes plain_time digits
on_into_records = refl

-- and with a second lane into this one
pub on_into_lanes : plain_lanes ByTime notes (13 ∷ 8 ∷ []) starts ≡
    ((tal_of_start (pos 0) ∷ []) ∷ [] ∷ [])
    ∷ ((tal_of_start (pos 1000000000000) ∷ tal_of_note first ∷ []) ∷ (tal_of_note second ∷ []) ∷ [])
    ∷ ((tal_of_start (pos 2500000000000) ∷ tal_of_note third ∷ []) ∷ [] ∷ [])
    ∷ []
unfolding plain_lanes plain_time digits
on_into_lanes = refl
