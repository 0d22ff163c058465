-- What the code's values say, in the words of the definitions.
use Rattle.std.specs.Prelude.{ℕ, ℤ, List, [], ◌∷◌, Option, Some, None, Result, Ok, Err}
use Rattle.edf_fields.specs.declared.faults.cause.TalCause.{TalCause}
use Rattle.edf_tal.specs.Tals.{TalValue}
use Rattle.edf_tal.specs.Reading.{Item, texts_of, items_of}
use Rattle.edf_tal.specs.declared.tal.Tal.{Tal}
use Rattle.edf_tal.specs.declared.tals.Tals.{Tals}
use Rattle.edf_tal.specs.declared.tal_texts.TalTexts.{TalTexts}
use Rattle.edf_tal.specs.declared.start.StartCause.{StartCause}
use Rattle.edf_tal.specs.declared.start.StartCause.TheVariants as start

-- a TAL
abbrev pub tal_view : Tal → TalValue
tal_view tal = record { onset = tal.onset; duration = tal.duration; texts = texts_of tal.body.now }

-- an item
abbrev pub item_view : Result Tal TalCause → Item
item_view (Ok tal) = Ok (tal_view tal)
item_view (Err cause) = Err cause

-- the items that are still to come
abbrev pub items_left : Tals → List Item
items_left tals = items_of tals.rest.now

-- the texts that are still to come
abbrev pub texts_left : TalTexts → List (List ℕ)
texts_left texts = texts_of texts.rest.now

-- the onset of a TAL whose first text is empty. EDF+ (2003), "Time keeping of data records"
abbrev pub kept_time : ℤ → List (List ℕ) → Result ℤ StartCause
kept_time onset [] = Err start.NoTimekeeping
kept_time onset ([] ∷ texts) = Ok onset
kept_time onset ((b ∷ text) ∷ texts) = Err start.NoTimekeeping

-- where a data record starts, by the first item of the lane of its first annotation signal
abbrev pub start_by : Option Item → Result ℤ StartCause
start_by None = Err start.NoTimekeeping
start_by (Some (Ok tal)) = kept_time tal.onset tal.texts
start_by (Some (Err cause)) = Err (start.Tal cause)

-- the first item, where there is one
abbrev pub first_of : List Item → Option Item
first_of [] = None
first_of (item ∷ items) = Some item

-- where a data record starts, by the items of that lane: by the first one alone
abbrev pub start_of : List Item → Result ℤ StartCause
start_of items = start_by (first_of items)
