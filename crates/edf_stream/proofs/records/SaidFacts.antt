-- What a data record says, in words and as it is read.
use Rattle.std.proofs.Common.{◌≡◌, ℕ, zero, suc, ℤ, ◌<◌, List, [], ◌∷◌, ◌++◌, map, drop, length, Option, Ok, Err, refl, sym, ap, ◌∙◌, subst, append_assoc, length-append, arith}
use Rattle.std.specs.List.{All, flat_map}
use Rattle.std.proofs.lemmas.List.{map-append}
use Rattle.std.proofs.lemmas.List.Elements.{All-nil, All-cons, All-head, All-tail}
use Rattle.edf_header.specs.Heads.{Head}
use Rattle.edf_tal.specs.Tals.{TalValue, IsLaneOf}
use Rattle.edf_tal.specs.Timekeeping.{StartsAt}
use Rattle.edf_tal.specs.Reading.{items_of}
use Rattle.edf_tal.specs.Views.{kept_time, start_of}
use Rattle.edf_tal.proofs.ForCallers.{lane-read, starts-at}
use Rattle.edf_stream.specs.records.Records.{record_at, annotation_lanes}
use Rattle.edf_stream.specs.annotation.Notes.{NoteValue, notes_of_tal, AreLanesOf, SaysRecord, SayRecords, together, HasNotes, moved_by}
use Rattle.edf_stream.specs.annotation.NotesReading.{notes_of_items, notes_of_lane, notes_of_lanes, notes_in, notes_before, moved_notes_in, moved_notes_before, notes_of}
use Rattle.edf_stream.specs.times.Starts.{file_start}
use Rattle.edf_stream.specs.times.StartsReading.{start_by_lanes, said_start, or_zero, start_in}
use Rattle.edf_stream.proofs.annotation.ItemFacts.{IsLane}

-- the TAL that keeps the time, and the annotations of it
timed : ℤ → Option ℤ → List (List ℕ) → TalValue
timed start duration texts = record { onset = start; duration = duration; texts = [] ∷ texts }

items-say : (tals : List TalValue) → notes_of_items (map Ok tals) ≡ flat_map notes_of_tal tals
items-say [] = refl
items-say (tal ∷ tals) = ap (λ notes. notes_of_tal tal ++ notes) (items-say tals)

lane-says : (lane : List ℕ) (tals : List TalValue) → IsLaneOf lane tals → notes_of_lane lane ≡ flat_map notes_of_tal tals
lane-says lane tals is = ap notes_of_items (lane-read tals lane is) ∙ items-say tals

lanes-say : (lanes : List (List ℕ)) (others : List (List TalValue)) → AreLanesOf lanes others → notes_of_lanes lanes ≡ flat_map (λ tals. flat_map notes_of_tal tals) others
lanes-say [] [] are = refl
lanes-say [] (tals ∷ others) are = absurd are
lanes-say (lane ∷ lanes) [] are = absurd are
lanes-say (lane ∷ lanes) (tals ∷ others) are =
    ap (λ notes. notes ++ notes_of_lanes lanes) (lane-says lane tals are.0) ∙ ap (λ notes. flat_map notes_of_tal tals ++ notes) (lanes-say lanes others are.1)

-- what is said in words is what is read: the annotations
pub notes-said : (h : Head) (bytes : List ℕ) (start : ℤ) (notes : List NoteValue) → SaysRecord h bytes start notes → notes ≡ notes_in h bytes
unfolding notes_in
notes-said h bytes start notes says =
    let first : TalValue = record { onset = start; duration = says.duration; texts = [] ∷ says.texts } in
    let all : notes_of_lanes (annotation_lanes h.signals bytes) ≡ flat_map (λ tals. flat_map notes_of_tal tals) ((first ∷ says.beside) ∷ says.others) = lanes-say (annotation_lanes h.signals bytes) ((first ∷ says.beside) ∷ says.others) says.lanes in
    let rest = notes_of_tal (record { onset = start; duration = says.duration; texts = says.texts }) in
    says.notes_are ∙ sym (append_assoc rest (flat_map notes_of_tal says.beside) (flat_map (λ tals. flat_map notes_of_tal tals) says.others)) ∙ sym (ap (drop 1) all)

-- the first of lanes of TALs
first-lane : (lanes : List (List ℕ)) (tals : List TalValue) (others : List (List TalValue)) → AreLanesOf lanes (tals ∷ others)
    → (lane : List ℕ) × (more : List (List ℕ)) × (lanes ≡ lane ∷ more) × IsLaneOf lane tals
first-lane [] tals others are = absurd are
first-lane (lane ∷ lanes) tals others are = (lane, lanes, refl, are.0)

lane-starts : (lane : List ℕ) (start : ℤ) (duration : Option ℤ) (texts : List (List ℕ)) (tals : List TalValue)
    → IsLaneOf lane (record { onset = start; duration = duration; texts = [] ∷ texts } ∷ tals) → StartsAt lane start
lane-starts lane start duration texts tals is = record {
  bytes = is.0;
  rest = is.1;
  tal = record { onset = start; duration = duration; texts = [] ∷ texts };
  more = texts;
  spelled = is.2;
  whole = is.3;
  empty = refl;
  onset = refl;
}

-- the lane by which a data record starts
pub begins : (h : Head) (bytes : List ℕ) (start : ℤ) (notes : List NoteValue) → SaysRecord h bytes start notes
    → (lane : List ℕ) × (more : List (List ℕ)) × (annotation_lanes h.signals bytes ≡ lane ∷ more) × StartsAt lane start
begins h bytes start notes says =
    let first : TalValue = record { onset = start; duration = says.duration; texts = [] ∷ says.texts } in
    let found = first-lane (annotation_lanes h.signals bytes) (first ∷ says.beside) says.others says.lanes in
    (found.0, found.1, found.2, lane-starts found.0 start says.duration says.texts says.beside found.3)

-- the start
pub start-said : (h : Head) (bytes : List ℕ) (start : ℤ) (notes : List NoteValue) → SaysRecord h bytes start notes → said_start h bytes ≡ Ok start
unfolding said_start
start-said h bytes start notes says =
    let found = begins h bytes start notes says in
    ap start_by_lanes found.2 ∙ (starts-at (start_of (items_of found.0)) found.0 start refl).1 found.3

pub start-is : (h : Head) (bytes : List ℕ) (start : ℤ) (notes : List NoteValue) → SaysRecord h bytes start notes → start ≡ start_in h bytes
start-is h bytes start notes says = sym (ap or_zero (start-said h bytes start notes says))

-- its lanes are lanes of TALs
are-lanes : (lanes : List (List ℕ)) (others : List (List TalValue)) → AreLanesOf lanes others → All IsLane lanes
are-lanes [] others are = All-nil IsLane
are-lanes (lane ∷ lanes) [] are = absurd are
are-lanes (lane ∷ lanes) (tals ∷ others) are = All-cons IsLane lane lanes (tals, are.0) (are-lanes lanes others are.1)

pub lanes-said : (h : Head) (bytes : List ℕ) (start : ℤ) (notes : List NoteValue) → SaysRecord h bytes start notes → All IsLane (annotation_lanes h.signals bytes)
lanes-said h bytes start notes says =
    let first : TalValue = record { onset = start; duration = says.duration; texts = [] ∷ says.texts } in
    are-lanes (annotation_lanes h.signals bytes) ((first ∷ says.beside) ∷ says.others) says.lanes

-- and back: the TALs of lanes that are lanes of TALs
tals-of : (lanes : List (List ℕ)) → All IsLane lanes → (others : List (List TalValue)) × AreLanesOf lanes others
tals-of [] all = ([], tt)
tals-of (lane ∷ lanes) all =
    let is = All-head IsLane lane lanes all in
    let rest = tals-of lanes (All-tail IsLane lane lanes all) in
    (is.0 ∷ rest.0, (is.1, rest.1))

-- a TAL that keeps the time
keeps-time : (onset start : ℤ) (texts : List (List ℕ)) → kept_time onset texts ≡ Ok start → (more : List (List ℕ)) × (texts ≡ [] ∷ more) × (onset ≡ start)
keeps-time onset start [] e = absurd (let z : Err _ ≡ Ok start = e in cc)
keeps-time onset start ([] ∷ texts) e = (texts, refl, let z : Ok onset ≡ Ok start = e in cc)
keeps-time onset start ((b ∷ text) ∷ texts) e = absurd (let z : Err _ ≡ Ok start = e in cc)

first-keeps : (tals : List TalValue) (start : ℤ) → start_of (map Ok tals) ≡ Ok start
    → (duration : Option ℤ) × (texts : List (List ℕ)) × (more : List TalValue) × (tals ≡ timed start duration texts ∷ more)
unfolding timed
first-keeps [] start e = absurd (let z : Err _ ≡ Ok start = e in cc)
first-keeps (tal ∷ tals) start e =
    let k = keeps-time tal.onset start tal.texts e in
    let whole : tal ≡ timed start tal.duration k.0 =
    ap (λ texts. record { onset = tal.onset; duration = tal.duration; texts = texts }) k.1 ∙ ap (λ onset. record { onset = onset; duration = tal.duration; texts = [] ∷ k.0 }) k.2 in
    (tal.duration, k.0, tals, ap (λ (x : TalValue). x ∷ tals) whole)

-- what lanes say that are lanes of TALs, of which the first keeps the time
lanes-keep : (lanes : List (List ℕ)) (start : ℤ) → All IsLane lanes → start_by_lanes lanes ≡ Ok start
    → (duration : Option ℤ) × (texts : List (List ℕ)) × (tals : List TalValue) × (others : List (List TalValue)) × AreLanesOf lanes ((timed start duration texts ∷ tals) ∷ others)
lanes-keep [] start all e = absurd (let z : Err _ ≡ Ok start = e in cc)
lanes-keep (lane ∷ lanes) start all e =
    let is = All-head IsLane lane lanes all in
    let rest = tals-of lanes (All-tail IsLane lane lanes all) in
    let at : start_of (map Ok is.0) ≡ Ok start = sym (ap start_of (lane-read is.0 lane is.1)) ∙ e in
    let first = first-keeps is.0 start at in
    (first.0, first.1, first.2, rest.0, (subst (IsLaneOf lane) first.3 is.1, rest.1))

-- a data record that is read so says so
pub record-says : (h : Head) (bytes : List ℕ) (start : ℤ) → All IsLane (annotation_lanes h.signals bytes) → said_start h bytes ≡ Ok start → SaysRecord h bytes start (notes_in h bytes)
unfolding said_start timed
record-says h bytes start all said =
    let r = lanes-keep (annotation_lanes h.signals bytes) start all said in
    let notes = notes_of_tal (record { onset = start; duration = r.0; texts = r.1 }) ++ flat_map (λ tals. flat_map notes_of_tal tals) (r.2 ∷ r.3) in
    let says : SaysRecord h bytes start notes = record { duration = r.0; texts = r.1; beside = r.2; others = r.3; lanes = r.4; notes_are = refl } in
    subst (SaysRecord h bytes start) (notes-said h bytes start notes says) says

-- the annotations of all data records, by those of each
unfoldable pub read-notes : List ℕ → Head → ℕ → List NoteValue
read-notes file h k = notes_in h (record_at file h k)

pub together-same : (notes others : ℕ → List NoteValue) (n : ℕ) → ((k : ℕ) → k < n → notes k ≡ others k) → together notes n ≡ together others n
together-same notes others zero same = refl
together-same notes others (suc n) same =
    ap (λ front. front ++ notes n) (together-same notes others n (λ k lt. same k (omega (arith, lt)))) ∙ ap (λ last. together others n ++ last) (same n (omega arith))

pub together-count : (file : List ℕ) (h : Head) (n : ℕ) → length (together (read-notes file h) n) ≡ notes_before file h n
unfolding read-notes
together-count file h zero = refl
together-count file h (suc n) =
    let before = together-count file h n in
    omega (arith, before, length-append (together (read-notes file h) n) (notes_in h (record_at file h n)))

-- they are those that are read, with other onsets
together-moved : (file : List ℕ) (h : Head) (n : ℕ) → moved_notes_before file h n ≡ map (moved_by (file_start h)) (together (read-notes file h) n)
unfolding read-notes moved_notes_in
together-moved file h zero = refl
together-moved file h (suc n) =
    ap (λ front. front ++ map (moved_by (file_start h)) (notes_in h (record_at file h n))) (together-moved file h n)
    ∙ sym (map-append (moved_by (file_start h)) (together (read-notes file h) n) (notes_in h (record_at file h n)))

pub notes-moved : (file : List ℕ) (h : Head) → notes_of file h ≡ map (moved_by (file_start h)) (together (read-notes file h) h.records)
unfolding notes_of
notes-moved file h = together-moved file h h.records

-- of data records that say annotations these are read
pub say-read : (file : List ℕ) (h : Head) (starts : ℕ → ℤ) (notes : ℕ → List NoteValue) → SayRecords file h starts notes
    → together notes h.records ≡ together (read-notes file h) h.records
unfolding read-notes
say-read file h starts notes say =
    together-same notes (read-notes file h) h.records (λ k lt. notes-said h (record_at file h k) (starts k) (notes k) (say k lt))

pub has-read : (file : List ℕ) (h : Head) (all : List NoteValue) → HasNotes file h all → all ≡ together (read-notes file h) h.records
has-read file h all has = has.all_are ∙ say-read file h has.starts has.notes has.say
