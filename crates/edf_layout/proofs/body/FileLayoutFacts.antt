-- A file has one layout, and its lines tell it.
use Rattle.std.proofs.Common.{◌≡◌, ℕ, ℤ, pos, negsuc, Bool, true, false, cond, suc, ◌+◌, ◌<◌, ◌≤◌, ◌^◌, ◌<ℤ◌, ◌≤ℤ◌, IsTrue, List, [], ◌∷◌, length, map, filter, drop, slice_get, slice_index, Option, Some, None, codes, arith, refl, ap, ◌∙◌, sym, subst}
use Rattle.std.specs.Ordering.{is_lt}
use Rattle.std.proofs.lemmas.Int.{ints}
use Rattle.std.proofs.lemmas.List.{length-map}
use Rattle.edf_fields.specs.texts.Onsets.{SpellsOnset, IsTime, time_of}
use Rattle.edf_fields.specs.texts.Numbers.{has_sign}
use Rattle.edf_fields.proofs.ForCallers.{onset_bytes_from, span_bytes_from, onset_is_spelled, span_is_spelled, onset_small, span_small}
use Rattle.edf_header.specs.Heads.{SignalHead, Head, is_annotations}
use Rattle.edf_header.proofs.ForCallers.{conforming_is_sound}
use Rattle.edf_tal.specs.Tals.{TalValue, SpellsDuration, SpellsTal}
use Rattle.edf_stream.specs.Conforming.{Conforms}
use Rattle.edf_stream.specs.annotation.Notes.{NoteValue, notes_of_tal}
use Rattle.edf_stream.specs.records.Records.{record_at, lane_of, annotation_lanes}
use Rattle.edf_layout.specs.PlainLaws.{is_plain_onset}
use Rattle.edf_layout.specs.body.BodyLayouts.{PlacedTal, RecordLayout, BodyLayout, AreLaidLanes, spellings_in, contents_in, content_with, content_of, timekeeping_of, lane_contents, first_contents, record_contents, IsRecordLayout, HasBodyLayout}
use Rattle.edf_layout.specs.body.LaneLayouts.{TalLayout, IsLaidTal, IsLaidLane, is_plain_duration, unless_plain}
use Rattle.edf_layout.specs.body.NoteOrders.{note_cmp, place_of}
use Rattle.edf_layout.proofs.CutLineFacts.{High}
use Rattle.edf_layout.proofs.body.ContentFacts.{not-nil, cons-first, cons-rest}
use Rattle.edf_layout.proofs.body.LayoutFacts.{spelled_of, said_of}
use Rattle.edf_layout.proofs.body.MeaningFacts.{one-notes}
use Rattle.edf_layout.proofs.body.OrderFacts.{place-cons}
use Rattle.edf_layout.proofs.body.OddLaneFacts.{RecordFits, BodyFits, SameShape, AreFew}
use Rattle.edf_layout.proofs.body.TalLineFacts.{Near, NearIf, AllFew, ContentFits, Spells, OnsetFits, DurationFits, TalFits, AllTalsFit}

-- ---- the lines of a TAL can be written

-- a place isn't behind the last annotation
place-low : (xs : List NoteValue) (n : NoteValue) → place_of xs n ≤ length xs
place-low [] n = omega arith
place-low (x ∷ xs) n =
    let one = place-cons x xs n in
    let rest = place-low xs n in
    let here = most (is_lt (note_cmp x n)) in
    omega (arith, one, rest, here)
  where
    most : (b : Bool) → cond b 1 0 ≤ 1
    most true = omega arith
    most false = omega arith

pub places-few : (notes some : List NoteValue) → length notes < 10 ^ 64 → AllFew (map (place_of notes) some)
places-few notes [] few = tt
places-few notes (n ∷ some) few = ((let low = place-low notes n in omega (arith, low, few)), places-few notes some few)

-- a time within the bounds of a field
near-onset : (t : List ℕ) (v : ℤ) → SpellsOnset t v → Near v
near-onset t v h = (let low = onset_small t v h in omega (arith, low))

near-span : (v : ℤ) → pos 0 ≤ℤ v → v <ℤ pos (10 ^ 21) → Near v
near-span (pos n) least low = (let e : n < 10 ^ 21 = omega (arith, ints, low) in omega (arith, e))
near-span (negsuc n) least low = absurd (omega (arith, ints, least))

pub near-duration : (t : List ℕ) (v : Option ℤ) → SpellsDuration t v → NearIf v
near-duration t None h = tt
near-duration t (Some v) (span, is, time, value) = (let small = span_small span v (time, value) in near-span v small.0 small.1)

-- bytes from the plus on
high-from : (t : List ℕ) → ((k : ℕ) → k < length t → 43 ≤ slice_index t k) → High t
high-from [] h = tt
high-from (b ∷ bs) h = (h 0 (omega arith), high-from bs (λ k low. h (suc k) (omega arith)))

onset-spells : (t : List ℕ) (v : ℤ) → SpellsOnset t v → Spells t
onset-spells t v h = (
  high-from t (λ k within. onset_bytes_from t v ((onset_is_spelled t v).1 h) k within),
  λ e. absurd (let sign : IsTrue (has_sign (codes "plain")) = subst (λ u. IsTrue (has_sign u)) e h.0 in let z : false ≡ true = sign in cc),
)

span-spells : (t : List ℕ) (v : ℤ) → IsTime t → v ≡ pos (time_of t) → Spells t
span-spells t v time value = (
  high-from t (λ k within. let b = span_bytes_from t v ((span_is_spelled t v).1 (time, value)) k within in omega (arith, b)),
  λ e. absurd (let is : IsTime (codes "plain") = subst IsTime e time in let first = is.0.0 0 (omega arith) in letter first),
)
  where
    letter : (48 ≤ 112) × (112 ≤ 57) → ⊥
    letter h = (let z = h.1 in omega (arith, z))

onset-unless : (b : Bool) (t : List ℕ) (o : Option (List ℕ)) → o ≡ unless_plain b t → Spells t → OnsetFits o
onset-unless true t o e h = subst OnsetFits (sym e) tt
onset-unless false t o e h = subst OnsetFits (sym e) h

duration-unless : (t : List ℕ) (v : Option ℤ) (o : Option (List ℕ)) → SpellsDuration t v → o ≡ unless_plain (is_plain_duration t) t → DurationFits o
duration-unless t None o h e = subst DurationFits (sym (e ∙ ap (λ u. unless_plain (is_plain_duration u) u) h)) tt
duration-unless t (Some v) o (span, is, time, value) e =
    either (is_plain_duration (21 ∷ span)) (e ∙ ap (λ u. unless_plain (is_plain_duration u) u) is)
  where
    either : (b : Bool) → o ≡ unless_plain b (21 ∷ span) → DurationFits o
    either true same = subst DurationFits (sym same) tt
    either false same = subst DurationFits (sym same) (refl, span-spells span v time value)

-- what a TAL says that is spelled
content-fits : (notes : List NoteValue) (bytes : List ℕ) (tal : TalValue) → length notes < 10 ^ 64 → SpellsTal bytes tal → ContentFits (content_of notes tal)
content-fits notes bytes tal few s = cases tal.texts (near-onset s.onset tal.onset s.onset_is) (near-duration s.duration tal.duration s.duration_is)
  where
    cases : (texts : List (List ℕ)) → Near tal.onset → NearIf tal.duration → ContentFits (content_with notes tal.onset tal.duration texts)
    cases [] onset duration = (onset, duration)
    cases (t ∷ ts) onset duration = places-few notes (notes_of_tal (record { onset = tal.onset; duration = tal.duration; texts = t ∷ ts })) few

time-fits : (notes : List NoteValue) (bytes : List ℕ) (tal : TalValue) → length notes < 10 ^ 64 → SpellsTal bytes tal → ContentFits (timekeeping_of notes tal)
time-fits notes bytes tal few s = (
  near-duration s.duration tal.duration s.duration_is,
  places-few notes (notes_of_tal (record { onset = tal.onset; duration = tal.duration; texts = drop 1 tal.texts })) few,
)

tal-fits : (bytes : List ℕ) (tal : TalValue) (p : PlacedTal) → IsLaidTal bytes tal p.spelling → ContentFits p.content → TalFits p
tal-fits bytes tal p laid content = record {
  onset = onset-unless (is_plain_onset (laid.spelled).onset) (laid.spelled).onset p.spelling.onset laid.onset (onset-spells (laid.spelled).onset tal.onset (laid.spelled).onset_is);
  duration = duration-unless (laid.spelled).duration tal.duration p.spelling.duration (laid.spelled).duration_is laid.duration;
  content = content;
}

tals-fit : (notes : List NoteValue) (lane : List ℕ) (tals : List TalValue) (placed : List PlacedTal) → length notes < 10 ^ 64
    → IsLaidLane lane tals (spelled_of placed) → said_of placed ≡ lane_contents notes tals → AllTalsFit placed
tals-fit notes lane tals [] few laid said = tt
tals-fit notes lane [] (p ∷ ps) few laid said = absurd laid
tals-fit notes lane (t ∷ ts) (p ∷ ps) few (bytes, rest, is, whole, more) said = (
  tal-fits bytes t p is (subst ContentFits (sym (cons-first p.content (content_of notes t) (said_of ps) (lane_contents notes ts) said)) (content-fits notes bytes t few is.spelled)),
  tals-fit notes rest ts ps few more (cons-rest p.content (content_of notes t) (said_of ps) (lane_contents notes ts) said),
)

first-fits : (notes : List NoteValue) (lane : List ℕ) (tals : List TalValue) (placed : List PlacedTal) → length notes < 10 ^ 64
    → IsLaidLane lane tals (spelled_of placed) → said_of placed ≡ first_contents notes tals → AllTalsFit placed
first-fits notes lane tals [] few laid said = tt
first-fits notes lane [] (p ∷ ps) few laid said = absurd laid
first-fits notes lane (t ∷ ts) (p ∷ ps) few (bytes, rest, is, whole, more) said = (
  tal-fits bytes t p is (subst ContentFits (sym (cons-first p.content (timekeeping_of notes t) (said_of ps) (lane_contents notes ts) said)) (time-fits notes bytes t few is.spelled)),
  tals-fit notes rest ts ps few more (cons-rest p.content (timekeeping_of notes t) (said_of ps) (lane_contents notes ts) said),
)

others-fit : (notes : List NoteValue) (lanes : List (List ℕ)) (tss : List (List TalValue)) (layout : RecordLayout) → length notes < 10 ^ 64
    → AreLaidLanes lanes tss (spellings_in layout) → contents_in layout ≡ map (lane_contents notes) tss → RecordFits layout
others-fit notes lanes tss [] few laid said = tt
others-fit notes lanes [] (p ∷ ps) few laid said = absurd (not-nil (said_of p) (contents_in ps) (sym said))
others-fit notes [] (ts ∷ tss) (p ∷ ps) few laid said = absurd laid
others-fit notes (lane ∷ lanes) (ts ∷ tss) (p ∷ ps) few laid said = (
  tals-fit notes lane ts p few laid.0 (cons-first (said_of p) (lane_contents notes ts) (contents_in ps) (map (lane_contents notes) tss) said),
  others-fit notes lanes tss ps few laid.1 (cons-rest (said_of p) (lane_contents notes ts) (contents_in ps) (map (lane_contents notes) tss) said),
)

record-fits : (notes : List NoteValue) (lanes : List (List ℕ)) (tss : List (List TalValue)) (layout : RecordLayout) → length notes < 10 ^ 64
    → AreLaidLanes lanes tss (spellings_in layout) → contents_in layout ≡ record_contents notes tss → RecordFits layout
record-fits notes lanes tss [] few laid said = tt
record-fits notes lanes [] (p ∷ ps) few laid said = absurd (not-nil (said_of p) (contents_in ps) (sym said))
record-fits notes [] (ts ∷ tss) (p ∷ ps) few laid said = absurd laid
record-fits notes (lane ∷ lanes) (ts ∷ tss) (p ∷ ps) few laid said = (
  first-fits notes lane ts p few laid.0 (cons-first (said_of p) (first_contents notes ts) (contents_in ps) (map (lane_contents notes) tss) said),
  others-fit notes lanes tss ps few laid.1 (cons-rest (said_of p) (first_contents notes ts) (contents_in ps) (map (lane_contents notes) tss) said),
)

-- ---- data records

-- what holds of each data record
body-fits : (body : BodyLayout) → ((k : ℕ) (one : RecordLayout) → slice_get body k ≡ Some one → RecordFits one) → BodyFits body
body-fits [] each = tt
body-fits (x ∷ xs) each = (each 0 x refl, body-fits xs (λ k one e. each (suc k) one e))

body-few : (n : ℕ) (body : BodyLayout) → ((k : ℕ) (one : RecordLayout) → slice_get body k ≡ Some one → length one < n) → AreFew n body
body-few n [] each = tt
body-few n (x ∷ xs) each = (each 0 x refl, body-few n xs (λ k one e. each (suc k) one e))

same-shape : (n : ℕ) (xs ys : BodyLayout) → length xs ≡ length ys → ((k : ℕ) (one : RecordLayout) → slice_get xs k ≡ Some one → length one ≡ n)
    → ((k : ℕ) (one : RecordLayout) → slice_get ys k ≡ Some one → length one ≡ n) → SameShape xs ys
same-shape n [] [] long h k = tt
same-shape n [] (y ∷ ys) long h k = absurd (omega arith)
same-shape n (x ∷ xs) [] long h k = absurd (omega arith)
same-shape n (x ∷ xs) (y ∷ ys) long h k = (h 0 x refl ∙ sym (k 0 y refl), same-shape n xs ys (omega arith) (λ i one e. h (suc i) one e) (λ i one e. k (suc i) one e))

laid-long : (lanes : List (List ℕ)) (tss : List (List TalValue)) (spellings : List (List TalLayout)) → AreLaidLanes lanes tss spellings → length lanes ≡ length spellings
laid-long [] [] [] h = refl
laid-long [] [] (s ∷ ss) h = absurd h
laid-long [] (ts ∷ tss) [] h = absurd h
laid-long [] (ts ∷ tss) (s ∷ ss) h = absurd h
laid-long (lane ∷ lanes) [] [] h = absurd h
laid-long (lane ∷ lanes) [] (s ∷ ss) h = absurd h
laid-long (lane ∷ lanes) (ts ∷ tss) [] h = absurd h
laid-long (lane ∷ lanes) (ts ∷ tss) (s ∷ ss) h = ap suc (laid-long lanes tss ss h.1)

-- how many annotation signals there are
abbrev pub lane_count : Head → ℕ
lane_count h = length (filter (λ (signal : SignalHead). is_annotations signal.label) h.signals)

pub record-long : (h : Head) (notes : List NoteValue) (bytes : List ℕ) (layout : RecordLayout) → IsRecordLayout h notes bytes layout → length layout ≡ lane_count h
record-long h notes bytes layout r =
    sym (length-map layout (λ lane. map (λ (placed : PlacedTal). placed.spelling) lane))
    ∙ sym (laid-long (annotation_lanes h.signals bytes) r.talss (spellings_in layout) r.laid)
    ∙ length-map (filter (λ (signal : SignalHead). is_annotations signal.label) h.signals) (λ (signal : SignalHead). lane_of signal bytes)

lanes-few : (signals : List SignalHead) → length (filter (λ (signal : SignalHead). is_annotations signal.label) signals) ≤ length signals
lanes-few [] = omega arith
lanes-few (s ∷ ss) = sides (is_annotations s.label) (filter (λ (signal : SignalHead). is_annotations signal.label) ss) (lanes-few ss)
  where
    sides : (b : Bool) (rest : List SignalHead) → length rest ≤ length ss → length (cond b (s ∷ rest) rest) ≤ suc (length ss)
    sides true rest low = omega (arith, low)
    sides false rest low = omega (arith, low)

-- what the layout of data records fits
pub record Fits (h : Head) (body : BodyLayout) : Type 0 where
  pub fits : BodyFits body
  pub lanes : (k : ℕ) (one : RecordLayout) → slice_get body k ≡ Some one → length one ≡ lane_count h
  pub few : AreFew (10 ^ 64) body
  pub count : length body ≡ h.records
  pub small : 0 + length body < 10 ^ 64

pub layout-fits : (file : List ℕ) (h : Head) (body : BodyLayout) → Conforms file h → HasBodyLayout file h body → Fits h body
layout-fits file h body c has =
    let notes : length has.notes ≡ length c.notes = ap length (one-notes file h c has.notes c.notes has.has_notes c.says) in
    let few : length has.notes < 10 ^ 64 = (let most = c.few in omega (arith, notes, most)) in
    let bounds = (conforming_is_sound file h c.header).bounds in
    let signals : lane_count h < 10 ^ 64 = (let low = lanes-few h.signals in let most = bounds.few_signals in omega (arith, low, most)) in
    let long : (k : ℕ) (one : RecordLayout) → slice_get body k ≡ Some one → length one ≡ lane_count h = λ k one e. record-long h has.notes (record_at file h k) one (has.records k one e) in
    record {
      fits = body-fits body (λ k one e. let r = has.records k one e in record-fits has.notes (annotation_lanes h.signals (record_at file h k)) r.talss one few r.laid r.said);
      lanes = long;
      few = body-few (10 ^ 64) body (λ k one e. let is = long k one e in omega (arith, is, signals));
      count = has.count;
      small = (let is = has.count in let most = bounds.few_records in omega (arith, is, most));
    }

pub shapes-same : (h : Head) (one two : BodyLayout) → Fits h one → Fits h two → SameShape one two
shapes-same h one two a b = same-shape (lane_count h) one two (a.count ∙ sym b.count) a.lanes b.lanes
