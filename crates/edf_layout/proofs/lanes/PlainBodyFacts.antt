-- No lane is odd exactly where the annotations stand in a plain order.
use Rattle.std.proofs.Common.{◌≡◌, ◌≢◌, inl, inr, ℕ, ℤ, zero, suc, Bool, true, false, cond, ◌+◌, ◌*◌, ◌<◌, ◌^◌, nat_lt, nat_le, List, [], ◌∷◌, ◌++◌, length, take, drop, map, slice_get, Option, Some, None, arith, refl, ap, ◌∙◌, sym, subst, length-append}
use Rattle.std.specs.List.{flat_map}
use Rattle.std.specs.List.Sorted.{IsPermutation}
use Rattle.std.specs.Option.{option_map, option_map_or}
use Rattle.std.proofs.lemmas.Bool.Decides.{nat_tests}
use Rattle.std.proofs.lemmas.List.{take-append-drop, length-map, length-drop, length-take-le}
use Rattle.std.proofs.lemmas.List.Sorted.{IsPermutation-sym, IsPermutation-trans, length_permutation}
use Rattle.std.proofs.lemmas.Slice.Eq.{bytes_eq-Decides}
use Rattle.edf_fields.specs.Lists.{Has}
use Rattle.edf_fields.proofs.ForCallers.{has-append, has-permutation}
use Rattle.edf_header.specs.Heads.{SignalHead, Head}
use Rattle.edf_tal.specs.Tals.{TalValue, IsLaneOf}
use Rattle.edf_stream.specs.Conforming.{Conforms}
use Rattle.edf_stream.specs.annotation.Notes.{NoteValue, HasNotes, SaysRecord, AreLanesOf, notes_of_tal, tal_with, together}
use Rattle.edf_stream.specs.records.Records.{record_at, annotation_lanes}
use Rattle.edf_layout.specs.body.BodyLayouts.{TalContent, RecordLayout, BodyLayout, content_of, timekeeping_of, lane_contents, first_contents}
use Rattle.edf_layout.specs.body.FileLayouts.{FileLayout, HasLayout}
use Rattle.edf_layout.specs.body.LayoutLaws.{PlainBodiesHaveNoOddLane}
use Rattle.edf_layout.specs.body.OddLanes.{OddLane, tal_lines, odd_in, odd_from, odd_lanes, base_order}
use Rattle.edf_layout.specs.body.PlainOrders.{PlainOrder, OneByOne, ByTime, FilledLane, tal_bytes, with_tal, put_first, put_from, record_for, tal_of_note, bare_lane, bare_record, filled, parts_of, plain_lanes, placed_plainly, plain_record, plain_body, lane_sizes, IsOfOrder, IsPlainBody}
use Rattle.edf_layout.proofs.body.FileLayoutFacts.{layout-fits, lane_count, near-duration, places-few}
use Rattle.edf_layout.proofs.body.MeaningFacts.{one-notes, body_has_one_layout}
use Rattle.edf_layout.proofs.body.OddLaneFacts.{RecordFits, BodyFits, SameShape, body-told}
use Rattle.edf_layout.proofs.body.OrderFacts.{one_order}
use Rattle.edf_layout.proofs.body.PlainFacts.{starts-alike}
use Rattle.edf_layout.proofs.body.RoomFacts.{bodies-long}
use Rattle.edf_layout.proofs.body.TalLineFacts.{NearIf, ContentFits, TalFits, AllTalsFit}

-- ---- a plain order has no lane otherwise than itself

own-record : (k j : ℕ) (lanes : RecordLayout) → odd_in k j lanes lanes ≡ []
own-record k j [] = refl
own-record k j (tals ∷ lanes) =
    ap (λ b. cond b [] (record { data_record = k; number = j; tals = tals } ∷ []) ++ odd_in k (j + 1) lanes lanes) ((bytes_eq-Decides (tal_lines tals) (tal_lines tals)).1 refl)
    ∙ own-record k (j + 1) lanes

own-body : (k : ℕ) (body : BodyLayout) → odd_from k body body ≡ []
own-body k [] = refl
own-body k (lanes ∷ body) = ap (λ xs. xs ++ odd_from (k + 1) body body) (own-record k 0 lanes) ∙ own-body (k + 1) body

-- ---- TALs whose lines can be written

-- it has a text, and its duration is within the bounds of a field
abbrev Speaks : TalValue → Type 0
Speaks tal = (0 < length tal.texts) × NearIf tal.duration

abbrev AllSpeak : List TalValue → Type 0
AllSpeak [] = Unit {0}
AllSpeak (tal ∷ tals) = Speaks tal × AllSpeak tals

abbrev ListsSpeak : List (List TalValue) → Type 0
ListsSpeak [] = Unit {0}
ListsSpeak (tals ∷ talss) = AllSpeak tals × ListsSpeak talss

abbrev LanesSpeak : List FilledLane → Type 0
LanesSpeak [] = Unit {0}
LanesSpeak (lane ∷ lanes) = AllSpeak lane.tals × LanesSpeak lanes

abbrev MaySpeak : Option (List FilledLane) → Type 0
MaySpeak None = Unit {0}
MaySpeak (Some lanes) = LanesSpeak lanes

speak-one : (tals : List TalValue) (tal : TalValue) → AllSpeak tals → Speaks tal → AllSpeak (tals ++ tal ∷ [])
speak-one [] tal h one = (one, tt)
speak-one (t ∷ ts) tal h one = (h.0, speak-one ts tal h.1 one)

lanes-both : (xs ys : List FilledLane) → LanesSpeak xs → LanesSpeak ys → LanesSpeak (xs ++ ys)
lanes-both [] ys h k = k
lanes-both (x ∷ xs) ys h k = (h.0, lanes-both xs ys h.1 k)

speak-take : (n : ℕ) (lanes : List FilledLane) → LanesSpeak lanes → LanesSpeak (take n lanes)
speak-take zero lanes h = tt
speak-take (suc n) [] h = tt
speak-take (suc n) (x ∷ xs) h = (h.0, speak-take n xs h.1)

speak-drop : (n : ℕ) (lanes : List FilledLane) → LanesSpeak lanes → LanesSpeak (drop n lanes)
speak-drop zero lanes h = h
speak-drop (suc n) [] h = tt
speak-drop (suc n) (x ∷ xs) h = speak-drop n xs h.1

first-speaks : (tal : TalValue) (lanes : List FilledLane) → Speaks tal → LanesSpeak lanes → MaySpeak (put_first tal lanes)
first-speaks tal [] one h = tt
first-speaks tal (lane ∷ lanes) one h = cases (nat_le (tal_bytes tal) lane.free) (put_first tal lanes) (first-speaks tal lanes one h.1)
  where
    cases : (b : Bool) (o : Option (List FilledLane)) → MaySpeak o → MaySpeak (cond b (Some (with_tal tal lane ∷ lanes)) (option_map (λ after. lane ∷ after) o))
    cases true o k = (speak-one lane.tals tal h.0 one, h.1)
    cases false None k = tt
    cases false (Some after) k = (h.0, k)

put-speaks : (at : ℕ) (tal : TalValue) (lanes : List FilledLane) → Speaks tal → LanesSpeak lanes → LanesSpeak (put_from at tal lanes)
put-speaks at tal lanes one h =
    cases (put_first tal (drop at lanes)) (put_first tal (take at lanes)) (first-speaks tal (drop at lanes) one (speak-drop at lanes h)) (first-speaks tal (take at lanes) one (speak-take at lanes h))
  where
    cases : (o p : Option (List FilledLane)) → MaySpeak o → MaySpeak p
        → LanesSpeak (option_map_or (λ after. take at lanes ++ after) o (option_map_or (λ after. after ++ drop at lanes) p lanes))
    cases (Some after) p k l = lanes-both (take at lanes) after (speak-take at lanes h) k
    cases None (Some after) k l = lanes-both after (drop at lanes) l (speak-drop at lanes h)
    cases None None k l = h

-- durations of annotations within the bounds of a field
abbrev AreNear : List NoteValue → Type 0
AreNear notes = (n : NoteValue) → Has notes n → NearIf n.duration

filled-speaks : (order : PlainOrder) (starts : List ℤ) (width i : ℕ) (notes : List NoteValue) (lanes : List FilledLane) → AreNear notes → LanesSpeak lanes
    → LanesSpeak (filled order starts width i notes lanes)
filled-speaks order starts width i [] lanes near h = h
filled-speaks order starts width i (note ∷ notes) lanes near h =
    filled-speaks order starts width (i + 1) notes (put_from (width * record_for order starts i note) (tal_of_note note) lanes) (λ n has. near n (inr has))
    (put-speaks (width * record_for order starts i note) (tal_of_note note) lanes (omega arith, near note (inl refl)) h)

bare-speaks : (sizes : List ℕ) (start : ℤ) → LanesSpeak (bare_record sizes start)
bare-speaks [] start = tt
bare-speaks (size ∷ sizes) start = (((omega arith, tt), tt), none sizes)
  where
    none : (sizes : List ℕ) → LanesSpeak (map bare_lane sizes)
    none [] = tt
    none (size ∷ sizes) = (tt, none sizes)

bodies-speak : (sizes : List ℕ) (starts : List ℤ) → LanesSpeak (flat_map (bare_record sizes) starts)
bodies-speak sizes [] = tt
bodies-speak sizes (start ∷ starts) = lanes-both (bare_record sizes start) (flat_map (bare_record sizes) starts) (bare-speaks sizes start) (bodies-speak sizes starts)

-- ---- what they say can be written

lists-of : (lanes : List FilledLane) → LanesSpeak lanes → ListsSpeak (map (λ (lane : FilledLane). lane.tals) lanes)
lists-of [] h = tt
lists-of (lane ∷ lanes) h = (h.0, lists-of lanes h.1)

lists-take : (n : ℕ) (talss : List (List TalValue)) → ListsSpeak talss → ListsSpeak (take n talss)
lists-take zero talss h = tt
lists-take (suc n) [] h = tt
lists-take (suc n) (x ∷ xs) h = (h.0, lists-take n xs h.1)

lists-drop : (n : ℕ) (talss : List (List TalValue)) → ListsSpeak talss → ListsSpeak (drop n talss)
lists-drop zero talss h = h
lists-drop (suc n) [] h = tt
lists-drop (suc n) (x ∷ xs) h = lists-drop n xs h.1

module _ (notes : List NoteValue) (few : length notes < 10 ^ 64) where
  content-writes : (tal : TalValue) → Speaks tal → ContentFits (content_of notes tal)
  content-writes tal h = cases tal.texts h.0
    where
      cases : (texts : List (List ℕ)) → 0 < length texts → ContentFits (content_of notes (record { onset = tal.onset; duration = tal.duration; texts = texts }))
      cases [] some = absurd (omega (arith, some))
      cases (t ∷ ts) some = places-few notes (notes_of_tal (record { onset = tal.onset; duration = tal.duration; texts = t ∷ ts })) few

  plainly-fits : (content : TalContent) → ContentFits content → TalFits (placed_plainly content)
  plainly-fits content h = record { onset = tt; duration = tt; content = h }

  lane-writes : (tals : List TalValue) → AllSpeak tals → AllTalsFit (map placed_plainly (lane_contents notes tals))
  lane-writes [] h = tt
  lane-writes (tal ∷ tals) h = (plainly-fits (content_of notes tal) (content-writes tal h.0), lane-writes tals h.1)

  first-writes : (tals : List TalValue) → AllSpeak tals → AllTalsFit (map placed_plainly (first_contents notes tals))
  first-writes [] h = tt
  first-writes (tal ∷ tals) h = (
    plainly-fits (timekeeping_of notes tal) ((h.0).1, places-few notes (notes_of_tal (record { onset = tal.onset; duration = tal.duration; texts = drop 1 tal.texts })) few),
    lane-writes tals h.1,
  )

  rest-writes : (talss : List (List TalValue)) → ListsSpeak talss → RecordFits (map (λ contents. map placed_plainly contents) (map (lane_contents notes) talss))
  rest-writes [] h = tt
  rest-writes (tals ∷ talss) h = (lane-writes tals h.0, rest-writes talss h.1)

  record-writes : (talss : List (List TalValue)) → ListsSpeak talss → RecordFits (plain_record notes talss)
  record-writes [] h = tt
  record-writes (tals ∷ talss) h = (first-writes tals h.0, rest-writes talss h.1)

  parts-write : (width n : ℕ) (talss : List (List TalValue)) → ListsSpeak talss → BodyFits (map (plain_record notes) (parts_of width n talss))
  parts-write width zero talss h = tt
  parts-write width (suc n) talss h = (record-writes (take width talss) (lists-take width talss h), parts-write width n (drop width talss) (lists-drop width talss h))

  pub plain-writes : (order : PlainOrder) (sizes : List ℕ) (starts : List ℤ) → AreNear notes → BodyFits (plain_body order notes sizes starts)
  unfolding plain_lanes
  plain-writes order sizes starts near =
      let lanes = filled order starts (length sizes) 0 notes (flat_map (bare_record sizes) starts) in
      parts-write (length sizes) (length starts) (map (λ (lane : FilledLane). lane.tals) lanes)
      (lists-of lanes (filled-speaks order starts (length sizes) 0 notes (flat_map (bare_record sizes) starts) near (bodies-speak sizes starts)))

-- ---- annotations of a file

tal-near : (lane : List ℕ) (tals : List TalValue) → IsLaneOf lane tals → (n : NoteValue) → Has (flat_map notes_of_tal tals) n → NearIf n.duration
tal-near lane [] is n has = absurd has
tal-near lane (tal ∷ tals) (bytes, rest, s, whole, more) n has =
    elim (has-append (notes_of_tal tal) (flat_map notes_of_tal tals) n has) [
      | inl here ↦ of-tal tal.texts here
      | inr later ↦ tal-near rest tals more n later
    ]
  where
    of-tal : (texts : List (List ℕ)) → Has (notes_of_tal (record { onset = tal.onset; duration = tal.duration; texts = texts })) n → NearIf n.duration
    of-tal [] h = absurd h
    of-tal (t ∷ ts) (inl e) = subst NearIf (ap (λ (m : NoteValue). m.duration) e) (near-duration s.duration tal.duration s.duration_is)
    of-tal (t ∷ ts) (inr h) = of-tal ts h

lanes-near : (lanes : List (List ℕ)) (talss : List (List TalValue)) → AreLanesOf lanes talss → (n : NoteValue) → Has (flat_map (λ tals. flat_map notes_of_tal tals) talss) n → NearIf n.duration
lanes-near [] [] is n has = absurd has
lanes-near [] (tals ∷ talss) is n has = absurd is
lanes-near (lane ∷ lanes) [] is n has = absurd is
lanes-near (lane ∷ lanes) (tals ∷ talss) is n has =
    elim (has-append (flat_map notes_of_tal tals) (flat_map (λ ts. flat_map notes_of_tal ts) talss) n has) [
      | inl here ↦ tal-near lane tals is.0 n here
      | inr later ↦ lanes-near lanes talss is.1 n later
    ]

record-near : (h : Head) (bytes : List ℕ) (start : ℤ) (notes : List NoteValue) → SaysRecord h bytes start notes → AreNear notes
record-near h bytes start notes s n has =
    lanes-near (annotation_lanes h.signals bytes) ((tal_with start s.duration ([] ∷ s.texts) ∷ s.beside) ∷ s.others) s.lanes n
    (inr-front (subst (λ xs. Has xs n) s.notes_are has))
  where
    inr-front : Has (notes_of_tal (tal_with start s.duration s.texts) ++ flat_map (λ tals. flat_map notes_of_tal tals) (s.beside ∷ s.others)) n
        → Has (flat_map (λ tals. flat_map notes_of_tal tals) ((tal_with start s.duration ([] ∷ s.texts) ∷ s.beside) ∷ s.others)) n
    inr-front h = inr (subst (λ xs. Has xs n) (sym (joined (notes_of_tal (tal_with start s.duration s.texts)) (flat_map notes_of_tal s.beside) (flat_map (λ tals. flat_map notes_of_tal tals) s.others))) h)
      where
        joined : (a b c : List NoteValue) → (a ++ b) ++ c ≡ a ++ (b ++ c)
        joined [] b c = refl
        joined (x ∷ xs) b c = ap (λ r. x ∷ r) (joined xs b c)

together-near : (notes : ℕ → List NoteValue) (n : ℕ) → ((k : ℕ) → k < n → AreNear (notes k)) → AreNear (together notes n)
together-near notes zero each x has = absurd has
together-near notes (suc n) each x has =
    elim (has-append (together notes n) (notes n) x has) [
      | inl front ↦ together-near notes n (λ k low. each k (omega (arith, low))) x front
      | inr last ↦ each n (omega arith) x last
    ]

file-near : (file : List ℕ) (h : Head) (notes : List NoteValue) → HasNotes file h notes → AreNear notes
file-near file h notes has =
    subst AreNear (sym has.all_are) (together-near has.notes h.records (λ k low. record-near h (record_at file h k) (has.starts k) (has.notes k) (has.say k low)))

-- ---- the shape of a plain body

parts-long : (width n : ℕ) (talss : List (List TalValue)) → length (parts_of width n talss) ≡ n
parts-long width zero talss = refl
parts-long width (suc n) talss = ap suc (parts-long width n (drop width talss))

contents-long : (notes : List NoteValue) (talss : List (List TalValue)) → length (plain_record notes talss) ≡ length talss
contents-long notes [] = refl
contents-long notes (tals ∷ talss) = ap suc (length-map (map (lane_contents notes) talss) (λ contents. map placed_plainly contents) ∙ length-map talss (lane_contents notes))

shaped : (notes : List NoteValue) (width n count : ℕ) (body : BodyLayout) (talss : List (List TalValue)) → length body ≡ n → width ≡ count → length talss ≡ n * width
    → ((k : ℕ) (one : RecordLayout) → slice_get body k ≡ Some one → length one ≡ count) → SameShape body (map (plain_record notes) (parts_of width n talss))
shaped notes width zero count [] talss long same whole each = tt
shaped notes width zero count (x ∷ xs) talss long same whole each = absurd (omega (arith, long))
shaped notes width (suc n) count [] talss long same whole each = absurd (omega (arith, long))
shaped notes width (suc n) count (x ∷ xs) talss long same whole each =
    let product : suc n * width ≡ width + n * width = omega arith in
    let taken : length (take width talss) ≡ width = length-take-le width talss (omega (arith, whole, product)) in
    let rest : length (drop width talss) ≡ n * width = (let a = length-drop width talss in omega (arith, a, whole, product)) in (
      each 0 x refl ∙ sym same ∙ sym taken ∙ sym (contents-long notes (take width talss)),
      shaped notes width n count xs (drop width talss) (omega (arith, long)) same rest (λ k one e. each (suc k) one e),
    )

-- as many lanes, whatever is put into them
abbrev SameLong : List FilledLane → Option (List FilledLane) → Type 0
SameLong lanes None = Unit {0}
SameLong lanes (Some after) = length after ≡ length lanes

first-long : (tal : TalValue) (lanes : List FilledLane) → SameLong lanes (put_first tal lanes)
first-long tal [] = tt
first-long tal (lane ∷ lanes) = cases (nat_le (tal_bytes tal) lane.free) (put_first tal lanes) (first-long tal lanes)
  where
    cases : (b : Bool) (o : Option (List FilledLane)) → SameLong lanes o → SameLong (lane ∷ lanes) (cond b (Some (with_tal tal lane ∷ lanes)) (option_map (λ after. lane ∷ after) o))
    cases true o k = refl
    cases false None k = tt
    cases false (Some after) k = ap suc k

put-long : (at : ℕ) (tal : TalValue) (lanes : List FilledLane) → length (put_from at tal lanes) ≡ length lanes
put-long at tal lanes = cases (put_first tal (drop at lanes)) (put_first tal (take at lanes)) (first-long tal (drop at lanes)) (first-long tal (take at lanes))
  where
    whole : length (take at lanes) + length (drop at lanes) ≡ length lanes
    whole = sym (length-append (take at lanes) (drop at lanes)) ∙ ap length (take-append-drop at lanes)

    cases : (o p : Option (List FilledLane)) → SameLong (drop at lanes) o → SameLong (take at lanes) p
        → length (option_map_or (λ after. take at lanes ++ after) o (option_map_or (λ after. after ++ drop at lanes) p lanes)) ≡ length lanes
    cases (Some after) p k l = length-append (take at lanes) after ∙ ap (λ n. length (take at lanes) + n) k ∙ whole
    cases None (Some after) k l = length-append after (drop at lanes) ∙ ap (λ n. n + length (drop at lanes)) l ∙ whole
    cases None None k l = refl

filled-long : (order : PlainOrder) (starts : List ℤ) (width i : ℕ) (notes : List NoteValue) (lanes : List FilledLane) → length (filled order starts width i notes lanes) ≡ length lanes
filled-long order starts width i [] lanes = refl
filled-long order starts width i (note ∷ notes) lanes =
    filled-long order starts width (i + 1) notes (put_from (width * record_for order starts i note) (tal_of_note note) lanes)
    ∙ put-long (width * record_for order starts i note) (tal_of_note note) lanes

-- ---- without an odd lane it is the plain body

sizes-long : (h : Head) → length (lane_sizes h) ≡ lane_count h
sizes-long h = length-map _ (λ (signal : SignalHead). 2 * signal.samples)

no-odd : (file : List ℕ) (h : Head) → Conforms file h → (layout : FileLayout) → (l : HasLayout file h layout) → (order : PlainOrder)
    → odd_lanes order l.ordered (lane_sizes h) l.starts l.body ≡ [] → l.body ≡ plain_body order l.ordered (lane_sizes h) l.starts
unfolding odd_lanes plain_lanes
no-odd file h c layout l order none =
    let own = layout-fits file h l.body c l.has_body in
    let notes : length l.notes ≡ length c.notes = ap length (one-notes file h c l.notes c.notes l.has_notes c.says) in
    let same : length l.ordered ≡ length l.notes = length_permutation l.notes l.ordered l.rearranged in
    let few : length l.ordered < 10 ^ 64 = (let most = c.few in omega (arith, notes, same, most)) in
    let near : AreNear l.ordered = λ n has. file-near file h l.notes l.has_notes n (has-permutation l.ordered l.notes n (IsPermutation-sym l.notes l.ordered l.rearranged) has) in
    let sizes = lane_sizes h in
    let lanes = filled order l.starts (length sizes) 0 l.ordered (flat_map (bare_record sizes) l.starts) in
    let plain : BodyLayout = plain_body order l.ordered sizes l.starts in
    let count : length l.body ≡ length l.starts = own.count ∙ sym (l.has_starts).count in
    let long : length (map (λ (lane : FilledLane). lane.tals) lanes) ≡ length l.starts * length sizes =
    length-map lanes (λ (lane : FilledLane). lane.tals) ∙ filled-long order l.starts (length sizes) 0 l.ordered (flat_map (bare_record sizes) l.starts) ∙ bodies-long sizes l.starts in
    body-told 0 l.body plain plain
    (shaped l.ordered (length sizes) (length l.starts) (lane_count h) l.body (map (λ (lane : FilledLane). lane.tals) lanes) count (sizes-long h) long own.lanes)
    own.fits (plain-writes l.ordered few order sizes l.starts near) (none ∙ sym (own-body 0 plain))

-- a plain body has no odd lane
none-odd : (order : PlainOrder) (notes : List NoteValue) (sizes : List ℕ) (starts : List ℤ) (body : BodyLayout) → body ≡ plain_body order notes sizes starts
    → odd_lanes order notes sizes starts body ≡ []
unfolding odd_lanes
none-odd order notes sizes starts body is = ap (λ (b : BodyLayout). odd_from 0 b (plain_body order notes sizes starts)) is ∙ own-body 0 (plain_body order notes sizes starts)

-- ---- the order that fits best

base-first : (notes : List NoteValue) (sizes : List ℕ) (starts : List ℤ) (body : BodyLayout) → odd_lanes OneByOne notes sizes starts body ≡ [] → base_order notes sizes starts body ≡ OneByOne
unfolding base_order
base-first notes sizes starts body none =
    ap (λ b. cond b ByTime OneByOne) (ap (λ (xs : List OddLane). nat_lt (length (odd_lanes ByTime notes sizes starts body)) (length xs)) none ∙ never (length (odd_lanes ByTime notes sizes starts body)))
  where
    never : (n : ℕ) → nat_lt n 0 ≡ false
    never n = grind (arith, nat_tests)

base-second : (notes : List NoteValue) (sizes : List ℕ) (starts : List ℤ) (body : BodyLayout) → odd_lanes ByTime notes sizes starts body ≡ []
    → odd_lanes OneByOne notes sizes starts body ≢ [] → base_order notes sizes starts body ≡ ByTime
unfolding base_order
base-second notes sizes starts body none some =
    ap (λ b. cond b ByTime OneByOne) (ap (λ (xs : List OddLane). nat_lt (length xs) (length (odd_lanes OneByOne notes sizes starts body))) none ∙ less (odd_lanes OneByOne notes sizes starts body) some)
  where
    less : (xs : List OddLane) → xs ≢ [] → nat_lt 0 (length xs) ≡ true
    less [] h = absurd (h refl)
    less (x ∷ xs) h = not-none (length xs)
      where
        not-none : (n : ℕ) → nat_lt 0 (suc n) ≡ true
        not-none n = grind (arith, nat_tests)

-- ---- the law

-- a plain body by the layout of its file
record SameParts (file : List ℕ) (h : Head) (order : PlainOrder) (layout : FileLayout) (l : HasLayout file h layout) : Type 0 where
  plain : IsOfOrder order l.ordered (lane_sizes h) l.starts l.body

same-parts : (file : List ℕ) (h : Head) → Conforms file h → (layout : FileLayout) → (l : HasLayout file h layout) → (order : PlainOrder) → IsPlainBody order file h → SameParts file h order layout l
same-parts file h c layout l order p =
    let notes : p.notes ≡ l.notes = one-notes file h c p.notes l.notes p.has_notes l.has_notes in
    let between : IsPermutation p.ordered l.notes = subst (IsPermutation p.ordered) notes (IsPermutation-sym p.notes p.ordered p.rearranged) in
    let ordered : p.ordered ≡ l.ordered = one_order p.ordered l.ordered (IsPermutation-trans p.ordered l.notes l.ordered between l.rearranged) p.in_order l.in_order in
    let starts : p.starts ≡ l.starts = starts-alike file file h c c (λ x. (λ y. y, λ y. y)) p.starts l.starts p.has_starts l.has_starts in
    let some = body_has_one_layout file h c in
    let body : p.layout ≡ l.body = some.2 p.layout p.has_layout ∙ sym (some.2 l.body l.has_body) in
    record {
      plain = subst (λ b. IsOfOrder order l.ordered (lane_sizes h) l.starts b) body
          (subst (λ ss. IsOfOrder order l.ordered (lane_sizes h) ss p.layout) starts
          (subst (λ ns. IsOfOrder order ns (lane_sizes h) p.starts p.layout) ordered p.plain));
    }

plain-named : (file : List ℕ) (h : Head) → Conforms file h → (layout : FileLayout) → (l : HasLayout file h layout) → (order : PlainOrder)
    → IsOfOrder order l.ordered (lane_sizes h) l.starts l.body → (layout.order ≡ order) × (layout.odd ≡ [])
plain-named file h c layout l OneByOne is =
    let none = none-odd OneByOne l.ordered (lane_sizes h) l.starts l.body is in
    let order : layout.order ≡ OneByOne = l.order ∙ base-first l.ordered (lane_sizes h) l.starts l.body none in
    (order, l.odd ∙ ap (λ o. odd_lanes o l.ordered (lane_sizes h) l.starts l.body) order ∙ none)
plain-named file h c layout l ByTime is =
    let none = none-odd ByTime l.ordered (lane_sizes h) l.starts l.body is.0 in
    let order : layout.order ≡ ByTime = l.order ∙ base-second l.ordered (lane_sizes h) l.starts l.body none (λ e. is.1 (no-odd file h c layout l OneByOne e)) in
    (order, l.odd ∙ ap (λ o. odd_lanes o l.ordered (lane_sizes h) l.starts l.body) order ∙ none)

named-plain : (file : List ℕ) (h : Head) → Conforms file h → (layout : FileLayout) → (l : HasLayout file h layout) → (order : PlainOrder)
    → layout.order ≡ order → layout.odd ≡ [] → IsOfOrder order l.ordered (lane_sizes h) l.starts l.body
named-plain file h c layout l order named none = cases order named
  where
    odd : (o : PlainOrder) → layout.order ≡ o → odd_lanes o l.ordered (lane_sizes h) l.starts l.body ≡ []
    odd o is = ap (λ p. odd_lanes p l.ordered (lane_sizes h) l.starts l.body) (sym is) ∙ sym l.odd ∙ none

    apart : OneByOne ≡ ByTime → ⊥
    apart e = cc

    cases : (o : PlainOrder) → layout.order ≡ o → IsOfOrder o l.ordered (lane_sizes h) l.starts l.body
    cases OneByOne is = no-odd file h c layout l OneByOne (odd OneByOne is)
    cases ByTime is = (
      no-odd file h c layout l ByTime (odd ByTime is),
      λ e. apart (sym (base-first l.ordered (lane_sizes h) l.starts l.body (none-odd OneByOne l.ordered (lane_sizes h) l.starts l.body e)) ∙ sym l.order ∙ is),
    )

pub plain_bodies_have_no_odd_lane : PlainBodiesHaveNoOddLane
plain_bodies_have_no_odd_lane file h c layout l order = (
  λ p. plain-named file h c layout l order (same-parts file h c layout l order p).plain,
  λ is. record {
    notes = l.notes;
    ordered = l.ordered;
    starts = l.starts;
    layout = l.body;
    has_notes = l.has_notes;
    rearranged = l.rearranged;
    in_order = l.in_order;
    has_starts = l.has_starts;
    has_layout = l.has_body;
    plain = named-plain file h c layout l order is.0 is.1;
  },
)
