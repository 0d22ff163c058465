-- A lane is its TALs and how they are spelled.
use Rattle.std.proofs.Common.{◌≡◌, ◌⊎◌, inl, inr, ℕ, ℤ, Bool, true, false, ◌&&◌, ◌==◌, List, [], ◌∷◌, ◌++◌, length, slice_get, zero, suc, Option, Some, None, arith, refl, ap, ◌∙◌, sym, subst, length-append}
use Rattle.std.proofs.lemmas.Bool.Decides.{nat_tests}
use Rattle.edf_fields.specs.texts.Onsets.{SpellsOnset}
use Rattle.edf_header.specs.Heads.{SignalHead, Head, is_annotations}
use Rattle.edf_header.proofs.ForCallers.{one_head}
use Rattle.edf_stream.specs.annotation.Notes.{AreLanesOf}
use Rattle.edf_tal.specs.Tals.{TalValue, SpellsDuration, IsLaneOf}
use Rattle.edf_tal.specs.Reading.{ended, are_zeros}
use Rattle.edf_stream.specs.Conforming.{Conforms}
use Rattle.edf_stream.specs.records.Records.{lane_of, record_at, annotation_lanes}
use Rattle.edf_stream.specs.records.RecordsReading.{lane_at}
use Rattle.edf_layout.specs.body.BodyLaws.{AreBytes, HaveSameSamples, HaveSameAnnotationLanes}
use Rattle.edf_layout.specs.HeadLaws.{SayTheSame, header_of}
use Rattle.edf_layout.specs.HeadLayouts.{head_layout_of}
use Rattle.edf_layout.specs.body.FileLaws.{LanesHaveLayouts, LaneIsItsTals, HaveSameTals, FileIsItsParts}
use Rattle.edf_layout.specs.body.LaneLayouts.{TalLayout, IsLaidTal, IsLaidLane, is_plain_duration, unless_plain}
use Rattle.edf_layout.specs.PlainNumbers.{is_plain_unsigned}
use Rattle.edf_layout.specs.PlainLaws.{is_plain_onset}
use Rattle.edf_layout.proofs.body.BodyFacts.{lane-long, lane-is, lanes_are_the_rest}
use Rattle.edf_layout.proofs.HeadFacts.{head-same, layout_is_the_rest}
use Rattle.edf_layout.proofs.plain.LawFacts.{one_plain_onset, one_plain_span}

-- zeros of one length
zeros-same : (xs ys : List ℕ) → length xs ≡ length ys → are_zeros xs ≡ true → are_zeros ys ≡ true → xs ≡ ys
zeros-same [] [] long h k = refl
zeros-same [] (y ∷ ys) long h k = absurd (omega arith)
zeros-same (x ∷ xs) [] long h k = absurd (omega arith)
zeros-same (x ∷ xs) (y ∷ ys) long h k =
    let one = and-both (x == 0) (are_zeros xs) h in
    let two = and-both (y == 0) (are_zeros ys) k in
    let first : x ≡ y = is-nought x one.0 ∙ sym (is-nought y two.0) in
    ap (λ b. b ∷ xs) first ∙ ap (λ r. y ∷ r) (zeros-same xs ys (omega arith) one.1 two.1)
  where
    and-both : (a b : Bool) → (a && b) ≡ true → (a ≡ true) × (b ≡ true)
    and-both true b h = (refl, h)
    and-both false b h = absurd (let z : false ≡ true = h in cc)

    is-nought : (b : ℕ) → (b == 0) ≡ true → b ≡ 0
    is-nought b h = grind (arith, nat_tests)

-- two texts with one layout: both are plain, or they are the same
alike : (a b : Bool) (t u : List ℕ) → unless_plain a t ≡ unless_plain b u → ((a ≡ true) × (b ≡ true)) ⊎ (t ≡ u)
alike true true t u e = inl (refl, refl)
alike true false t u e = absurd (let z : None ≡ Some u = e in cc)
alike false true t u e = absurd (let z : Some t ≡ None = e in cc)
alike false false t u e = inr (same t u e)
  where
    same : (t u : List ℕ) → Some t ≡ Some u → t ≡ u
    same t u e = cc

onsets-same : (t u : List ℕ) (v : ℤ) → SpellsOnset t v → SpellsOnset u v → unless_plain (is_plain_onset t) t ≡ unless_plain (is_plain_onset u) u → t ≡ u
onsets-same t u v h k e = elim (alike (is_plain_onset t) (is_plain_onset u) t u e) [
  | inl both ↦ one_plain_onset t u v h k both.0 both.1
  | inr is ↦ is
]

durations-same : (t u : List ℕ) (v : Option ℤ) → SpellsDuration t v → SpellsDuration u v → unless_plain (is_plain_duration t) t ≡ unless_plain (is_plain_duration u) u → t ≡ u
durations-same t u None h k e = h ∙ sym k
durations-same t u (Some v) (span, is, time, value) (other, too, time2, value2) e = elim (alike (is_plain_duration t) (is_plain_duration u) t u e) [
  | inl both ↦
      let one : is_plain_unsigned span ≡ true = sym (ap is_plain_duration is) ∙ both.0 in
      let two : is_plain_unsigned other ≡ true = sym (ap is_plain_duration too) ∙ both.1 in
      is ∙ ap (λ s. 21 ∷ s) (one_plain_span span other v (time, value) (time2, value2) one two) ∙ sym too
  | inr same ↦ same
]

pub tal-same : (bytes other : List ℕ) (tal : TalValue) (layout : TalLayout) → IsLaidTal bytes tal layout → IsLaidTal other tal layout → bytes ≡ other
tal-same bytes other tal layout h k =
    let onset = onsets-same (h.spelled).onset (k.spelled).onset tal.onset (h.spelled).onset_is (k.spelled).onset_is (sym h.onset ∙ k.onset) in
    let duration = durations-same (h.spelled).duration (k.spelled).duration tal.duration (h.spelled).duration_is (k.spelled).duration_is (sym h.duration ∙ k.duration) in
    (h.spelled).whole
    ∙ ap (λ o. (o ++ (h.spelled).duration) ++ 20 ∷ ended tal.texts) onset
    ∙ ap (λ d. ((k.spelled).onset ++ d) ++ 20 ∷ ended tal.texts) duration
    ∙ sym (k.spelled).whole

pub lane_is_its_tals : LaneIsItsTals
lane_is_its_tals lane other [] [] long h k = zeros-same lane other long h k
lane_is_its_tals lane other [] (layout ∷ layouts) long h k = absurd h
lane_is_its_tals lane other (tal ∷ tals) [] long h k = absurd h
lane_is_its_tals lane other (tal ∷ tals) (layout ∷ layouts) long (bytes, rest, laid, whole, more) (bytes2, rest2, laid2, whole2, more2) =
    let first : bytes ≡ bytes2 = tal-same bytes bytes2 tal layout laid laid2 in
    let one = ap length whole ∙ length-append bytes (0 ∷ rest) in
    let two = ap length whole2 ∙ length-append bytes2 (0 ∷ rest2) in
    let size = ap length first in
    let less : length rest ≡ length rest2 = omega (arith, long, one, two, size) in
    let behind : rest ≡ rest2 = lane_is_its_tals rest rest2 tals layouts less more more2 in
    whole ∙ ap (λ b. b ++ 0 ∷ rest) first ∙ ap (λ r. bytes2 ++ 0 ∷ r) behind ∙ sym whole2

-- each lane has a layout
pub laid : (lane : List ℕ) (tals : List TalValue) → IsLaneOf lane tals → (layouts : List TalLayout) × IsLaidLane lane tals layouts
laid lane [] h = ([], h)
laid lane (tal ∷ tals) (bytes, rest, spelled, whole, more) =
    let behind = laid rest tals more in (
      record { onset = unless_plain (is_plain_onset spelled.onset) spelled.onset; duration = unless_plain (is_plain_duration spelled.duration) spelled.duration } ∷ behind.0,
      (bytes, rest, record { spelled = spelled; onset = refl; duration = refl }, whole, behind.1),
    )

pub unlaid : (lane : List ℕ) (tals : List TalValue) (layouts : List TalLayout) → IsLaidLane lane tals layouts → IsLaneOf lane tals
unlaid lane [] [] h = h
unlaid lane [] (layout ∷ layouts) h = absurd h
unlaid lane (tal ∷ tals) [] h = absurd h
unlaid lane (tal ∷ tals) (layout ∷ layouts) (bytes, rest, is, whole, more) = (bytes, rest, is.spelled, whole, unlaid rest tals layouts more)

pub lanes_have_layouts : LanesHaveLayouts
lanes_have_layouts lane tals = (laid lane tals, λ both. unlaid lane tals both.0 both.1)

-- lanes of files with one header
lanes-alike : (file other : List ℕ) (h : Head) → Conforms file h → Conforms other h → HaveSameTals file h other h → HaveSameAnnotationLanes file h other h
lanes-alike file other h c d same k s signal within get notes =
    let is = same k s signal within get notes in
    let long : length (lane_at file h k s) ≡ length (lane_at other h k s) =
    ap length (lane-is file h k s signal get) ∙ lane-long file h k s signal c within get
    ∙ sym (ap length (lane-is other h k s signal get) ∙ lane-long other h k s signal d within get) in
    lane_is_its_tals (lane_at file h k s) (lane_at other h k s) is.0 is.1 long is.2 is.3

-- from the parts to the bytes
parts-give : (file other : List ℕ) (h g : Head) → AreBytes file → AreBytes other → Conforms file h → Conforms other g → SayTheSame h g → head_layout_of file h ≡ head_layout_of other g
    → HaveSameSamples file h other g → HaveSameTals file h other g → file ≡ other
parts-give file other h g bytes more c d said layout samples tals =
    let front = (layout_is_the_rest file other h g c.header d.header).1 (said, layout) in
    let is : g ≡ h = sym (head-same file other h g c.header d.header front) in
    let lanes : HaveSameAnnotationLanes file h other g =
    subst (λ (k : Head). HaveSameAnnotationLanes file h other k) (sym is)
    (lanes-alike file other h c (subst (λ (k : Head). Conforms other k) is d) (subst (λ (k : Head). HaveSameTals file h other k) is tals)) in
    lanes_are_the_rest file other h g bytes more c d front samples lanes

-- the lane of each annotation signal holds TALs
pub bool-cases : (b : Bool) → (b ≡ true) ⊎ (b ≡ false)
bool-cases true = inl refl
bool-cases false = inr refl

pub lanes-first : (x : SignalHead) (xs : List SignalHead) (bytes : List ℕ) → is_annotations x.label ≡ true → annotation_lanes (x ∷ xs) bytes ≡ lane_of x bytes ∷ annotation_lanes xs bytes
lanes-first x xs bytes h = rw h refl

pub lanes-other : (x : SignalHead) (xs : List SignalHead) (bytes : List ℕ) → is_annotations x.label ≡ false → annotation_lanes (x ∷ xs) bytes ≡ annotation_lanes xs bytes
lanes-other x xs bytes h = rw h refl

some-tals : (lane : List ℕ) (lanes : List (List ℕ)) (talss : List (List TalValue)) → AreLanesOf (lane ∷ lanes) talss → (tals : List TalValue) × (rest : List (List TalValue)) × IsLaneOf lane tals × AreLanesOf lanes rest
some-tals lane lanes [] h = absurd h
some-tals lane lanes (tals ∷ talss) h = (tals, talss, h.0, h.1)

lane-holds : (signals : List SignalHead) (bytes : List ℕ) (talss : List (List TalValue)) (s : ℕ) (signal : SignalHead) → AreLanesOf (annotation_lanes signals bytes) talss
    → slice_get signals s ≡ Some signal → is_annotations signal.label ≡ true → (tals : List TalValue) × IsLaneOf (lane_of signal bytes) tals
lane-holds [] bytes talss s signal lanes e notes = absurd (let z : None ≡ Some signal = e in cc)
lane-holds (x ∷ xs) bytes talss zero signal lanes e notes =
    let is : x ≡ signal = cc in
    let first = subst (λ ls. AreLanesOf ls talss) (lanes-first x xs bytes (ap (λ (z : SignalHead). is_annotations z.label) is ∙ notes)) lanes in
    let one = some-tals (lane_of x bytes) (annotation_lanes xs bytes) talss first in
    (one.0, subst (λ (z : SignalHead). IsLaneOf (lane_of z bytes) one.0) is one.2)
lane-holds (x ∷ xs) bytes talss (suc s) signal lanes e notes = elim (bool-cases (is_annotations x.label)) [
  | inl first ↦
      let one = some-tals (lane_of x bytes) (annotation_lanes xs bytes) talss (subst (λ ls. AreLanesOf ls talss) (lanes-first x xs bytes first) lanes) in
      lane-holds xs bytes one.1 s signal one.3 e notes
  | inr none ↦ lane-holds xs bytes talss s signal (subst (λ ls. AreLanesOf ls talss) (lanes-other x xs bytes none) lanes) e notes
]

same-tals : (file : List ℕ) (h : Head) → Conforms file h → HaveSameTals file h file h
same-tals file h c k s signal within get notes =
    let says = (c.says).say k within in
    let holds = lane-holds h.signals (record_at file h k) _ s signal says.lanes get notes in
    let layouts = laid (lane_of signal (record_at file h k)) holds.0 holds.1 in
    let is : IsLaidLane (lane_at file h k s) holds.0 layouts.0 = subst (λ lane. IsLaidLane lane holds.0 layouts.0) (sym (lane-is file h k s signal get)) layouts.1 in
    (holds.0, layouts.0, is, is)

-- from the bytes to the parts
bytes-give : (file other : List ℕ) (h g : Head) → Conforms file h → Conforms other g → file ≡ other
    → SayTheSame h g × (head_layout_of file h ≡ head_layout_of other g) × HaveSameSamples file h other g × HaveSameTals file h other g
bytes-give file other h g c d same =
    let again : Conforms file g = subst (λ f. Conforms f g) (sym same) d in
    let is : h ≡ g = one_head file h g (c.header).head (again.header).head in
    let front : header_of file h ≡ header_of other g = ap (λ (k : Head). header_of file k) is ∙ ap (λ f. header_of f g) same in
    let both = (layout_is_the_rest file other h g c.header d.header).0 front in (
      both.0,
      both.1,
      subst (λ (k : Head). HaveSameSamples file h other k) is (subst (λ f. HaveSameSamples file h f h) same (λ x. (λ y. y, λ y. y))),
      subst (λ (k : Head). HaveSameTals file h other k) is (subst (λ f. HaveSameTals file h f h) same (same-tals file h c)),
    )

pub file_is_its_parts : FileIsItsParts
file_is_its_parts file other h g bytes more c d =
    (bytes-give file other h g c d, λ parts. parts-give file other h g bytes more c d parts.0 parts.1 parts.2 parts.3)
