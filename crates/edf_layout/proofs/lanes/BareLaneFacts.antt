-- A bare lane has one layout, and is told by its first TAL.
use Rattle.std.proofs.Common.{◌≡◌, ◌↔◌, ℕ, zero, suc, ℤ, ◌-◌, ◌<◌, ◌≤◌, ◌⊎◌, ◌^◌, ◌==◌, Bool, true, false, IsTrue, List, [], ◌∷◌, ◌++◌, map, drop, unsigned_abs, Option, None, Some, Result, Ok, Err, IfOk, refl, ap, ◌∙◌, sym, subst}
use Rattle.std.specs.Option.{is_some, option_map_or}
use Rattle.std.proofs.lemmas.List.Elements.{All-nil, All-cons}
use Rattle.std.proofs.lemmas.Str.{IsUtf8-nil}
use Rattle.std.proofs.lemmas.List.{append-nil}
use Rattle.edf_header.specs.Heads.{Head}
use Rattle.edf_stream.specs.annotation.Notes.{NoteValue}
use Rattle.edf_stream.specs.annotation.NotesReading.{notes_of_items, notes_of_lanes, notes_in}
use Rattle.edf_stream.specs.records.Records.{annotation_lanes}
use Rattle.edf_layout.specs.declared.whole.kept_lane.KeptLane.{KeptLane}
use Rattle.edf_tal.specs.Reading.{are_zeros, until, Item, items_of}
use Rattle.edf_tal.specs.Tals.{TalValue, SpellsTal, IsText}
use Rattle.edf_tal.specs.Timekeeping.{IsTimeAlone, time_tal}
use Rattle.edf_tal.proofs.ForCallers.{lane-read, lane-spelled}
use Rattle.edf_layout.specs.PlainLaws.{is_plain_onset}
use Rattle.edf_layout.specs.body.BodyLayouts.{PlacedTal}
use Rattle.edf_layout.specs.body.LaneLayouts.{TalLayout, IsLaidTal, IsLaidLane, is_plain_duration, unless_plain}
use Rattle.edf_layout.specs.body.LaneReading.{IsLaidAs, contents_by}
use Rattle.edf_layout.specs.body.PlainBodyLaws.{CanStand}
use Rattle.edf_layout.specs.body.PlainOrders.{plain_tal, tal_bytes, tal_of_start}
use Rattle.edf_layout.specs.whole.KeptLanes.{IsBare, zeros, bare_bytes, record_kept, bare_layout}
use Rattle.edf_layout.specs.whole.LaneRows.{HasLaneLayout}
use Rattle.edf_layout.specs.body.OddLanes.{odd_lane}
use Rattle.edf_layout.proofs.body.ContentFacts.{cons-first, not-nil}
use Rattle.edf_layout.proofs.body.LaneFacts.{unlaid}
use Rattle.edf_layout.proofs.body.LayoutFacts.{spelled_of, items-tell, lane-layout}
use Rattle.edf_layout.proofs.body.PlainTalFacts.{tal-spelled, one_plain_tal}
use Rattle.edf_layout.proofs.lanes.LaneReadFacts.{head-read}
use Rattle.edf_layout.proofs.lanes.OddRowFacts.{lane-laid, odd-none}

-- the TAL that keeps the time can stand in a lane
stands : (start : ℤ) → unsigned_abs start < 10 ^ 21 → CanStand (tal_of_start start)
stands start near = record { onset = near; duration = tt; texts = All-cons IsText [] [] (IsUtf8-nil, All-nil (λ b. (32 ≤ b) ⊎ (b ≡ 9) ⊎ (b ≡ 10) ⊎ (b ≡ 13))) (All-nil IsText) }

plain-layout : TalLayout
plain-layout = record { onset = None; duration = None }

-- ---- whether a lane is bare

-- what stands before its first text is the onset
onset-alone : (lane bytes rest : List ℕ) (start : ℤ) → (s : SpellsTal bytes (tal_of_start start)) → lane ≡ bytes ++ 0 ∷ rest → until 20 lane ≡ s.onset
onset-alone lane bytes rest start s whole =
    head-read lane bytes rest (tal_of_start start) s whole ∙ ap (λ d. s.onset ++ d) s.duration_is ∙ append-nil s.onset

alone-bare : (lane : List ℕ) (start : ℤ) → unsigned_abs start < 10 ^ 21 → IsTimeAlone lane start → is_plain_onset (until 20 lane) ≡ true → IsBare true start lane
unfolding plain-layout
alone-bare lane start near (bytes, rest, s, whole, none) plain =
    let tal : TalValue = tal_of_start start in
    let own : is_plain_onset s.onset ≡ true = ap is_plain_onset (sym (onset-alone lane bytes rest start s whole)) ∙ plain in
    let onset : None ≡ unless_plain (is_plain_onset s.onset) s.onset = sym (ap (λ b. unless_plain b s.onset) own) in
    let duration : None ≡ unless_plain (is_plain_duration s.duration) s.duration = ap (λ d. unless_plain (is_plain_duration d) d) (sym s.duration_is) in
    let plainly : IsLaidTal bytes tal plain-layout = record { spelled = s; onset = onset; duration = duration } in
    (rest, whole ∙ ap (λ b. b ++ 0 ∷ rest) ((one_plain_tal tal (stands start near) bytes).0 plainly), none)

bare-alone : (lane : List ℕ) (start : ℤ) → unsigned_abs start < 10 ^ 21 → IsBare true start lane → IsTimeAlone lane start × (is_plain_onset (until 20 lane) ≡ true)
unfolding plain-layout
bare-alone lane start near (rest, whole, none) =
    let tal : TalValue = tal_of_start start in
    let laid : IsLaidTal (plain_tal tal) tal plain-layout = tal-spelled tal (stands start near) in
    let s = laid.spelled in
    ((plain_tal tal, rest, s, whole, none), ap is_plain_onset (onset-alone lane (plain_tal tal) rest start s whole) ∙ is-plain (is_plain_onset s.onset) s.onset laid.onset)
  where
    is-plain : (b : Bool) (t : List ℕ) → None ≡ unless_plain b t → b ≡ true
    is-plain true t e = refl
    is-plain false t e = absurd (let z : None ≡ Some t = e in cc)

-- by the start that is read, and how it is spelled
pub alone_told : (lane : List ℕ) (start : ℤ) (b : Bool) → unsigned_abs start < 10 ^ 21 → IsTimeAlone lane start → b ≡ is_plain_onset (until 20 lane) → IsTrue b ↔ IsBare true start lane
alone_told lane start b near alone is = (λ h. alone-bare lane start near alone (sym is ∙ h), λ bare. is ∙ (bare-alone lane start near bare).1)

pub other_told : (lane : List ℕ) (start other : ℤ) → unsigned_abs start < 10 ^ 21 → IsTimeAlone lane other → (other ≡ start → ⊥) → IsTrue false ↔ IsBare true start lane
other_told lane start other near alone apart = (
  λ h. absurd (let z : false ≡ true = h in cc),
  λ bare. absurd (apart (one (lane-read (time_tal other ∷ []) lane alone) (lane-read (time_tal start ∷ []) lane (bare-alone lane start near bare).0))),
)
  where
    one : items_of lane ≡ map Ok (time_tal other ∷ []) → items_of lane ≡ map Ok (time_tal start ∷ []) → other ≡ start
    one e f =
        let tals : time_tal other ∷ [] ≡ time_tal start ∷ [] = items-tell (time_tal other ∷ []) (time_tal start ∷ []) (items_of lane) e f in
        ap (λ (t : TalValue). t.onset) (cons-first (time_tal other) (time_tal start) [] [] tals)

pub none_told : (lane : List ℕ) (start : ℤ) → unsigned_abs start < 10 ^ 21 → ((v : ℤ) → IsTimeAlone lane v → ⊥) → IsTrue false ↔ IsBare true start lane
none_told lane start near none = (λ h. absurd (let z : false ≡ true = h in cc), λ bare. absurd (none start (bare-alone lane start near bare).0))

-- by its items
pub zeros_told : (lane : List ℕ) → items_of lane ≡ [] → IsTrue true ↔ (are_zeros lane ≡ true)
zeros_told lane none = (λ h. lane-spelled [] lane none, λ h. refl)

pub tals_told : (lane : List ℕ) (item : Item) (more : List Item) → items_of lane ≡ item ∷ more → IsTrue false ↔ (are_zeros lane ≡ true)
tals_told lane item more some = (
  λ h. absurd (let z : false ≡ true = h in cc),
  λ h. absurd (not-nil item more (sym (lane-read [] lane h) ∙ some)),
)

-- ---- what a bare lane says

zeros-none : (n : ℕ) → are_zeros (zeros n) ≡ true
zeros-none zero = refl
zeros-none (suc n) = zeros-none n

time-read : (notes : List NoteValue) (start : ℤ) (size : ℕ) (laid : List PlacedTal) → unsigned_abs start < 10 ^ 21
    → HasLaneLayout notes true (bare_bytes true start size) laid → bare_layout true ≡ laid
unfolding plain-layout
time-read notes start size laid near h =
    let tal : TalValue = tal_of_start start in
    let lane = bare_bytes true start size in
    let left = size - tal_bytes tal in
    let own : IsLaidLane lane (tal ∷ []) (plain-layout ∷ []) = (plain_tal tal, zeros left, tal-spelled tal (stands start near), refl, zeros-none left) in
    let tals : tal ∷ [] ≡ h.tals = items-tell (tal ∷ []) h.tals (items_of lane) (lane-read (tal ∷ []) lane (unlaid lane (tal ∷ []) (plain-layout ∷ []) own))
    (lane-read h.tals lane (unlaid lane h.tals (spelled_of laid) h.spelled)) in
    let spelled : plain-layout ∷ [] ≡ spelled_of laid =
    lane-layout lane (tal ∷ []) (plain-layout ∷ []) (spelled_of laid) own (subst (λ ts. IsLaidLane lane ts (spelled_of laid)) (sym tals) h.spelled) in
    let laid-as : IsLaidAs notes true h.tals (spelled_of laid) (bare_layout true) = record { spelled = spelled; said = ap (contents_by true notes) tals } in
    lane-laid notes true lane laid (bare_layout true) h laid-as

nothing-read : (notes : List NoteValue) (start : ℤ) (size : ℕ) (laid : List PlacedTal) → HasLaneLayout notes false (bare_bytes false start size) laid → bare_layout false ≡ laid
nothing-read notes start size laid h =
    let lane = bare_bytes false start size in
    let own : IsLaidLane lane [] [] = zeros-none size in
    let tals : [] ≡ h.tals = items-tell [] h.tals (items_of lane) (lane-read [] lane (unlaid lane [] [] own)) (lane-read h.tals lane (unlaid lane h.tals (spelled_of laid) h.spelled)) in
    let spelled : [] ≡ spelled_of laid = lane-layout lane [] [] (spelled_of laid) own (subst (λ ts. IsLaidLane lane ts (spelled_of laid)) (sym tals) h.spelled) in
    let laid-as : IsLaidAs notes false h.tals (spelled_of laid) (bare_layout false) = record { spelled = spelled; said = ap (contents_by false notes) tals } in
    lane-laid notes false lane laid (bare_layout false) h laid-as

pub bare-read : (notes : List NoteValue) (keeps : Bool) (start : ℤ) (size : ℕ) (laid : List PlacedTal) → unsigned_abs start < 10 ^ 21
    → HasLaneLayout notes keeps (bare_bytes keeps start size) laid → bare_layout keeps ≡ laid
bare-read notes true start size laid near h = time-read notes start size laid near h
bare-read notes false start size laid near h = nothing-read notes start size laid h

-- lanes that are all bare have no annotation but the time
time-items : (start : ℤ) (size : ℕ) → unsigned_abs start < 10 ^ 21 → items_of (bare_bytes true start size) ≡ Ok (tal_of_start start) ∷ []
time-items start size near =
    let tal : TalValue = tal_of_start start in
    let bare : IsBare true start (bare_bytes true start size) = (zeros (size - tal_bytes tal), refl, zeros-none (size - tal_bytes tal)) in
    lane-read (tal ∷ []) (bare_bytes true start size) (bare-alone (bare_bytes true start size) start near bare).0

others-silent : (start : ℤ) (sizes : List ℕ) → notes_of_lanes (record_kept false start sizes []) ≡ []
others-silent start [] = refl
others-silent start (size ∷ sizes) =
    ap (λ items. notes_of_items items ++ notes_of_lanes (record_kept false start sizes [])) (lane-read [] (zeros size) (zeros-none size)) ∙ others-silent start sizes

bare-silent : (start : ℤ) (sizes : List ℕ) → unsigned_abs start < 10 ^ 21 → drop 1 (notes_of_lanes (record_kept true start sizes [])) ≡ []
bare-silent start [] near = refl
bare-silent start (size ∷ sizes) near =
    ap (λ items. drop 1 (notes_of_items items ++ notes_of_lanes (record_kept false start sizes []))) (time-items start size near) ∙ others-silent start sizes

pub none_noted : {X : Type 0} (h : Head) (bytes : List ℕ) (start : ℤ) (sizes : List ℕ) (kept : List KeptLane) (view : X → NoteValue) (notes : List X) → unsigned_abs start < 10 ^ 21
    → kept ≡ [] → record_kept true start sizes kept ≡ annotation_lanes h.signals bytes → map view notes ≡ map view notes ++ notes_in h bytes
unfolding notes_in
none_noted h bytes start sizes kept view notes near none are =
    let silent : drop 1 (notes_of_lanes (annotation_lanes h.signals bytes)) ≡ [] =
    ap (λ lanes. drop 1 (notes_of_lanes lanes)) (sym are) ∙ ap (λ ls. drop 1 (notes_of_lanes (record_kept true start sizes ls))) none ∙ bare-silent start sizes near in
    sym (ap (λ xs. map view notes ++ xs) silent ∙ append-nil (map view notes))

-- ---- a lane is laid out

pub lay_some : {B V E : Type 0} (now : B → List ℕ) (view : V → List PlacedTal) (notes : List NoteValue) (keeps : Bool) (own : Option B) (bytes : B) (r : Result V E) → own ≡ Some bytes
    → IfOk r (λ v. (tals : List TalValue) (layouts : List TalLayout) → IsLaidLane (now bytes) tals layouts → IsLaidAs notes keeps tals layouts (view v))
    → IfOk r (λ v. (start : ℤ) (size : ℕ) (laid : List PlacedTal) → unsigned_abs start < 10 ^ 21
    → HasLaneLayout notes keeps (option_map_or now own (bare_bytes keeps start size)) laid → view v ≡ laid)
lay_some now view notes keeps own bytes (Err e) is read = tt
lay_some {B} now view notes keeps own bytes (Ok v) is read = λ start size laid near h.
    let k : HasLaneLayout notes keeps (now bytes) laid = subst (λ (o : Option B). HasLaneLayout notes keeps (option_map_or now o (bare_bytes keeps start size)) laid) is h in
    lane-laid notes keeps (now bytes) laid (view v) k (read k.tals (spelled_of laid) k.spelled)

pub lay_none : {B V E : Type 0} (now : B → List ℕ) (view : V → List PlacedTal) (notes : List NoteValue) (keeps : Bool) (own : Option B) (r : Result V E) → own ≡ None
    → IfOk r (λ v. view v ≡ bare_layout keeps)
    → IfOk r (λ v. (start : ℤ) (size : ℕ) (laid : List PlacedTal) → unsigned_abs start < 10 ^ 21
    → HasLaneLayout notes keeps (option_map_or now own (bare_bytes keeps start size)) laid → view v ≡ laid)
lay_none now view notes keeps own (Err e) is read = tt
lay_none {B} now view notes keeps own (Ok v) is read = λ start size laid near h.
    read ∙ bare-read notes keeps start size laid near (subst (λ (o : Option B). HasLaneLayout notes keeps (option_map_or now o (bare_bytes keeps start size)) laid) is h)

-- a bare one into which the order puts nothing but the time
pub none_odd : {B : Type 0} (now : B → List ℕ) (notes : List NoteValue) (k j : ℕ) (own : Option B) (plain : List PlacedTal) (start : ℤ) (size : ℕ) (laid : List PlacedTal) → is_some own ≡ false
    → plain ≡ bare_layout (j == 0) → unsigned_abs start < 10 ^ 21 → HasLaneLayout notes (j == 0) (option_map_or now own (bare_bytes (j == 0) start size)) laid → odd_lane k j laid plain ≡ []
none_odd now notes k j None plain start size laid none is near h = odd-none k j laid plain (sym (bare-read notes (j == 0) start size laid near h) ∙ sym is)
none_odd now notes k j (Some b) plain start size laid none is near h = absurd (let z : true ≡ false = none in cc)
