-- The lanes of a plain order are laid out, and compared one by one with those of a file.
use Rattle.std.proofs.Common.{◌≡◌, ℕ, ℤ, Bool, true, false, cond, zero, suc, ◌==◌, ◌+◌, ◌-◌, ◌*◌, ◌<◌, ◌≤◌, List, [], ◌∷◌, ◌++◌, length, get_or, take, drop, map, arith, refl, ap, ◌∙◌, sym, subst, append_assoc}
use Rattle.std.specs.List.{flat_map}
use Rattle.std.specs.Str.{bytes_eq}
use Rattle.std.proofs.Math.Seq.{drop-nil, drop-cons}
use Rattle.std.proofs.lemmas.Bool.Decides.{nat_tests}
use Rattle.std.proofs.lemmas.Slice.Eq.{bytes_eq-Decides}
use Rattle.std.proofs.lemmas.List.{append-nil, drop_all, take-map, drop-map, drop-drop}
use Rattle.edf_tal.specs.Tals.{TalValue}
use Rattle.edf_stream.specs.annotation.Notes.{NoteValue}
use Rattle.edf_layout.specs.body.BodyLayouts.{PlacedTal, RecordLayout, BodyLayout, content_of, timekeeping_of, lane_contents}
use Rattle.edf_layout.specs.body.LaneReading.{keeps_now, IsLaidAs}
use Rattle.edf_layout.specs.body.OddLanes.{OddLane, front_of, odd_lane, odd_in, odd_from, odd_lanes, tal_lines}
use Rattle.edf_layout.specs.body.PlainLanes.{plain_view, lane_view}
use Rattle.edf_layout.specs.body.PlainOrders.{PlainOrder, FilledLane, placed_plainly, plain_record, parts_of, plain_lanes, bare_record, filled}
use Rattle.edf_layout.specs.declared.plain_lanes.PlainLane.{PlainLane}
use Rattle.edf_layout.specs.declared.plain_lanes.PlainTal.{PlainTal}
use Rattle.edf_layout.specs.whole.LaneRows.{HasLaneLayout, HaveLaneLayouts, HaveRowLayouts, plainly_laid, plain_tals, tals_at}
use Rattle.edf_layout.proofs.body.ContentFacts.{cons-first, cons-rest, not-nil}
use Rattle.edf_layout.proofs.body.LayoutFacts.{spelled_of, said_of}

-- ---- plain TALs

pub laid-more : (notes : List NoteValue) (keeps : Bool) (before after : List PlacedTal) (tal : TalValue) (rest : List TalValue) (p : PlacedTal)
    → p ≡ placed_plainly p.content
    → (keeps_now keeps before ≡ true → p.content ≡ timekeeping_of notes tal) → (keeps_now keeps before ≡ false → p.content ≡ content_of notes tal)
    → after ≡ before ++ p ∷ []
    → after ++ plainly_laid notes (keeps_now keeps after) rest ≡ before ++ plainly_laid notes (keeps_now keeps before) (tal ∷ rest)
laid-more notes keeps before after tal rest p plain time other pushed =
    ap (λ b. after ++ plainly_laid notes b rest) later
    ∙ ap (λ xs. xs ++ map placed_plainly (lane_contents notes rest)) pushed
    ∙ append_assoc before (p ∷ []) (map placed_plainly (lane_contents notes rest))
    ∙ ap (λ xs. before ++ xs) (ap (λ q. q ∷ map placed_plainly (lane_contents notes rest)) plain ∙ contents (keeps_now keeps before) time other)
  where
    later : keeps_now keeps after ≡ false
    later = ap (keeps_now keeps) pushed ∙ behind-one before
      where
        behind-one : (xs : List PlacedTal) → keeps_now keeps (xs ++ p ∷ []) ≡ false
        behind-one [] = refl
        behind-one (x ∷ xs) = refl

    contents : (b : Bool) → (b ≡ true → p.content ≡ timekeeping_of notes tal) → (b ≡ false → p.content ≡ content_of notes tal)
        → placed_plainly p.content ∷ map placed_plainly (lane_contents notes rest) ≡ plainly_laid notes b (tal ∷ rest)
    contents true h k = ap (λ c. placed_plainly c ∷ map placed_plainly (lane_contents notes rest)) (h refl)
    contents false h k = ap (λ c. placed_plainly c ∷ map placed_plainly (lane_contents notes rest)) (k refl)

-- nothing is left
pub laid-all : (notes : List NoteValue) (b : Bool) (laid whole : List PlacedTal) → laid ++ plainly_laid notes b [] ≡ whole → laid ≡ whole
laid-all notes b laid whole e = sym (append-nil laid) ∙ ap (λ xs. laid ++ xs) (sym (nothing b)) ∙ e
  where
    nothing : (b : Bool) → plainly_laid notes b [] ≡ []
    nothing true = refl
    nothing false = refl

-- ---- a lane of a file

-- TALs are told by their spelling and by what they say
placed-same : (ps qs : List PlacedTal) → spelled_of ps ≡ spelled_of qs → said_of ps ≡ said_of qs → ps ≡ qs
placed-same [] [] s c = refl
placed-same [] (q ∷ qs) s c = absurd (not-nil q.spelling (spelled_of qs) s)
placed-same (p ∷ ps) [] s c = absurd (not-nil p.spelling (spelled_of ps) (sym s))
placed-same (p ∷ ps) (q ∷ qs) s c =
    let one : p.spelling ≡ q.spelling = cons-first p.spelling q.spelling (spelled_of ps) (spelled_of qs) s in
    let two : p.content ≡ q.content = cons-first p.content q.content (said_of ps) (said_of qs) c in
    ap (λ x. (record { spelling = x; content = p.content }) ∷ ps) one
    ∙ ap (λ x. (record { spelling = q.spelling; content = x }) ∷ ps) two
    ∙ ap (λ xs. q ∷ xs) (placed-same ps qs (cons-rest p.spelling q.spelling (spelled_of ps) (spelled_of qs) s) (cons-rest p.content q.content (said_of ps) (said_of qs) c))

pub lane-laid : (notes : List NoteValue) (keeps : Bool) (lane : List ℕ) (laid got : List PlacedTal)
    → (h : HasLaneLayout notes keeps lane laid) → IsLaidAs notes keeps h.tals (spelled_of laid) got → got ≡ laid
lane-laid notes keeps lane laid got h is = placed-same got laid is.spelled (is.said ∙ sym h.said)

pub odd-same : (k j : ℕ) (laid plain got expected : List PlacedTal) (b : Bool) → got ≡ laid → expected ≡ plain
    → b ≡ bytes_eq (tal_lines got) (tal_lines expected) → b ≡ true → odd_lane k j laid plain ≡ []
odd-same k j laid plain got expected b one two same is =
    ap (λ t. cond t [] (record { data_record = k; number = j; tals = laid } ∷ []))
    (ap (λ xs. bytes_eq (tal_lines xs) (tal_lines plain)) (sym one) ∙ ap (λ xs. bytes_eq (tal_lines got) (tal_lines xs)) (sym two) ∙ sym same ∙ is)

-- what is laid as the plain order has it isn't odd
pub odd-none : (k j : ℕ) (laid plain : List PlacedTal) → laid ≡ plain → odd_lane k j laid plain ≡ []
odd-none k j laid plain same =
    ap (λ t. cond t [] (record { data_record = k; number = j; tals = laid } ∷ []))
    ((bytes_eq-Decides (tal_lines laid) (tal_lines plain)).1 (ap tal_lines same))

pub odd-other : (k j : ℕ) (laid plain got expected : List PlacedTal) (b : Bool) → got ≡ laid → expected ≡ plain
    → b ≡ bytes_eq (tal_lines got) (tal_lines expected) → b ≡ false → odd_lane k j laid plain ≡ record { data_record = k; number = j; tals = got } ∷ []
odd-other k j laid plain got expected b one two same is =
    ap (λ t. cond t [] (record { data_record = k; number = j; tals = laid } ∷ []))
    (ap (λ xs. bytes_eq (tal_lines xs) (tal_lines plain)) (sym one) ∙ ap (λ xs. bytes_eq (tal_lines got) (tal_lines xs)) (sym two) ∙ sym same ∙ is)
    ∙ ap (λ (xs : List PlacedTal). record { data_record = k; number = j; tals = xs } ∷ []) (sym one)

-- ---- the lanes of a data record

-- what a plain order puts into the lane at a place of a data record
plain-rest : (notes : List NoteValue) (lanes : List PlainLane) (i : ℕ)
    → front_of (drop i (map (λ contents. map placed_plainly contents) (map (lane_contents notes) (map (plain_tals notes) lanes))))
    ≡ plainly_laid notes false (map (plain_view notes) (tals_at lanes i))
plain-rest notes [] i = ap front_of (drop-nil i)
plain-rest notes (l ∷ ls) zero = refl
plain-rest notes (l ∷ ls) (suc i) = plain-rest notes ls i

plain-at : (notes : List NoteValue) (lanes : List PlainLane) (j : ℕ)
    → front_of (drop j (plain_record notes (map (plain_tals notes) lanes))) ≡ plainly_laid notes (j == 0) (map (plain_view notes) (tals_at lanes j))
plain-at notes [] j = ap front_of (drop-nil j) ∙ nothing (j == 0)
  where
    nothing : (b : Bool) → [] ≡ plainly_laid notes b []
    nothing true = refl
    nothing false = refl
plain-at notes (l ∷ ls) zero = refl
plain-at notes (l ∷ ls) (suc i) = plain-rest notes ls i ∙ ap (λ b. plainly_laid notes b (map (plain_view notes) (tals_at ls i))) (sym (not-first i))
  where
    not-first : (i : ℕ) → (suc i == 0) ≡ false
    not-first i = grind (arith, nat_tests)

-- the lanes that are left of a data record behind the first j
pub record LanesLeft (notes : List NoteValue) (k j : ℕ) (lanes : List (List ℕ)) (plains : RecordLayout) (odd whole : List OddLane) : Type 0 where
  pub rest : RecordLayout
  pub laid : HaveLaneLayouts notes j lanes rest
  pub told : odd ++ odd_in k j rest plains ≡ whole

pub no-lane-left : (notes : List NoteValue) (k j : ℕ) (plains : RecordLayout) (odd whole : List OddLane) → LanesLeft notes k j [] plains odd whole → odd ≡ whole
no-lane-left notes k j plains odd whole l = ends l.rest l.laid l.told
  where
    ends : (rest : RecordLayout) → HaveLaneLayouts notes j [] rest → odd ++ odd_in k j rest plains ≡ whole → odd ≡ whole
    ends [] h e = sym (append-nil odd) ∙ e
    ends (r ∷ rs) h e = absurd h

pub one-lane-less : (notes : List NoteValue) (k j : ℕ) (lane : List ℕ) (lanes : List (List ℕ)) (plain : List PlainLane) (odd after whole : List OddLane)
    → ((laid : List PlacedTal) → HasLaneLayout notes (j == 0) lane laid
    → after ≡ odd ++ odd_lane k j laid (plainly_laid notes (j == 0) (map (plain_view notes) (tals_at plain j))))
    → LanesLeft notes k j (lane ∷ lanes) (drop j (plain_record notes (map (plain_tals notes) plain))) odd whole
    → LanesLeft notes k (j + 1) lanes (drop (j + 1) (plain_record notes (map (plain_tals notes) plain))) after whole
one-lane-less notes k j lane lanes plain odd after whole put l = goes l.rest l.laid l.told
  where
    plains : RecordLayout
    plains = plain_record notes (map (plain_tals notes) plain)

    goes : (rest : RecordLayout) → HaveLaneLayouts notes j (lane ∷ lanes) rest → odd ++ odd_in k j rest (drop j plains) ≡ whole
        → LanesLeft notes k (j + 1) lanes (drop (j + 1) plains) after whole
    goes [] h e = absurd h
    goes (laid ∷ rest) h e = record {
      rest = rest;
      laid = h.1;
      told =
          ap (λ xs. xs ++ odd_in k (j + 1) rest (drop (j + 1) plains)) (put laid h.0 ∙ ap (λ ps. odd ++ odd_lane k j laid ps) (sym (plain-at notes plain j)))
          ∙ append_assoc odd (odd_lane k j laid (front_of (drop j plains))) (odd_in k (j + 1) rest (drop (j + 1) plains))
          ∙ ap (λ ps. odd ++ (odd_lane k j laid (front_of (drop j plains)) ++ odd_in k (j + 1) rest ps)) (dropped j plains)
          ∙ e;
    }
      where
        dropped : (j : ℕ) (xs : RecordLayout) → drop (j + 1) xs ≡ drop 1 (drop j xs)
        dropped j xs = sym (drop-drop 1 j xs)

-- the same by the plain lanes as the code holds them
pub lanes-step : (notes : List NoteValue) (k j : ℕ) (lanes : List (List ℕ)) (lane : List ℕ) (plain : List PlainLane) (standing : List PlainTal)
    (odd after whole : List OddLane) → j < length lanes → lane ≡ get_or lanes j lane → standing ≡ tals_at plain j
    → ((laid : List PlacedTal) → HasLaneLayout notes (j == 0) lane laid
    → after ≡ odd ++ odd_lane k j laid (plainly_laid notes (j == 0) (map (plain_view notes) standing)))
    → LanesLeft notes k j (drop j lanes) (drop j (plain_record notes (map (plain_tals notes) plain))) odd whole
    → LanesLeft notes k (j + 1) (drop (j + 1) lanes) (drop (j + 1) (plain_record notes (map (plain_tals notes) plain))) after whole
lanes-step notes k j lanes lane plain standing odd after whole low is there put l =
    let less : suc j ≡ j + 1 = omega arith in
    let cut : drop j lanes ≡ lane ∷ drop (j + 1) lanes =
    drop-cons lanes j lane low ∙ ap (λ z. z ∷ drop (suc j) lanes) (sym is) ∙ ap (λ n. lane ∷ drop n lanes) less in
    one-lane-less notes k j lane (drop (j + 1) lanes) plain odd after whole
    (λ laid h. put laid h ∙ ap (λ ts. odd ++ odd_lane k j laid (plainly_laid notes (j == 0) (map (plain_view notes) ts))) there)
    (subst (λ ls. LanesLeft notes k j ls (drop j (plain_record notes (map (plain_tals notes) plain))) odd whole) cut l)

pub all-lanes : (notes : List NoteValue) (k j : ℕ) (lanes : List (List ℕ)) (plains : RecordLayout) (odd whole : List OddLane)
    → length lanes ≤ j → LanesLeft notes k j (drop j lanes) plains odd whole → odd ≡ whole
all-lanes notes k j lanes plains odd whole end l = no-lane-left notes k j plains odd whole (subst (λ ls. LanesLeft notes k j ls plains odd whole) (drop_all j lanes end) l)

-- ---- the data records of a file

-- what a plain order puts into the lanes that are left, for so many data records
pub plains_of : List NoteValue → ℕ → ℕ → List PlainLane → BodyLayout
plains_of notes width n rest = map (plain_record notes) (parts_of width n (map (λ (lane : FilledLane). lane.tals) (map (lane_view notes) rest)))

-- the data records that are left behind the first k
pub record RowsLeft (notes : List NoteValue) (k : ℕ) (rows : List (List (List ℕ))) (plains : BodyLayout) (odd whole : List OddLane) : Type 0 where
  pub rest : BodyLayout
  pub laid : HaveRowLayouts notes rows rest
  pub told : odd ++ odd_from k rest plains ≡ whole

pub no-row-left : (notes : List NoteValue) (k : ℕ) (plains : BodyLayout) (odd whole : List OddLane) → RowsLeft notes k [] plains odd whole → odd ≡ whole
no-row-left notes k plains odd whole l = ends l.rest l.laid l.told
  where
    ends : (rest : BodyLayout) → HaveRowLayouts notes [] rest → odd ++ odd_from k rest plains ≡ whole → odd ≡ whole
    ends [] h e = sym (append-nil odd) ∙ e
    ends (r ∷ rs) h e = absurd h

pub one-row-less : (notes : List NoteValue) (k width n : ℕ) (lanes : List (List ℕ)) (rows : List (List (List ℕ))) (here plain : List PlainLane) (odd after whole : List OddLane)
    → here ≡ take width plain
    → ((layout : RecordLayout) → HaveLaneLayouts notes 0 lanes layout
    → after ≡ odd ++ odd_in k 0 layout (plain_record notes (map (plain_tals notes) here)))
    → RowsLeft notes k (lanes ∷ rows) (plains_of notes width (suc n) plain) odd whole
    → RowsLeft notes (k + 1) rows (plains_of notes width n (drop width plain)) after whole
unfolding plains_of
one-row-less notes k width n lanes rows here plain odd after whole is put l = goes l.rest l.laid l.told
  where
    tals : FilledLane → List TalValue
    tals = λ (lane : FilledLane). lane.tals

    behind : BodyLayout
    behind = map (plain_record notes) (parts_of width n (drop width (map tals (map (lane_view notes) plain))))

    rest-is : map (plain_record notes) (parts_of width n (map tals (map (lane_view notes) (drop width plain)))) ≡ behind
    rest-is = ap (λ xs. map (plain_record notes) (parts_of width n xs)) (ap (map tals) (sym (drop-map (lane_view notes) width plain)) ∙ sym (drop-map tals width (map (lane_view notes) plain)))

    both : (xs : List PlainLane) → map tals (map (lane_view notes) xs) ≡ map (plain_tals notes) xs
    both [] = refl
    both (x ∷ xs) = ap (λ ys. plain_tals notes x ∷ ys) (both xs)

    front-is : plain_record notes (map (plain_tals notes) here) ≡ plain_record notes (take width (map tals (map (lane_view notes) plain)))
    front-is = ap (plain_record notes) (sym (both here) ∙ ap (λ xs. map tals (map (lane_view notes) xs)) is ∙ ap (map tals) (sym (take-map (lane_view notes) width plain)) ∙ sym (take-map tals width (map (lane_view notes) plain)))

    goes : (rest : BodyLayout) → HaveRowLayouts notes (lanes ∷ rows) rest
        → odd ++ odd_from k rest (plain_record notes (take width (map tals (map (lane_view notes) plain))) ∷ behind) ≡ whole
        → RowsLeft notes (k + 1) rows (plains_of notes width n (drop width plain)) after whole
    goes [] h e = absurd h
    goes (layout ∷ rest) h e =
        let front = plain_record notes (take width (map tals (map (lane_view notes) plain))) in
        record {
          rest = rest;
          laid = h.1;
          told =
              ap (λ xs. xs ++ odd_from (k + 1) rest (plains_of notes width n (drop width plain))) (put layout h.0 ∙ ap (λ p. odd ++ odd_in k 0 layout p) front-is)
              ∙ append_assoc odd (odd_in k 0 layout front) (odd_from (k + 1) rest (plains_of notes width n (drop width plain)))
              ∙ ap (λ ps. odd ++ (odd_in k 0 layout front ++ odd_from (k + 1) rest ps)) rest-is
              ∙ e;
        }

-- the same by the plain lanes as the code holds them
pub rows-step : (notes : List NoteValue) (k width count : ℕ) (rows : List (List (List ℕ))) (lanes : List (List ℕ)) (plain here : List PlainLane)
    (odd after whole : List OddLane) → k < length rows → length rows ≡ count → lanes ≡ get_or rows k lanes → here ≡ take width (drop (k * width) plain)
    → ((layout : RecordLayout) → HaveLaneLayouts notes 0 lanes layout → after ≡ odd ++ odd_in k 0 layout (plain_record notes (map (plain_tals notes) here)))
    → RowsLeft notes k (drop k rows) (plains_of notes width (count - k) (drop (k * width) plain)) odd whole
    → RowsLeft notes (k + 1) (drop (k + 1) rows) (plains_of notes width (count - (k + 1)) (drop ((k + 1) * width) plain)) after whole
rows-step notes k width count rows lanes plain here odd after whole low long is front put l =
    let less : suc k ≡ k + 1 = omega arith in
    let cut : drop k rows ≡ lanes ∷ drop (k + 1) rows =
    drop-cons rows k lanes low ∙ ap (λ z. z ∷ drop (suc k) rows) (sym is) ∙ ap (λ n. lanes ∷ drop n rows) less in
    let left : count - k ≡ suc (count - (k + 1)) = omega (arith, low, long) in
    let rest = drop (k * width) plain in
    let product : k * width + width ≡ (k + 1) * width = omega arith in
    let dropped : drop ((k + 1) * width) plain ≡ drop width rest = sym (drop-drop width (k * width) plain ∙ ap (λ n. drop n plain) product) in
    subst (λ ps. RowsLeft notes (k + 1) (drop (k + 1) rows) (plains_of notes width (count - (k + 1)) ps) after whole) (sym dropped)
    (one-row-less notes k width (count - (k + 1)) lanes (drop (k + 1) rows) here rest odd after whole front put
    (subst (λ n. RowsLeft notes k (lanes ∷ drop (k + 1) rows) (plains_of notes width n rest) odd whole) left
    (subst (λ rs. RowsLeft notes k rs (plains_of notes width (count - k) rest) odd whole) cut l)))

-- before the first data record
pub rows-begun : (order : PlainOrder) (notes : List NoteValue) (sizes : List ℕ) (starts : List ℤ) (plain : List PlainLane) (rows : List (List (List ℕ))) (layout : BodyLayout)
    → map (lane_view notes) plain ≡ filled order starts (length sizes) 0 notes (flat_map (bare_record sizes) starts) → HaveRowLayouts notes rows layout
    → RowsLeft notes 0 rows (plains_of notes (length sizes) (length starts - 0) plain) [] (odd_lanes order notes sizes starts layout)
unfolding plains_of odd_lanes plain_lanes
rows-begun order notes sizes starts plain rows layout is h =
    let all : length starts - 0 ≡ length starts = omega arith in
    record {
      rest = layout;
      laid = h;
      told = ap (λ n. odd_from 0 layout (map (plain_record notes) (parts_of (length sizes) n (map (λ (lane : FilledLane). lane.tals) (map (lane_view notes) plain))))) all
          ∙ ap (λ ls. odd_from 0 layout (map (plain_record notes) (parts_of (length sizes) (length starts) (map (λ (lane : FilledLane). lane.tals) ls)))) is;
    }

-- where there is no data record
pub no-rows : (order : PlainOrder) (notes : List NoteValue) (sizes : List ℕ) (starts : List ℤ) (count : ℕ) (rows : List (List (List ℕ))) (layout : BodyLayout)
    → (count == 0) ≡ true → length rows ≡ count → HaveRowLayouts notes rows layout → [] ≡ odd_lanes order notes sizes starts layout
unfolding odd_lanes
no-rows order notes sizes starts count rows layout none long h = cases rows layout (long ∙ nought count none) h
  where
    nought : (n : ℕ) → (n == 0) ≡ true → n ≡ 0
    nought n e = grind (arith, nat_tests)

    cases : (rows : List (List (List ℕ))) (layout : BodyLayout) → length rows ≡ 0 → HaveRowLayouts notes rows layout → [] ≡ odd_lanes order notes sizes starts layout
    cases [] [] e h = refl
    cases [] (l ∷ ls) e h = absurd h
    cases (x ∷ xs) layout e h = absurd (omega (arith, e))

pub all-rows : (notes : List NoteValue) (k : ℕ) (rows : List (List (List ℕ))) (plains : BodyLayout) (odd whole : List OddLane)
    → length rows ≤ k → RowsLeft notes k (drop k rows) plains odd whole → odd ≡ whole
all-rows notes k rows plains odd whole end l = no-row-left notes k plains odd whole (subst (λ rs. RowsLeft notes k rs plains odd whole) (drop_all k rows end) l)
