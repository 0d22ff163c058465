-- The lanes of data records, as they are kept.
use Rattle.std.proofs.Common.{◌≡◌, ℕ, ℤ, zero, suc, Bool, true, false, ◌==◌, ◌+◌, ◌-◌, ◌*◌, ◌<◌, ◌≤◌, ◌&&◌, List, [], ◌∷◌, ◌++◌, length, map, take, get_or, slice_get, Option, Some, None, Result, Ok, Err, OnOk, refl, sym, ap, ◌∙◌, subst, arith, length-append}
use Rattle.std.specs.Global.{Vec}
use Rattle.std.specs.List.{filter}
use Rattle.std.specs.Option.{option_map, option_map_or}
use Rattle.std.proofs.Math.Seq.{take-suc}
use Rattle.std.proofs.lemmas.Bool.Decides.{nat_tests}
use Rattle.std.proofs.lemmas.List.{append-nil, map-append, take_all}
use Rattle.std.proofs.lemmas.List.Elements.{filter-append}
use Rattle.std.proofs.lemmas.Option.{slice_get-get_or}
use Rattle.edf_header.specs.Heads.{SignalHead, Head, is_annotations}
use Rattle.edf_tal.specs.Reading.{are_zeros}
use Rattle.edf_stream.specs.records.Records.{lane_of, annotation_lanes}
use Rattle.edf_stream.specs.records.RecordsReading.{numbered_lane, lane_bytes}
use Rattle.edf_layout.specs.body.PlainOrders.{plain_tal, tal_bytes, tal_of_start}
use Rattle.edf_layout.specs.whole.KeptLanes.{IsBare, zeros, bare_bytes, own_bytes, lane_kept, record_kept, rows_kept}
use Rattle.edf_layout.specs.declared.whole.kept_lane.KeptLane.{KeptLane}
use Rattle.edf_layout.specs.declared.whole.kept_lane.KeptLane.TheVariants as lanes

-- ---- a bare lane

zeros-are : (xs : List ℕ) → are_zeros xs ≡ true → zeros (length xs) ≡ xs
zeros-are [] h = refl
zeros-are (x ∷ xs) h =
    let both = and-both (x == 0) (are_zeros xs) h in
    ap (λ zs. 0 ∷ zs) (zeros-are xs both.1) ∙ ap (λ b. b ∷ xs) (sym (nought x both.0))
  where
    and-both : (a b : Bool) → (a && b) ≡ true → (a ≡ true) × (b ≡ true)
    and-both true b h = (refl, h)
    and-both false b h = absurd (let z : false ≡ true = h in cc)

    nought : (b : ℕ) → (b == 0) ≡ true → b ≡ 0
    nought b h = grind (arith, nat_tests)

-- its size and the start tell its bytes
pub bare-is : (first : Bool) (start : ℤ) (lane : List ℕ) → IsBare first start lane → bare_bytes first start (length lane) ≡ lane
bare-is false start lane h = zeros-are lane h
bare-is true start lane (rest, whole, none) =
    let tal = plain_tal (tal_of_start start) in
    let long : length lane ≡ length tal + suc (length rest) = ap length whole ∙ length-append tal (0 ∷ rest) in
    let left : length lane - tal_bytes (tal_of_start start) ≡ length rest = omega (arith, long) in
    ap (λ n. tal ++ 0 ∷ zeros n) left ∙ ap (λ zs. tal ++ 0 ∷ zs) (zeros-are rest none) ∙ sym whole

-- ---- one lane more

bare-more : (start : ℤ) (sizes : List ℕ) (size : ℕ) (kept : List KeptLane) → length kept ≤ length sizes
    → record_kept false start (sizes ++ size ∷ []) kept ≡ record_kept false start sizes kept ++ zeros size ∷ []
bare-more start [] size [] low = refl
bare-more start [] size (l ∷ ls) low = absurd (omega (arith, low))
bare-more start (s ∷ ss) size [] low = ap (λ xs. zeros s ∷ xs) (bare-more start ss size [] (omega arith))
bare-more start (s ∷ ss) size (l ∷ ls) low = ap (λ xs. lane_kept false start s l ∷ xs) (bare-more start ss size ls (omega (arith, low)))

own-more : (start : ℤ) (sizes : List ℕ) (size : ℕ) (kept : List KeptLane) (lane : KeptLane) → length kept ≡ length sizes
    → record_kept false start (sizes ++ size ∷ []) (kept ++ lane ∷ []) ≡ record_kept false start sizes kept ++ lane_kept false start size lane ∷ []
own-more start [] size [] lane low = refl
own-more start [] size (l ∷ ls) lane low = absurd (omega (arith, low))
own-more start (s ∷ ss) size [] lane low = absurd (omega (arith, low))
own-more start (s ∷ ss) size (l ∷ ls) lane low = ap (λ xs. lane_kept false start s l ∷ xs) (own-more start ss size ls lane (omega (arith, low)))

-- a bare lane that is noted
noted : (first : Bool) (start : ℤ) (sizes : List ℕ) (kept : List KeptLane) → length kept < length sizes
    → record_kept first start sizes (kept ++ lanes.Bare ∷ []) ≡ record_kept first start sizes kept
noted first start [] kept low = absurd (omega (arith, low))
noted first start (s ∷ ss) [] low = refl
noted first start (s ∷ ss) (l ∷ ls) low = ap (λ xs. lane_kept first start s l ∷ xs) (noted false start ss ls (omega (arith, low)))

pub bare-noted : (start : ℤ) (sizes : List ℕ) (count : ℕ) (kept more : List KeptLane) → length sizes ≡ count → length kept < count → more ≡ kept ++ lanes.Bare ∷ []
    → record_kept true start sizes more ≡ record_kept true start sizes kept
bare-noted start sizes count kept more long low is = ap (record_kept true start sizes) is ∙ noted true start sizes kept (omega (arith, long, low))

later : (n : ℕ) → (suc n == 0) ≡ false
later n = grind (arith, nat_tests)

-- a bare lane behind others, of which nothing is kept
pub bare-kept : (number : ℕ) (start : ℤ) (sizes : List ℕ) (lane : List ℕ) (kept : List KeptLane) → length sizes ≡ number → length kept ≤ number → IsBare (number == 0) start lane
    → record_kept true start (sizes ++ length lane ∷ []) kept ≡ record_kept true start sizes kept ++ lane ∷ []
bare-kept number start [] lane [] long low bare =
    ap (λ bytes. bytes ∷ []) (bare-is true start lane (subst (λ n. IsBare (n == 0) start lane) (sym long) bare))
bare-kept number start [] lane (l ∷ ls) long low bare = absurd (omega (arith, long, low))
bare-kept number start (s ∷ ss) lane [] long low bare =
    let is : zeros (length lane) ≡ lane = bare-is false start lane (subst (λ b. IsBare b start lane) (later (length ss)) (subst (λ n. IsBare (n == 0) start lane) (sym long) bare)) in
    ap (λ xs. bare_bytes true start s ∷ xs) (bare-more start ss (length lane) [] (omega arith) ∙ ap (λ z. record_kept false start ss [] ++ z ∷ []) is)
bare-kept number start (s ∷ ss) lane (l ∷ ls) long low bare =
    let is : zeros (length lane) ≡ lane = bare-is false start lane (subst (λ b. IsBare b start lane) (later (length ss)) (subst (λ n. IsBare (n == 0) start lane) (sym long) bare)) in
    ap (λ xs. lane_kept true start s l ∷ xs) (bare-more start ss (length lane) ls (omega (arith, long, low)) ∙ ap (λ z. record_kept false start ss ls ++ z ∷ []) is)

-- and one whose bytes are kept
pub own-kept : (number : ℕ) (start : ℤ) (sizes : List ℕ) (lane : List ℕ) (copy : Vec ℕ) (old kept more : List KeptLane) → length sizes ≡ number → length kept ≡ number
    → more ≡ kept ++ lanes.Bytes copy ∷ [] → copy.items ≡ lane → record_kept true start sizes kept ≡ record_kept true start sizes old
    → record_kept true start (sizes ++ length lane ∷ []) more ≡ record_kept true start sizes old ++ lane ∷ []
own-kept number start sizes lane copy old kept more long low is same before =
    ap (record_kept true start (sizes ++ length lane ∷ [])) is ∙ pushed sizes kept (low ∙ sym long) ∙ ap (λ xs. xs ++ copy.items ∷ []) before ∙ ap (λ bytes. record_kept true start sizes old ++ bytes ∷ []) same
  where
    pushed : (sizes : List ℕ) (kept : List KeptLane) → length kept ≡ length sizes
        → record_kept true start (sizes ++ length lane ∷ []) (kept ++ lanes.Bytes copy ∷ []) ≡ record_kept true start sizes kept ++ copy.items ∷ []
    pushed [] [] e = refl
    pushed [] (l ∷ ls) e = absurd (omega (arith, e))
    pushed (s ∷ ss) [] e = absurd (omega (arith, e))
    pushed (s ∷ ss) (l ∷ ls) e = ap (λ xs. lane_kept true start s l ∷ xs) (own-more start ss (length lane) ls (lanes.Bytes copy) (omega (arith, e)))

-- ---- the lanes of a data record, one signal after the other

abbrev pub notes-among : List SignalHead → List SignalHead
notes-among signals = filter (λ (signal : SignalHead). is_annotations signal.label) signals

abbrev pub sizes-among : List SignalHead → List ℕ
sizes-among signals = map (λ (signal : SignalHead). 2 * signal.samples) (notes-among signals)

-- the lanes that are kept of the first k signals
pub record KeptOf (signals : List SignalHead) (bytes : List ℕ) (start : ℤ) (k count : ℕ) (kept : List KeptLane) : Type 0 where
  pub within : count ≤ k
  pub few : length kept ≤ count
  pub sized : length (sizes-among (take k signals)) ≡ count
  pub are : record_kept true start (sizes-among (take k signals)) kept ≡ annotation_lanes (take k signals) bytes

pub lane-there : (signals : List SignalHead) (bytes : List ℕ) (k : ℕ) (x : SignalHead) → k < length signals → x ≡ get_or signals k x → numbered_lane signals bytes k ≡ lane_of x bytes
lane-there signals bytes k x low is =
    ap (λ o. option_map_or (λ (y : SignalHead). lane_of y bytes) o []) (slice_get-get_or signals k x low) ∙ ap (λ (y : SignalHead). lane_of y bytes) (sym is)

pub samples-there : (h : Head) (signals : List SignalHead) (k : ℕ) (x : SignalHead) → signals ≡ h.signals → k < length signals → x ≡ get_or signals k x → lane_bytes h k ≡ 2 * x.samples
samples-there h signals k x these low is =
    ap (λ xs. 2 * option_map_or (λ (y : SignalHead). y.samples) (slice_get xs k) 0) (sym these)
    ∙ ap (λ o. 2 * option_map_or (λ (y : SignalHead). y.samples) o 0) (slice_get-get_or signals k x low) ∙ ap (λ (y : SignalHead). 2 * y.samples) (sym is)

-- before the first signal
pub none-kept : (signals : List SignalHead) (bytes : List ℕ) (start : ℤ) (kept : List KeptLane) → kept ≡ [] → KeptOf signals bytes start 0 0 kept
none-kept signals bytes start kept none = record { within = omega arith; few = (let e = ap length none in omega (arith, e)); sized = refl; are = refl }

more-signals : (signals : List SignalHead) (k : ℕ) (x : SignalHead) → k < length signals → x ≡ get_or signals k x → take (k + 1) signals ≡ take k signals ++ x ∷ []
more-signals signals k x low is =
    let more : k + 1 ≡ suc k = omega arith in
    ap (λ n. take n signals) more ∙ take-suc signals k x low ∙ ap (λ (y : SignalHead). take k signals ++ y ∷ []) (sym is)

-- one that holds annotations
pub kept-more : (signals : List SignalHead) (bytes : List ℕ) (start : ℤ) (k count after : ℕ) (x : SignalHead) (lane : List ℕ) (kept more : List KeptLane)
    → k < length signals → x ≡ get_or signals k x → is_annotations x.label ≡ true → after ≡ count + 1 → lane ≡ lane_of x bytes → length lane ≡ 2 * x.samples
    → length more ≤ count + 1
    → ((sizes : List ℕ) → length sizes ≡ count → record_kept true start (sizes ++ length lane ∷ []) more ≡ record_kept true start sizes kept ++ lane ∷ [])
    → KeptOf signals bytes start k count kept → KeptOf signals bytes start (k + 1) after more
kept-more signals bytes start k count after x lane kept more low is holds next there long few put old =
    let front = take k signals in
    let those : notes-among (take (k + 1) signals) ≡ notes-among front ++ x ∷ [] =
    ap notes-among (more-signals signals k x low is) ∙ filter-append _ front (x ∷ []) ∙ ap (λ xs. notes-among front ++ xs) (rw holds refl) in
    let sizes : sizes-among (take (k + 1) signals) ≡ sizes-among front ++ length lane ∷ [] =
    ap (map (λ (signal : SignalHead). 2 * signal.samples)) those ∙ map-append (λ (signal : SignalHead). 2 * signal.samples) (notes-among front) (x ∷ [])
    ∙ ap (λ n. sizes-among front ++ n ∷ []) (sym long) in
    let lanes : annotation_lanes (take (k + 1) signals) bytes ≡ annotation_lanes front bytes ++ lane ∷ [] =
    ap (map (λ (signal : SignalHead). lane_of signal bytes)) those ∙ map-append (λ (signal : SignalHead). lane_of signal bytes) (notes-among front) (x ∷ [])
    ∙ ap (λ l. annotation_lanes front bytes ++ l ∷ []) (sym there) in
    let had = old.within in
    record {
      within = omega (arith, had, next);
      few = omega (arith, few, next);
      sized = ap length sizes ∙ length-append (sizes-among front) (length lane ∷ []) ∙ ap (λ n. n + 1) old.sized ∙ sym next;
      are = ap (λ ss. record_kept true start ss more) sizes ∙ put (sizes-among front) old.sized ∙ ap (λ ls. ls ++ lane ∷ []) old.are ∙ sym lanes;
    }

-- and one that doesn't
pub kept-same : (signals : List SignalHead) (bytes : List ℕ) (start : ℤ) (k count : ℕ) (x : SignalHead) (kept : List KeptLane)
    → k < length signals → x ≡ get_or signals k x → is_annotations x.label ≡ false
    → KeptOf signals bytes start k count kept → KeptOf signals bytes start (k + 1) count kept
kept-same signals bytes start k count x kept low is none old =
    let front = take k signals in
    let those : notes-among (take (k + 1) signals) ≡ notes-among front =
    ap notes-among (more-signals signals k x low is) ∙ filter-append _ front (x ∷ []) ∙ ap (λ xs. notes-among front ++ xs) (rw none refl) ∙ append-nil (notes-among front) in
    let had = old.within in
    record {
      within = omega (arith, had);
      few = old.few;
      sized = ap (λ xs. length (map (λ (signal : SignalHead). 2 * signal.samples) xs)) those ∙ old.sized;
      are = ap (λ xs. record_kept true start (map (λ (signal : SignalHead). 2 * signal.samples) xs) kept) those ∙ old.are
          ∙ ap (map (λ (signal : SignalHead). lane_of signal bytes)) (sym those);
    }

-- all of them
pub kept-all : (signals : List SignalHead) (bytes : List ℕ) (start : ℤ) (k count : ℕ) (kept : List KeptLane) → length signals ≤ k → KeptOf signals bytes start k count kept
    → record_kept true start (sizes-among signals) kept ≡ annotation_lanes signals bytes
kept-all signals bytes start k count kept end old =
    let all : take k signals ≡ signals = take_all k signals end in
    ap (λ xs. record_kept true start (sizes-among xs) kept) (sym all) ∙ old.are ∙ ap (λ xs. annotation_lanes xs bytes) all

-- ---- the data records, one behind the other

pub rows-more : (sizes : List ℕ) (starts : List ℤ) (rows : List (Vec KeptLane)) (start : ℤ) (row : Vec KeptLane) → length rows ≡ length starts
    → rows_kept sizes (starts ++ start ∷ []) (rows ++ row ∷ []) ≡ rows_kept sizes starts rows ++ record_kept true start sizes row.items ∷ []
rows-more sizes [] [] start row long = refl
rows-more sizes [] (r ∷ rs) start row long = absurd (omega (arith, long))
rows-more sizes (s ∷ ss) [] start row long = absurd (omega (arith, long))
rows-more sizes (s ∷ ss) (r ∷ rs) start row long = ap (λ xs. record_kept true s sizes r.items ∷ xs) (rows-more sizes ss rs start row (omega (arith, long)))

pub one-added : (sizes : List ℕ) (starts more : List ℤ) (rows others : List (Vec KeptLane)) (start : ℤ) (row : Vec KeptLane) (lanes : List (List ℕ))
    → length rows ≡ length starts → more ≡ starts ++ start ∷ [] → others ≡ rows ++ row ∷ [] → record_kept true start sizes row.items ≡ lanes
    → rows_kept sizes more others ≡ rows_kept sizes starts rows ++ lanes ∷ []
one-added sizes starts more rows others start row lanes long one two is =
    ap (λ ss. rows_kept sizes ss others) one ∙ ap (rows_kept sizes (starts ++ start ∷ [])) two ∙ rows-more sizes starts rows start row long ∙ ap (λ ls. rows_kept sizes starts rows ++ ls ∷ []) is

pub rows-added : {V E : Type 0} (r : Result V E) (sizes : List ℕ) (starts more : List ℤ) (rows others : List (Vec KeptLane)) (start : ℤ) (row : Vec KeptLane) (lanes : List (List ℕ))
    → length rows ≡ length starts → more ≡ starts ++ start ∷ [] → others ≡ rows ++ row ∷ [] → record_kept true start sizes row.items ≡ lanes
    → OnOk r (rows_kept sizes more others ≡ rows_kept sizes starts rows ++ lanes ∷ [])
rows-added (Err e) sizes starts more rows others start row lanes long one two is = tt
rows-added (Ok v) sizes starts more rows others start row lanes long one two is = one-added sizes starts more rows others start row lanes long one two is

-- nothing is kept
pub none-there : {X : Type 0} (xs : List X) → true ≡ (length xs == 0) → xs ≡ []
none-there [] e = refl
none-there (x ∷ xs) e = absurd (let z : true ≡ false = e ∙ later (length xs) in cc)

pub rows-long : (sizes : List ℕ) (starts : List ℤ) (rows : List (Vec KeptLane)) → length rows ≡ length starts → length (rows_kept sizes starts rows) ≡ length rows
rows-long sizes [] [] long = refl
rows-long sizes [] (r ∷ rs) long = absurd (omega (arith, long))
rows-long sizes (s ∷ ss) [] long = refl
rows-long sizes (s ∷ ss) (r ∷ rs) long = ap suc (rows-long sizes ss rs (omega (arith, long)))

-- ---- what is kept of a lane, and of a data record

pub record-long : (first : Bool) (start : ℤ) (sizes : List ℕ) (kept : List KeptLane) → length (record_kept first start sizes kept) ≡ length sizes
record-long first start [] kept = refl
record-long first start (s ∷ ss) [] = ap suc (record-long false start ss [])
record-long first start (s ∷ ss) (l ∷ ls) = ap suc (record-long false start ss ls)

own-or : (first : Bool) (start : ℤ) (size : ℕ) (lane : KeptLane) → lane_kept first start size lane ≡ option_map_or (λ bytes. bytes) (own_bytes (Some lane)) (bare_bytes first start size)
own-or first start size lanes.Bare = refl
own-or first start size (lanes.Bytes bytes) = refl

other-at : (start : ℤ) (sizes : List ℕ) (kept : List KeptLane) (j : ℕ) (d : List ℕ) → j < length sizes
    → get_or (record_kept false start sizes kept) j d ≡ option_map_or (λ bytes. bytes) (own_bytes (slice_get kept j)) (zeros (get_or sizes j 0))
other-at start [] kept j d low = absurd (omega (arith, low))
other-at start (s ∷ ss) [] zero d low = refl
other-at start (s ∷ ss) [] (suc j) d low = other-at start ss [] j d (omega (arith, low))
other-at start (s ∷ ss) (l ∷ ls) zero d low = own-or false start s l
other-at start (s ∷ ss) (l ∷ ls) (suc j) d low = other-at start ss ls j d (omega (arith, low))

pub lane-at : (start : ℤ) (sizes : List ℕ) (kept : List KeptLane) (j : ℕ) (d : List ℕ) → j < length sizes
    → get_or (record_kept true start sizes kept) j d ≡ option_map_or (λ bytes. bytes) (own_bytes (slice_get kept j)) (bare_bytes (j == 0) start (get_or sizes j 0))
lane-at start [] kept j d low = absurd (omega (arith, low))
lane-at start (s ∷ ss) [] zero d low = refl
lane-at start (s ∷ ss) [] (suc j) d low =
    other-at start ss [] j d (omega (arith, low)) ∙ ap (λ b. option_map_or (λ bytes. bytes) (own_bytes None) (bare_bytes b start (get_or ss j 0))) (sym (later j))
lane-at start (s ∷ ss) (l ∷ ls) zero d low = own-or true start s l
lane-at start (s ∷ ss) (l ∷ ls) (suc j) d low =
    other-at start ss ls j d (omega (arith, low)) ∙ ap (λ b. option_map_or (λ bytes. bytes) (own_bytes (slice_get ls j)) (bare_bytes b start (get_or ss j 0))) (sym (later j))

pub row-at : (sizes : List ℕ) (starts : List ℤ) (rows : List (Vec KeptLane)) (k : ℕ) (s : ℤ) (row : Vec KeptLane) (d : List (List ℕ)) → k < length rows → length rows ≡ length starts
    → get_or (rows_kept sizes starts rows) k d ≡ record_kept true (get_or starts k s) sizes (get_or rows k row).items
row-at sizes starts [] k s row d low long = absurd (omega (arith, low))
row-at sizes [] (r ∷ rs) k s row d low long = absurd (omega (arith, long))
row-at sizes (t ∷ ts) (r ∷ rs) zero s row d low long = refl
row-at sizes (t ∷ ts) (r ∷ rs) (suc k) s row d low long = row-at sizes ts rs k s row d (omega (arith, low)) (omega (arith, long))

-- the bytes that are kept of a lane, or those of a bare one
pub own-mapped : {X Y : Type 0} (f : X → Y) (o : Option X) (d : Y) → option_map_or f o d ≡ option_map_or (λ y. y) (option_map f o) d
own-mapped f None d = refl
own-mapped f (Some x) d = refl
