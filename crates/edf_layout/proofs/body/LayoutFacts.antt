-- A data record has one layout.
use Rattle.std.proofs.Common.{◌≡◌, ◌≢◌, ◌⊎◌, inl, inr, ℕ, ℤ, suc, ◌<◌, ◌≤◌, List, [], ◌∷◌, ◌++◌, length, map, slice_index, Option, Some, None, Ok, refl, ap, ◌∙◌, sym, subst, arith}
use Rattle.std.specs.List.{All}
use Rattle.std.proofs.lemmas.List.{append_assoc}
use Rattle.std.proofs.lemmas.List.Elements.{All-head, All-tail}
use Rattle.edf_fields.specs.texts.Onsets.{SpellsOnset}
use Rattle.edf_fields.proofs.ForCallers.{onset_bytes_from, span_bytes_from, onset_is_spelled, span_is_spelled}
use Rattle.edf_tal.specs.Tals.{TalValue, IsText, SpellsDuration, SpellsTal, IsLaneOf}
use Rattle.edf_tal.specs.Reading.{Item, ended}
use Rattle.edf_tal.proofs.ForCallers.{lane-read}
use Rattle.edf_stream.specs.annotation.Notes.{AreLanesOf}
use Rattle.edf_layout.specs.body.LaneLayouts.{TalLayout, IsLaidTal, IsLaidLane, is_plain_duration, unless_plain}
use Rattle.edf_layout.specs.PlainLaws.{is_plain_onset}
use Rattle.edf_layout.specs.body.BodyLayouts.{TalContent, PlacedTal, RecordLayout, AreLaidLanes, spellings_in, contents_in, timekeeping_of, lane_contents, first_contents, record_contents, content_of}
use Rattle.edf_layout.proofs.body.LaneFacts.{laid, unlaid}
use Rattle.edf_layout.proofs.body.ContentFacts.{cons-first, cons-rest, not-nil}
use Rattle.edf_stream.specs.annotation.Notes.{NoteValue}

-- the byte isn't one of these
abbrev pub Lacks : ℕ → List ℕ → Type 0
Lacks c [] = Unit {0}
Lacks c (b ∷ bs) = (b ≢ c) × Lacks c bs

pub lacks-append : (c : ℕ) (xs ys : List ℕ) → Lacks c xs → Lacks c ys → Lacks c (xs ++ ys)
lacks-append c [] ys h k = k
lacks-append c (x ∷ xs) ys h k = (h.0, lacks-append c xs ys h.1 k)

lacks-low : (c : ℕ) (xs : List ℕ) → ((k : ℕ) → k < length xs → c < slice_index xs k) → Lacks c xs
lacks-low c [] h = tt
lacks-low c (x ∷ xs) h = (λ e. let l : c < x = h 0 (omega arith) in omega (arith, l, e), lacks-low c xs (λ k low. h (suc k) (omega arith)))

-- two texts up to the first byte c
split-same : (c : ℕ) (xs ys us vs : List ℕ) → Lacks c xs → Lacks c us → xs ++ c ∷ ys ≡ us ++ c ∷ vs → (xs ≡ us) × (ys ≡ vs)
split-same c [] ys [] vs h k e = (refl, cons-rest c c ys vs e)
split-same c [] ys (u ∷ us) vs h k e = absurd (k.0 (sym (cons-first c u ys (us ++ c ∷ vs) e)))
split-same c (x ∷ xs) ys [] vs h k e = absurd (h.0 (cons-first x c (xs ++ c ∷ ys) vs e))
split-same c (x ∷ xs) ys (u ∷ us) vs h k e =
    let first : x ≡ u = cons-first x u (xs ++ c ∷ ys) (us ++ c ∷ vs) e in
    let rest = split-same c xs ys us vs h.1 k.1 (cons-rest x u (xs ++ c ∷ ys) (us ++ c ∷ vs) e) in
    (ap (λ z. z ∷ xs) first ∙ ap (λ zs. u ∷ zs) rest.0, rest.1)

pub onset-lacks : (c : ℕ) (t : List ℕ) (v : ℤ) → c ≤ 42 → SpellsOnset t v → Lacks c t
onset-lacks c t v low h = lacks-low c t (λ k within. let b = onset_bytes_from t v ((onset_is_spelled t v).1 h) k within in omega (arith, b, low))

pub duration-lacks : (c : ℕ) (t : List ℕ) (v : Option ℤ) → c ≤ 20 → SpellsDuration t v → Lacks c t
duration-lacks c t None low h = subst (Lacks c) (sym h) tt
duration-lacks c t (Some v) low (span, is, time, value) =
    let bytes : Lacks c span = lacks-low c span (λ k within. let b = span_bytes_from span v ((span_is_spelled span v).1 (time, value)) k within in omega (arith, b, low)) in
    subst (Lacks c) (sym is) (λ e. omega (arith, low, e), bytes)

text-lacks : (text : List ℕ) → All (λ b. (32 ≤ b) ⊎ (b ≡ 9) ⊎ (b ≡ 10) ⊎ (b ≡ 13)) text → Lacks 0 text
text-lacks [] h = tt
text-lacks (b ∷ bs) h =
    (some b (All-head (λ b. (32 ≤ b) ⊎ (b ≡ 9) ⊎ (b ≡ 10) ⊎ (b ≡ 13)) b bs h), text-lacks bs (All-tail (λ b. (32 ≤ b) ⊎ (b ≡ 9) ⊎ (b ≡ 10) ⊎ (b ≡ 13)) b bs h))
  where
    some : (b : ℕ) → (32 ≤ b) ⊎ (b ≡ 9) ⊎ (b ≡ 10) ⊎ (b ≡ 13) → b ≢ 0
    some b (inl h) e = omega (arith, h, e)
    some b (inr (inl h)) e = omega (arith, h, e)
    some b (inr (inr (inl h))) e = omega (arith, h, e)
    some b (inr (inr (inr h))) e = omega (arith, h, e)

texts-lack : (texts : List (List ℕ)) → All IsText texts → Lacks 0 (ended texts)
texts-lack [] h = tt
texts-lack (text ∷ texts) h =
    lacks-append 0 (text ++ 20 ∷ []) (ended texts)
    (lacks-append 0 text (20 ∷ []) (text-lacks text (All-head IsText text texts h).1) (λ e. omega (arith, e), tt))
    (texts-lack texts (All-tail IsText text texts h))

pub tal-lacks : (bytes : List ℕ) (tal : TalValue) → SpellsTal bytes tal → Lacks 0 bytes
tal-lacks bytes tal s =
    subst (Lacks 0) (sym s.whole)
    (lacks-append 0 (s.onset ++ s.duration) (20 ∷ ended tal.texts)
    (lacks-append 0 s.onset s.duration (onset-lacks 0 s.onset tal.onset (omega arith) s.onset_is) (duration-lacks 0 s.duration tal.duration (omega arith) s.duration_is))
    (λ e. omega (arith, e), texts-lack tal.texts s.texts))

-- the onset and the duration of a TAL are spelled by one text each
parts-same : (o p d e : List ℕ) (v : ℤ) (w : Option ℤ) → SpellsOnset o v → SpellsOnset p v → SpellsDuration d w → SpellsDuration e w → o ++ d ≡ p ++ e → (o ≡ p) × (d ≡ e)
parts-same o p d e v None h k i j same =
    let durations : d ≡ e = i ∙ sym j in
    let plain : o ++ [] ≡ p ++ [] = ap (λ x. o ++ x) (sym i) ∙ same ∙ ap (λ x. p ++ x) j in
    let closed : o ++ 21 ∷ [] ≡ p ++ 21 ∷ [] = sym (append_assoc o [] (21 ∷ [])) ∙ ap (λ x. x ++ 21 ∷ []) plain ∙ append_assoc p [] (21 ∷ []) in
    ((split-same 21 o [] p [] (onset-lacks 21 o v (omega arith) h) (onset-lacks 21 p v (omega arith) k) closed).0, durations)
parts-same o p d e v (Some w) h k (span, is, time, value) (other, too, time2, value2) same =
    let both : o ++ 21 ∷ span ≡ p ++ 21 ∷ other = ap (λ x. o ++ x) (sym is) ∙ same ∙ ap (λ x. p ++ x) too in
    let r = split-same 21 o span p other (onset-lacks 21 o v (omega arith) h) (onset-lacks 21 p v (omega arith) k) both in
    (r.0, is ∙ ap (λ x. 21 ∷ x) r.1 ∙ sym too)

tal-layout : (bytes : List ℕ) (tal : TalValue) (one two : TalLayout) → IsLaidTal bytes tal one → IsLaidTal bytes tal two → one ≡ two
tal-layout bytes tal one two h k =
    let a = h.spelled in
    let b = k.spelled in
    let whole : (a.onset ++ a.duration) ++ 20 ∷ ended tal.texts ≡ (b.onset ++ b.duration) ++ 20 ∷ ended tal.texts = sym a.whole ∙ b.whole in
    let left : Lacks 20 (a.onset ++ a.duration) = lacks-append 20 a.onset a.duration (onset-lacks 20 a.onset tal.onset (omega arith) a.onset_is) (duration-lacks 20 a.duration tal.duration (omega arith) a.duration_is) in
    let right : Lacks 20 (b.onset ++ b.duration) = lacks-append 20 b.onset b.duration (onset-lacks 20 b.onset tal.onset (omega arith) b.onset_is) (duration-lacks 20 b.duration tal.duration (omega arith) b.duration_is) in
    let head = (split-same 20 (a.onset ++ a.duration) (ended tal.texts) (b.onset ++ b.duration) (ended tal.texts) left right whole).0 in
    let parts = parts-same a.onset b.onset a.duration b.duration tal.onset tal.duration a.onset_is b.onset_is a.duration_is b.duration_is head in
    let make : Option (List ℕ) → Option (List ℕ) → TalLayout = λ o d. record { onset = o; duration = d } in
    let onset : one.onset ≡ two.onset = h.onset ∙ ap (λ t. unless_plain (is_plain_onset t) t) parts.0 ∙ sym k.onset in
    let duration : one.duration ≡ two.duration = h.duration ∙ ap (λ t. unless_plain (is_plain_duration t) t) parts.1 ∙ sym k.duration in
    ap (λ o. make o one.duration) onset ∙ ap (make two.onset) duration

-- a lane has one layout
pub lane-layout : (lane : List ℕ) (tals : List TalValue) (ones twos : List TalLayout) → IsLaidLane lane tals ones → IsLaidLane lane tals twos → ones ≡ twos
lane-layout lane [] [] [] h k = refl
lane-layout lane [] [] (two ∷ twos) h k = absurd k
lane-layout lane [] (one ∷ ones) twos h k = absurd h
lane-layout lane (tal ∷ tals) [] twos h k = absurd h
lane-layout lane (tal ∷ tals) (one ∷ ones) [] h k = absurd k
lane-layout lane (tal ∷ tals) (one ∷ ones) (two ∷ twos) (bytes, rest, is, whole, more) (other, left, too, all, behind) =
    let both = split-same 0 bytes rest other left (tal-lacks bytes tal is.spelled) (tal-lacks other tal too.spelled) (sym whole ∙ all) in
    let first : one ≡ two = tal-layout bytes tal one two is (subst (λ b. IsLaidTal b tal two) (sym both.0) too) in
    let next : ones ≡ twos = lane-layout rest tals ones twos more (subst (λ r. IsLaidLane r tals twos) (sym both.1) behind) in
    ap (λ (x : TalLayout). x ∷ ones) first ∙ ap (λ xs. two ∷ xs) next

-- and lanes have one list of TALs each
pub items-tell : (tals others : List TalValue) (items : List Item) → items ≡ map Ok tals → items ≡ map Ok others → tals ≡ others
items-tell tals others items e f = told tals others (sym e ∙ f)
  where
    told : (tals others : List TalValue) → map {B = Item} Ok tals ≡ map Ok others → tals ≡ others
    told [] [] e = refl
    told [] (u ∷ us) e = absurd (let z : [] ≡ map {B = Item} Ok (u ∷ us) = e in cc)
    told (t ∷ ts) [] e = absurd (let z : map {B = Item} Ok (t ∷ ts) ≡ [] = e in cc)
    told (t ∷ ts) (u ∷ us) e =
        let one : Item = Ok t in
        let two : Item = Ok u in
        let first : t ≡ u = same t u (cons-first one two (map Ok ts) (map Ok us) e) in
        ap (λ (x : TalValue). x ∷ ts) first ∙ ap (λ xs. u ∷ xs) (told ts us (cons-rest one two (map Ok ts) (map Ok us) e))
      where
        same : (t u : TalValue) (e : let one : Item = Ok t in one ≡ Ok u) → t ≡ u
        same t u e = cc

pub lanes_one : (lanes : List (List ℕ)) (tss uss : List (List TalValue)) → AreLanesOf lanes tss → AreLanesOf lanes uss → tss ≡ uss
lanes_one [] [] [] h k = refl
lanes_one [] [] (us ∷ uss) h k = absurd k
lanes_one [] (ts ∷ tss) uss h k = absurd h
lanes_one (lane ∷ lanes) [] uss h k = absurd h
lanes_one (lane ∷ lanes) (ts ∷ tss) [] h k = absurd k
lanes_one (lane ∷ lanes) (ts ∷ tss) (us ∷ uss) h k =
    let first : ts ≡ us = items-tell ts us _ (lane-read ts lane h.0) (lane-read us lane k.0) in
    ap (λ x. x ∷ tss) first ∙ ap (λ xs. us ∷ xs) (lanes_one lanes tss uss h.1 k.1)

-- lanes that are laid out hold their TALs
pub lanes_hold : (lanes : List (List ℕ)) (tss : List (List TalValue)) (spellings : List (List TalLayout)) → AreLaidLanes lanes tss spellings → AreLanesOf lanes tss
lanes_hold [] [] [] h = tt
lanes_hold [] [] (s ∷ ss) h = absurd h
lanes_hold [] (ts ∷ tss) [] h = absurd h
lanes_hold [] (ts ∷ tss) (s ∷ ss) h = absurd h
lanes_hold (lane ∷ lanes) [] [] h = absurd h
lanes_hold (lane ∷ lanes) [] (s ∷ ss) h = absurd h
lanes_hold (lane ∷ lanes) (ts ∷ tss) [] h = absurd h
lanes_hold (lane ∷ lanes) (ts ∷ tss) (s ∷ ss) h = (unlaid lane ts s h.0, lanes_hold lanes tss ss h.1)

lanes-layout : (lanes : List (List ℕ)) (tss : List (List TalValue)) (ones twos : List (List TalLayout)) → AreLaidLanes lanes tss ones → AreLaidLanes lanes tss twos → ones ≡ twos
lanes-layout [] [] [] [] h k = refl
lanes-layout [] [] [] (two ∷ twos) h k = absurd k
lanes-layout [] [] (one ∷ ones) twos h k = absurd h
lanes-layout [] (ts ∷ tss) [] twos h k = absurd h
lanes-layout [] (ts ∷ tss) (one ∷ ones) twos h k = absurd h
lanes-layout (lane ∷ lanes) [] [] twos h k = absurd h
lanes-layout (lane ∷ lanes) [] (one ∷ ones) twos h k = absurd h
lanes-layout (lane ∷ lanes) (ts ∷ tss) [] twos h k = absurd h
lanes-layout (lane ∷ lanes) (ts ∷ tss) (one ∷ ones) [] h k = absurd k
lanes-layout (lane ∷ lanes) (ts ∷ tss) (one ∷ ones) (two ∷ twos) h k =
    ap (λ x. x ∷ ones) (lane-layout lane ts one two h.0 k.0) ∙ ap (λ xs. two ∷ xs) (lanes-layout lanes tss ones twos h.1 k.1)

-- what is placed, by its two parts
abbrev pub spelled_of : List PlacedTal → List TalLayout
spelled_of lane = map (λ (placed : PlacedTal). placed.spelling) lane

abbrev pub said_of : List PlacedTal → List TalContent
said_of lane = map (λ (placed : PlacedTal). placed.content) lane

placed-same : (xs ys : List PlacedTal) → spelled_of xs ≡ spelled_of ys → said_of xs ≡ said_of ys → xs ≡ ys
placed-same [] [] e f = refl
placed-same [] (y ∷ ys) e f = absurd (not-nil y.spelling (spelled_of ys) e)
placed-same (x ∷ xs) [] e f = absurd (not-nil x.spelling (spelled_of xs) (sym e))
placed-same (x ∷ xs) (y ∷ ys) e f =
    let make : TalLayout → TalContent → PlacedTal = λ s c. record { spelling = s; content = c } in
    let one : x.spelling ≡ y.spelling = cons-first x.spelling y.spelling (spelled_of xs) (spelled_of ys) e in
    let two : x.content ≡ y.content = cons-first x.content y.content (said_of xs) (said_of ys) f in
    let first : x ≡ y = ap (λ s. make s x.content) one ∙ ap (make y.spelling) two in
    ap (λ (z : PlacedTal). z ∷ xs) first
    ∙ ap (λ zs. y ∷ zs) (placed-same xs ys (cons-rest x.spelling y.spelling (spelled_of xs) (spelled_of ys) e) (cons-rest x.content y.content (said_of xs) (said_of ys) f))

layouts-same : (xs ys : RecordLayout) → spellings_in xs ≡ spellings_in ys → contents_in xs ≡ contents_in ys → xs ≡ ys
layouts-same [] [] e f = refl
layouts-same [] (y ∷ ys) e f = absurd (not-nil (spelled_of y) (spellings_in ys) e)
layouts-same (x ∷ xs) [] e f = absurd (not-nil (spelled_of x) (spellings_in xs) (sym e))
layouts-same (x ∷ xs) (y ∷ ys) e f =
    let first : x ≡ y = placed-same x y (cons-first (spelled_of x) (spelled_of y) (spellings_in xs) (spellings_in ys) e) (cons-first (said_of x) (said_of y) (contents_in xs) (contents_in ys) f) in
    ap (λ z. z ∷ xs) first
    ∙ ap (λ zs. y ∷ zs) (layouts-same xs ys (cons-rest (spelled_of x) (spelled_of y) (spellings_in xs) (spellings_in ys) e) (cons-rest (said_of x) (said_of y) (contents_in xs) (contents_in ys) f))

-- lanes with their annotations have one layout
pub one_layout : (notes : List NoteValue) (lanes : List (List ℕ)) (tss uss : List (List TalValue)) (xs ys : RecordLayout)
    → AreLaidLanes lanes tss (spellings_in xs) → contents_in xs ≡ record_contents notes tss
    → AreLaidLanes lanes uss (spellings_in ys) → contents_in ys ≡ record_contents notes uss → xs ≡ ys
one_layout notes lanes tss uss xs ys h e k f =
    let tals : tss ≡ uss = lanes_one lanes tss uss (lanes_hold lanes tss (spellings_in xs) h) (lanes_hold lanes uss (spellings_in ys) k) in
    layouts-same xs ys
    (lanes-layout lanes tss (spellings_in xs) (spellings_in ys) h (subst (λ t. AreLaidLanes lanes t (spellings_in ys)) (sym tals) k))
    (e ∙ ap (record_contents notes) tals ∙ sym f)

-- and they have one
record SomeLane (lane : List ℕ) (tals : List TalValue) (contents : List TalContent) : Type 0 where
  placed : List PlacedTal
  is : IsLaidLane lane tals (spelled_of placed)
  said : said_of placed ≡ contents

some-placed : (f : TalValue → TalContent) (tals : List TalValue) (layouts : List TalLayout) (lane : List ℕ) → IsLaidLane lane tals layouts → (placed : List PlacedTal) × (spelled_of placed ≡ layouts) × (said_of placed ≡ map f tals)
some-placed f [] [] lane h = ([], refl, refl)
some-placed f [] (l ∷ ls) lane h = absurd h
some-placed f (t ∷ ts) [] lane h = absurd h
some-placed f (t ∷ ts) (l ∷ ls) lane (bytes, rest, is, whole, more) =
    let r = some-placed f ts ls rest more in
    (record { spelling = l; content = f t } ∷ r.0, ap (λ xs. l ∷ xs) r.1, ap (λ xs. f t ∷ xs) r.2)

some-lane : (notes : List NoteValue) (lane : List ℕ) (tals : List TalValue) → IsLaneOf lane tals → SomeLane lane tals (lane_contents notes tals)
some-lane notes lane tals h =
    let l = laid lane tals h in
    let r = some-placed (content_of notes) tals l.0 lane l.1 in
    record { placed = r.0; is = subst (IsLaidLane lane tals) (sym r.1) l.1; said = r.2 }

some-first : (notes : List NoteValue) (lane : List ℕ) (tals : List TalValue) → IsLaneOf lane tals → SomeLane lane tals (first_contents notes tals)
some-first notes lane [] h = record { placed = []; is = h; said = refl }
some-first notes lane (tal ∷ tals) (bytes, rest, spelled, whole, more) =
    let l = laid lane (tal ∷ tals) (bytes, rest, spelled, whole, more) in
    let r = some-placed (content_of notes) (tal ∷ tals) l.0 lane l.1 in
    begin r.0 r.1 r.2 l.1
  where
    begin : (placed : List PlacedTal) → spelled_of placed ≡ (laid lane (tal ∷ tals) (bytes, rest, spelled, whole, more)).0 → said_of placed ≡ lane_contents notes (tal ∷ tals)
        → IsLaidLane lane (tal ∷ tals) (laid lane (tal ∷ tals) (bytes, rest, spelled, whole, more)).0 → SomeLane lane (tal ∷ tals) (first_contents notes (tal ∷ tals))
    begin [] e f h = absurd (not-nil (content_of notes tal) (lane_contents notes tals) f)
    begin (p ∷ ps) e f h = record {
      placed = record { spelling = p.spelling; content = timekeeping_of notes tal } ∷ ps;
      is = subst (IsLaidLane lane (tal ∷ tals)) (sym e) h;
      said = ap (λ xs. timekeeping_of notes tal ∷ xs) (cons-rest p.content (content_of notes tal) (said_of ps) (lane_contents notes tals) f);
    }

some-others : (notes : List NoteValue) (lanes : List (List ℕ)) (tss : List (List TalValue)) → AreLanesOf lanes tss
    → (layout : RecordLayout) × AreLaidLanes lanes tss (spellings_in layout) × (contents_in layout ≡ map (lane_contents notes) tss)
some-others notes [] [] h = ([], tt, refl)
some-others notes [] (ts ∷ tss) h = absurd h
some-others notes (lane ∷ lanes) [] h = absurd h
some-others notes (lane ∷ lanes) (ts ∷ tss) h =
    let one = some-lane notes lane ts h.0 in
    let rest = some-others notes lanes tss h.1 in
    (one.placed ∷ rest.0, (one.is, rest.1), ap (λ x. x ∷ contents_in rest.0) one.said ∙ ap (λ xs. lane_contents notes ts ∷ xs) rest.2)

pub some_layout : (notes : List NoteValue) (lanes : List (List ℕ)) (tss : List (List TalValue)) → AreLanesOf lanes tss
    → (layout : RecordLayout) × AreLaidLanes lanes tss (spellings_in layout) × (contents_in layout ≡ record_contents notes tss)
some_layout notes [] [] h = ([], tt, refl)
some_layout notes [] (ts ∷ tss) h = absurd h
some_layout notes (lane ∷ lanes) [] h = absurd h
some_layout notes (lane ∷ lanes) (ts ∷ tss) h =
    let one = some-first notes lane ts h.0 in
    let rest = some-others notes lanes tss h.1 in
    (one.placed ∷ rest.0, (one.is, rest.1), ap (λ x. x ∷ contents_in rest.0) one.said ∙ ap (λ xs. first_contents notes ts ∷ xs) rest.2)
