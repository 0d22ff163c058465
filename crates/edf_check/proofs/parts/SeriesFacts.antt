-- The first difference of an original and its parts is their first mismatch.
use Rattle.std.proofs.Common.{◌≡◌, ◌==◌, ℕ, ◌<◌, ℤ, neg_ℤ, ◌+ℤ◌, ◌≤ℤ◌, Bool, true, false, Bor, List, [], ◌∷◌, map, Option, None, Some, MatchOption, IfSome, slice_get, filter, inl, inr, ⊎_elim, lit<, refl, sym, ap, ◌∙◌, arith, subst}
use Rattle.std.proofs.lemmas.Bool.Decides.{nat_tests}
use Rattle.std.proofs.lemmas.Int.{ints}
use Rattle.std.specs.Option.{option_or}
use Rattle.edf_claim.specs.Keeps.{keeps_instant}
use Rattle.edf_claim.specs.ClaimValues.{ClaimValue}
use Rattle.edf_fields.specs.Lists.{Has}
use Rattle.edf_fields.proofs.ForCallers.{has-at, has-map, filtered-has}
use Rattle.edf_header.specs.Heads.{Head}
use Rattle.edf_header.specs.HeadsReading.{head_of}
use Rattle.edf_header.specs.Sound.{IsSound}
use Rattle.edf_header.specs.signals.Channels.{channels_among}
use Rattle.edf_heads.specs.Comparisons.{AreSorted}
use Rattle.edf_heads.specs.HeadVerdicts.{HeadsAgree}
use Rattle.edf_stream.specs.declared.times.instant.Instant.{Instant}
use Rattle.edf_stream.specs.Conforming.{Conforms}
use Rattle.edf_stream.specs.times.Instants.{IsSame}
use Rattle.edf_stream.specs.times.InstantOrder.{IsNotBefore}
use Rattle.edf_stream.specs.samples.SamplesReading.{samples_of}
use Rattle.edf_stream.proofs.ForCallers.{samples_are_of_channels}
use Rattle.edf_samples.specs.declared.earliest.Found.{Found}
use Rattle.edf_samples.specs.declared.point.Point.{Point}
use Rattle.edf_pace.specs.declared.walk.channel_place.ChannelPlace.{ChannelPlace}
use Rattle.edf_pace.specs.walk.Columns.{point_of, is_of, channel_at, Sampled}
use Rattle.edf_samples.specs.Stretches.{whole}
use Rattle.edf_samples.specs.Differences.{instant, earliest}
use Rattle.edf_check.specs.Courses.{Course, Agree, IsFirstMismatch}
use Rattle.edf_samples.specs.InstantOrder.{IsBefore, floor_of}
use Rattle.edf_samples.specs.Instants.{later}
use Rattle.edf_pace.specs.Kept.{shift_ps}
use Rattle.edf_check.specs.KeptReading.{origin_of, ValueAt, KeptAt, ExportedAt}
use Rattle.edf_check.specs.parts.Parts.{ExportedByOne}
use Rattle.edf_pace.specs.walk.Pairs.{IsPlaceIn, Places, places_in}
use Rattle.edf_pace.specs.walk.Shown.{begin_by, last_end_by}
use Rattle.edf_pace.specs.walk.Windows.{sampled, points_at, span_difference}
use Rattle.edf_check.proofs.CourseFacts.{IsCourse, agree-alike, first-alike, agree-self}
use Rattle.edf_check.proofs.JoinFacts.{join-agree, join-first, join-later, IsCutAt}
use Rattle.edf_check.proofs.KeptFacts.{exported-course}
use Rattle.edf_pace.proofs.ForCallers.{difference_at, past_all, ends_behind, at-found, channel-bounds, from-first, before-past-all, within-keeps, within-from, within-until, span_is_whole, whole_difference, claim_within, ArePlaces}
use Rattle.edf_samples.proofs.ForCallers.{earlier_from, by_before, same_before, same_back, same_below, from_below}
use Rattle.edf_check.proofs.NightFacts.{first-found, value-sampled, at-instant, sound-head, AreNights, label_difference}
use Rattle.std.proofs.lemmas.Simd.{map-map}
use Rattle.edf_check.specs.parts.PartsFound.{AreOrdered}
use Rattle.edf_check.specs.parts.Together.{serial_difference}

-- by how much a part is moved, so that it counts from the second at which the original starts, before the shift
abbrev pub moved_part : List ℕ → ClaimValue → ℤ
moved_part original claim = neg_ℤ (origin_of original +ℤ shift_ps claim)

-- where the first data record of a part begins, and where its last one ends
abbrev pub part_begin : List ℕ → ClaimValue → List ℕ → ℤ
part_begin original claim part = begin_by part (head_of part) (moved_part original claim) 0

abbrev pub part_end : List ℕ → ClaimValue → List ℕ → ℤ
part_end original claim part = last_end_by part (head_of part) (moved_part original claim)

-- the first difference of the original and a part, of what is kept from t on, and, where others follow, before the end of the part
abbrev part_difference : Bool → List ℕ → ClaimValue → List (Bor (List ℕ)) → ℤ → List ℕ → Option Found
part_difference last original claim labels t part =
    span_difference last claim (sampled original (head_of original) (neg_ℤ (origin_of original))) (sampled part (head_of part) (moved_part original claim))
    (places_in (head_of original) (head_of part) labels) t (part_end original claim part)

-- ---- between which times a file has values

-- a value of a file is that of a point of one of its channels
record HasPoint (file : List ℕ) (d : ℤ) (at : Instant) : Type 0 where
  place : ChannelPlace
  is : IsPlaceIn (head_of file) place
  point : Point
  there : Has (points_at (sampled file (head_of file) (neg_ℤ d)) place) point
  same : IsSame (instant place.samples point) at

has-point : (file : List ℕ) (d : ℤ) (label : List ℕ) (at : Instant) (v : ℤ) → Conforms file (head_of file) → ValueAt file label (later d at) v → HasPoint file d at
has-point file d label at v c value =
    let h = head_of file in
    let s = value-sampled file d label (λ x. true) at v c (λ x i e q. refl) value in
    let x = s.x in
    let channel = samples_are_of_channels file h x s.there in
    let place : ChannelPlace = record { number = x.channel; samples = (channel.0).samples } in
    let bounds = channel-bounds h channel.0 (sound-head file c) (has-at (channels_among h.signals) x.channel channel.0 channel.1) in
    let own : (x.channel == x.channel) ≡ true = grind (arith, nat_tests) in
    let Q : Instant → Type 0 = λ i. IsSame i at in
    record {
      place = place;
      is = record { channel = channel.0; there = channel.1; samples = refl; some = bounds.0; few = bounds.1 };
      point = point_of (neg_ℤ d) x;
      there = has-map (point_of (neg_ℤ d)) (filter (is_of x.channel) (samples_of file h)) x (filtered-has (is_of x.channel) (samples_of file h) x s.there own);
      same = subst Q (sym (at-instant (channel.0).samples (neg_ℤ d) x channel.2)) s.same;
    }

value-from : (file : List ℕ) (d t : ℤ) (label : List ℕ) (at : Instant) (v : ℤ) → 0 < at.den → Conforms file (head_of file) → t ≤ℤ begin_by file (head_of file) (neg_ℤ d) 0 → ValueAt file label (later d at) v → IsNotBefore at (whole t)
value-from file d t label at v p c from value =
    let r = has-point file d label at v c value in
    let f : IsNotBefore (instant (r.place).samples r.point) (whole t) = from-first file (head_of file) r.place (neg_ℤ d) t c r.is from r.point r.there in
    from_below at (instant (r.place).samples r.point) (whole t) (r.is).some (same_below (instant (r.place).samples r.point) at r.same) f

value-before : (file : List ℕ) (d u : ℤ) (label : List ℕ) (at : Instant) (v : ℤ) → 0 < at.den → Conforms file (head_of file) → u ≡ last_end_by file (head_of file) (neg_ℤ d) → ValueAt file label (later d at) v → IsBefore at (whole u)
value-before file d u label at v p c end value =
    let r = has-point file d label at v c value in
    let f : IsBefore (instant (r.place).samples r.point) (whole u) = before-past-all file (head_of file) r.place (neg_ℤ d) u c r.is (past_all file (head_of file) (neg_ℤ d) u c end) r.point r.there in
    same_before at (instant (r.place).samples r.point) (whole u) p (same_back (instant (r.place).samples r.point) at r.same) f

-- ---- what is kept of a span

-- what the claim keeps from t on
abbrev pub KeptFrom : List ℕ → ClaimValue → ℤ → Course
KeptFrom original claim t = KeptAt original (claim_within true t t claim)

-- and before u
abbrev pub KeptUntil : List ℕ → ClaimValue → ℤ → ℤ → Course
KeptUntil original claim t u = KeptAt original (claim_within false t u claim)

as-test : (claim : ClaimValue) (t : Instant) (label : List ℕ) (v : ℤ) (original : List ℕ) → KeptAt original claim label t v → keeps_instant claim t.num t.den ≡ true
as-test claim t label v original h = h.1

-- an instant that one claim keeps and the other as well
kept-so : (original : List ℕ) (c d : ClaimValue) (label : List ℕ) (t : Instant) (v : ℤ) → d.channels ≡ c.channels → keeps_instant d t.num t.den ≡ true → KeptAt original c label t v → KeptAt original d label t v
kept-so original c d label t v same keeps h = (subst (λ (ls : List (List ℕ)). Has ls label) (sym same) h.0, keeps, h.2)

pub kept-cut : (original : List ℕ) (claim : ClaimValue) (t u : ℤ) → t ≤ℤ u → IsCutAt (whole u) (KeptFrom original claim t) (KeptUntil original claim t u) (KeptFrom original claim u)
kept-cut original claim t u l = record {
  front = λ label at v p h.
      let test = as-test (claim_within false t u claim) at label v original h in
      let late = within-from false claim t u at.num at.den test in
      let early = within-until claim t u at.num at.den test in
      let keeps = sym (within-keeps false claim t u at.num at.den late (λ z. early)) ∙ test in (
        kept-so original (claim_within false t u claim) (claim_within true t t claim) label at v refl (within-keeps true claim t t at.num at.den late (λ z. absurd (let f : true ≡ false = z in cc)) ∙ keeps) h,
        omega (arith, ints, early),
      );
  back = λ label at v p h.
      let test = as-test (claim_within true u u claim) at label v original h in
      let late = within-from true claim u u at.num at.den test in
      let keeps = sym (within-keeps true claim u u at.num at.den late (λ z. absurd (let f : true ≡ false = z in cc))) ∙ test in
      let from : IsNotBefore at (whole t) = earlier_from at t u l (omega (arith, ints, late)) in (
        kept-so original (claim_within true u u claim) (claim_within true t t claim) label at v refl (within-keeps true claim t t at.num at.den (omega (arith, ints, from)) (λ z. absurd (let f : true ≡ false = z in cc)) ∙ keeps) h,
        omega (arith, ints, late),
      );
  each = λ label at v p h.
      let test = as-test (claim_within true t t claim) at label v original h in
      let late = within-from true claim t t at.num at.den test in
      let keeps = sym (within-keeps true claim t t at.num at.den late (λ z. absurd (let f : true ≡ false = z in cc))) ∙ test in
      by_before at (whole u)
      (λ b. inl (kept-so original (claim_within true t t claim) (claim_within false t u claim) label at v refl (within-keeps false claim t u at.num at.den late (λ z. omega (arith, ints, b)) ∙ keeps) h))
      (λ b. inr (kept-so original (claim_within true t t claim) (claim_within true u u claim) label at v refl (within-keeps true claim u u at.num at.den (omega (arith, ints, b)) (λ z. absurd (let f : true ≡ false = z in cc)) ∙ keeps) h));
}

-- from a time on at which the original hasn't begun all is kept
pub all-kept : (original : List ℕ) (claim : ClaimValue) (t : ℤ) → Conforms original (head_of original) → t ≤ℤ begin_by original (head_of original) (neg_ℤ (origin_of original)) 0 → Agree (KeptFrom original claim t) (KeptAt original claim)
all-kept original claim t c from label at v p = (
  λ h.
      let test = as-test (claim_within true t t claim) at label v original h in
      let late = within-from true claim t t at.num at.den test in
      kept-so original (claim_within true t t claim) claim label at v refl (sym (within-keeps true claim t t at.num at.den late (λ z. absurd (let f : true ≡ false = z in cc))) ∙ test) h,
  λ h.
      let late = value-from original (origin_of original) t label at v p c from h.2 in
      kept-so original claim (claim_within true t t claim) label at v refl (within-keeps true claim t t at.num at.den (omega (arith, ints, late)) (λ z. absurd (let f : true ≡ false = z in cc)) ∙ as-test claim at label v original h) h,
)

-- ---- what the parts hold

exported-from : (original part : List ℕ) (claim : ClaimValue) (t : ℤ) (label : List ℕ) (at : Instant) (v : ℤ) → 0 < at.den → Conforms part (head_of part) → t ≤ℤ part_begin original claim part → ExportedAt original part claim label at v → IsNotBefore at (whole t)
exported-from original part claim t label at v p c from h = value-from part (origin_of original +ℤ shift_ps claim) t label at v p c from h

in-order-later : (original : List ℕ) (claim : ClaimValue) (s t : ℤ) (parts : List (List ℕ)) → s ≤ℤ t → AreOrdered (moved_part original claim) t parts → AreOrdered (moved_part original claim) s parts
in-order-later original claim s t [] l h = tt
in-order-later original claim s t (part ∷ parts) l h = (let f = h.0 in omega (arith, ints, l, f), h.1)

part-order : (original part : List ℕ) (claim : ClaimValue) → Conforms part (head_of part) → part_begin original claim part ≤ℤ part_end original claim part
part-order original part claim c = ends_behind part (head_of part) (moved_part original claim) c

one-from : (original : List ℕ) (claim : ClaimValue) (t : ℤ) (parts : List (List ℕ)) (label : List ℕ) (at : Instant) (v : ℤ) → 0 < at.den → ((part : List ℕ) → Has parts part → Conforms part (head_of part)) → AreOrdered (moved_part original claim) t parts
    → ExportedByOne original parts claim label at v → IsNotBefore at (whole t)
one-from original claim t [] label at v p c order (part, i, h) = absurd i
one-from original claim t (first ∷ parts) label at v p c order (part, i, h) =
    ⊎_elim
    (λ e. exported-from original part claim t label at v p (c part i) (let f = order.0 in subst (λ x. t ≤ℤ part_begin original claim x) e f) h)
    (λ j.
    let from : t ≤ℤ part_end original claim first = (let f = order.0 in let g = part-order original first claim (c first (inl refl)) in omega (arith, ints, f, g)) in
    one-from original claim t parts label at v p (λ x k. c x (inr k)) (in-order-later original claim t (part_end original claim first) parts from order.1) (part, j, h)) i

pub parts-cut : (original : List ℕ) (claim : ClaimValue) (t : ℤ) (part : List ℕ) (parts : List (List ℕ)) → ((x : List ℕ) → Has (part ∷ parts) x → Conforms x (head_of x)) → AreOrdered (moved_part original claim) t (part ∷ parts)
    → IsCutAt (whole (part_end original claim part)) (ExportedByOne original (part ∷ parts) claim) (ExportedAt original part claim) (ExportedByOne original parts claim)
parts-cut original claim t part parts c order = record {
  front = λ label at v p h. ((part, inl refl, h), value-before part (origin_of original +ℤ shift_ps claim) (part_end original claim part) label at v p (c part (inl refl)) refl h);
  back = λ label at v p (x, i, h). ((x, inr i, h), one-from original claim (part_end original claim part) parts label at v p (λ y k. c y (inr k)) order.1 (x, i, h));
  each = λ label at v p (x, i, h). ⊎_elim (λ e. inl (subst (λ y. ExportedAt original y claim label at v) (sym e) h)) (λ j. inr (x, j, h)) i;
}

-- ---- one part

place-of-label : (h : Head) (label : List ℕ) (o : Option ChannelPlace) → IsSound h → channel_at label h ≡ o → IfSome o (IsPlaceIn h)
place-of-label h label None s e = tt
place-of-label h label (Some place) s e =
    let r = at-found h label place e in
    let number : place.number ≡ r.at = (let n = r.number in omega (arith, n)) in
    let there : slice_get (channels_among h.signals) place.number ≡ Some r.channel = ap (slice_get (channels_among h.signals)) number ∙ r.there in
    let bounds = channel-bounds h r.channel s (has-at (channels_among h.signals) place.number r.channel there) in
    let samples = r.samples in
    record { channel = r.channel; there = there; samples = samples; some = (let b = bounds.0 in omega (arith, b, samples)); few = (let b = bounds.1 in omega (arith, b, samples)) }

are-places-in : (h g : Head) (labels : List (Bor (List ℕ))) → IsSound h → IsSound g → ArePlaces h g (places_in h g labels)
unfolding ArePlaces
are-places-in h g [] s r = tt
are-places-in h g (label ∷ labels) s r = (place-of-label h label.now (channel_at label.now h) s refl, place-of-label g label.now (channel_at label.now g) r refl, are-places-in h g labels s r)

-- what is said of the first difference of a part: there is none, and both have the same; or it is the first mismatch
abbrev pub IsFirst : Course → Course → List (Bor (List ℕ)) → Option Found → Type 0
IsFirst kept exported labels found =
    MatchOption found (Agree kept exported)
    (λ f. (label : List ℕ) → slice_get (map (λ l. l.now) labels) f.channel ≡ Some label → IsFirstMismatch kept exported label (floor_of f.difference.at) f.difference.mismatch)

-- the difference of the channels is that of the labels
labels-walked : (claim : ClaimValue) (o e : Sampled) (h g : Head) (labels : List (Bor (List ℕ))) → o.head ≡ h → e.head ≡ g
    → whole_difference claim o e (map (λ label. (channel_at label.now h, channel_at label.now g)) labels) ≡ earliest 0 (map (λ label. label_difference claim o e label.now) labels)
unfolding whole_difference label_difference
labels-walked claim o e h g labels eo ee =
    ap (earliest 0) (map-map (λ (p : Places). difference_at claim o e p.0 p.1) (λ (label : Bor (List ℕ)). (channel_at label.now h, channel_at label.now g)) labels)
    ∙ ap (λ (x : Head). earliest 0 (map (λ (label : Bor (List ℕ)). difference_at claim o e (channel_at label.now x) (channel_at label.now g)) labels)) (sym eo)
    ∙ ap (λ (x : Head). earliest 0 (map (λ (label : Bor (List ℕ)). difference_at claim o e (channel_at label.now o.head) (channel_at label.now x)) labels)) (sym ee)

part-first : (last : Bool) (original part : List ℕ) (claim : ClaimValue) (labels : List (Bor (List ℕ))) (t : ℤ) → Conforms original (head_of original) → Conforms part (head_of part) → HeadsAgree (head_of original) (head_of part) claim
    → AreSorted claim.channels labels → t ≤ℤ part_begin original claim part
    → IsFirst (KeptAt original (claim_within last t (part_end original claim part) claim)) (ExportedAt original part claim) labels (part_difference last original claim labels t part)
part-first last original part claim labels t co cp agree sorted from =
    let h = head_of original in
    let g = head_of part in
    let a = neg_ℤ (origin_of original) in
    let b = moved_part original claim in
    let u = part_end original claim part in
    let within = claim_within last t u claim in
    let x = sampled original h a in
    let y = sampled part g b in
    let nights : AreNights original part within x y = record {
      conform = record { original_conforms = co; export_conforms = cp };
      channels = record { in_original = (agree.channels).in_original; in_export = (agree.channels).in_export };
      original_head = refl;
      original_samples = refl;
      original_moved = refl;
      export_head = refl;
      export_samples = refl;
      export_moved = refl;
    } in
    first-found original part within x y labels (part_difference last original claim labels t part) nights sorted
    (span_is_whole last claim original part h g a b t u (places_in h g labels) co cp (are-places-in h g labels (sound-head original co) (sound-head part cp)) from refl ∙ labels-walked within x y h g labels refl refl)

-- ---- all parts

pub one-alone : (original part : List ℕ) (claim : ClaimValue) → Agree (ExportedAt original part claim) (ExportedByOne original (part ∷ []) claim)
one-alone original part claim label at v p = (
  λ h. (part, inl refl, h),
  λ (x, i, h). ⊎_elim (λ e. subst (λ y. ExportedAt original y claim label at v) (sym e) h) (λ j. absurd j) i,
)

is-first-alike : (K L E F : Course) (labels : List (Bor (List ℕ))) (found : Option Found) → Agree K L → Agree E F → IsFirst K E labels found → IsFirst L F labels found
is-first-alike K L E F labels None a b h = agree-alike K L E F a b h
is-first-alike K L E F labels (Some f) a b h = λ label at. first-alike K L E F a b label (floor_of f.difference.at) f.difference.mismatch (h label at)

or-none : (o : Option Found) → o ≡ option_or o None
or-none None = refl
or-none (Some f) = refl

joined : (u : ℤ) (K A B E F G : Course) (labels : List (Bor (List ℕ))) (x y : Option Found) → IsCutAt (whole u) K A B → IsCutAt (whole u) E F G → IsCourse F → IsFirst A F labels x → IsFirst B G labels y → IsFirst K E labels (option_or x y)
joined u K A B E F G labels None None c d one p q = join-agree (whole u) K A B E F G c d p q
joined u K A B E F G labels None (Some g) c d one p q = λ label at. join-later (whole u) K A B E F G (lit< tt) c d one p label (floor_of g.difference.at) g.difference.mismatch (q label at)
joined u K A B E F G labels (Some f) y c d one p q = λ label at. join-first (whole u) K A B E F G (lit< tt) c d label (floor_of f.difference.at) f.difference.mismatch (p label at)

parts-first : (original : List ℕ) (claim : ClaimValue) (labels : List (Bor (List ℕ))) (t : ℤ) (part : List ℕ) (parts : List (List ℕ)) → Conforms original (head_of original) → ((x : List ℕ) → Has (part ∷ parts) x → Conforms x (head_of x))
    → ((x : List ℕ) → Has (part ∷ parts) x → HeadsAgree (head_of original) (head_of x) claim) → AreSorted claim.channels labels → AreOrdered (moved_part original claim) t (part ∷ parts)
    → IsFirst (KeptFrom original claim t) (ExportedByOne original (part ∷ parts) claim) labels (serial_difference claim original (head_of original) (neg_ℤ (origin_of original)) (moved_part original claim) labels t (part ∷ parts))
parts-first original claim labels t part [] co cp agree sorted order =
    let K = KeptFrom original claim t in
    let found = part_difference true original claim labels t part in
    subst (IsFirst K (ExportedByOne original (part ∷ []) claim) labels) (or-none found)
    (is-first-alike K K (ExportedAt original part claim) (ExportedByOne original (part ∷ []) claim) labels found (agree-self K) (one-alone original part claim)
    (part-first true original part claim labels t co (cp part (inl refl)) (agree part (inl refl)) sorted order.0))
parts-first original claim labels t part (next ∷ parts) co cp agree sorted order =
    let u = part_end original claim part in
    let here = cp part (inl refl) in
    let from : t ≤ℤ u = (let f = order.0 in let g = part-order original part claim here in omega (arith, ints, f, g)) in
    joined u (KeptFrom original claim t) (KeptUntil original claim t u) (KeptFrom original claim u) (ExportedByOne original (part ∷ next ∷ parts) claim) (ExportedAt original part claim) (ExportedByOne original (next ∷ parts) claim)
    labels (part_difference false original claim labels t part) (serial_difference claim original (head_of original) (neg_ℤ (origin_of original)) (moved_part original claim) labels u (next ∷ parts))
    (kept-cut original claim t u from) (parts-cut original claim t part (next ∷ parts) cp order) (exported-course original part claim here)
    (part-first false original part claim labels t co here (agree part (inl refl)) sorted order.0)
    (parts-first original claim labels u next parts co (λ x i. cp x (inr i)) (λ x i. agree x (inr i)) sorted order.1)

-- the first difference of an original and all parts, from a time on at which it hasn't begun
pub parts_first : (original : List ℕ) (claim : ClaimValue) (labels : List (Bor (List ℕ))) (t : ℤ) (part : List ℕ) (parts : List (List ℕ)) → Conforms original (head_of original) → ((x : List ℕ) → Has (part ∷ parts) x → Conforms x (head_of x))
    → ((x : List ℕ) → Has (part ∷ parts) x → HeadsAgree (head_of original) (head_of x) claim) → AreSorted claim.channels labels → AreOrdered (moved_part original claim) t (part ∷ parts)
    → t ≤ℤ begin_by original (head_of original) (neg_ℤ (origin_of original)) 0
    → IsFirst (KeptAt original claim) (ExportedByOne original (part ∷ parts) claim) labels (serial_difference claim original (head_of original) (neg_ℤ (origin_of original)) (moved_part original claim) labels t (part ∷ parts))
parts_first original claim labels t part parts co cp agree sorted order from =
    let E = ExportedByOne original (part ∷ parts) claim in
    is-first-alike (KeptFrom original claim t) (KeptAt original claim) E E labels (serial_difference claim original (head_of original) (neg_ℤ (origin_of original)) (moved_part original claim) labels t (part ∷ parts)) (all-kept original claim t co from) (agree-self E)
    (parts-first original claim labels t part parts co cp agree sorted order)
