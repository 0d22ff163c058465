-- The columns of two files hold what the claim keeps of the original, and what the export holds.
use Rattle.std.proofs.Common.{◌≡◌, ℕ, ◌<◌, ◌+ℤ◌, ℤ, neg_ℤ, Bool, true, false, not, Bor, List, [], ◌∷◌, get_or, map, filter, Option, Some, None, MatchOption, slice_get, unwrap_or, option_map, inl, inr, refl, sym, ap, ◌∙◌, subst, arith}
use Rattle.std.specs.Cmp.Lexicographic.{slice_cmp}
use Rattle.std.specs.List.Sorted.{IsSorted}
use Rattle.std.specs.Option.{option_map_or}
use Rattle.std.specs.Ordering.{nat_cmp, is_lt}
use Rattle.std.proofs.lemmas.Bool.Decides.{nat_tests}
use Rattle.std.proofs.lemmas.Cmp.{nat_list_cmp_total}
use Rattle.std.proofs.lemmas.List.Sorted.{sorted_far, ranks_by, IsPermutation-sym}
use Rattle.edf_claim.specs.ClaimValues.{ClaimValue}
use Rattle.edf_claim.specs.Keeps.{keeps_instant}
use Rattle.edf_fields.specs.Lists.{Has}
use Rattle.edf_fields.proofs.ForCallers.{and-true, both-true, has-map, map-has, has-filtered, filtered-has, has-at, get-index, get-within, has-one_of, one_of-has, has-permutation, map-get, get-map}
use Rattle.edf_header.specs.Heads.{SignalHead, Head, is_annotations}
use Rattle.edf_header.specs.HeadsReading.{head_of}
use Rattle.edf_header.specs.Sound.{IsSound}
use Rattle.edf_stream.specs.declared.times.instant.Instant.{Instant}
use Rattle.edf_stream.specs.declared.samples.sample.Sample.{Sample}
use Rattle.edf_stream.specs.Conforming.{Conforms}
use Rattle.edf_stream.specs.times.Instants.{IsSame}
use Rattle.edf_stream.specs.samples.Samples.{SampleValue}
use Rattle.edf_stream.specs.samples.SamplesReading.{samples_of, channel_label, labelled}
use Rattle.edf_header.specs.signals.Channels.{channels_among, channel_labels}
use Rattle.edf_stream.proofs.ForCallers.{sound-of, samples_are_listed, samples_are_of_channels, samples_rise}
use Rattle.edf_pace.specs.declared.walk.channel_place.ChannelPlace.{ChannelPlace}
use Rattle.edf_samples.specs.declared.point.Point.{Point}
use Rattle.edf_heads.specs.Channels.{SameChannels}
use Rattle.edf_heads.specs.differences.ChannelDifferences.{HasChannel}
use Rattle.edf_pace.specs.walk.Columns.{channel_at, Sampled, point_of, is_of, is_kept, points_of}
use Rattle.edf_heads.specs.Comparisons.{AreSorted}
use Rattle.edf_check.specs.Courses.{Agree, IsFirstMismatch}
use Rattle.edf_samples.specs.declared.earliest.Found.{Found}
use Rattle.edf_check.specs.Exports.{SameSamples, BothConform}
use Rattle.edf_samples.specs.InstantOrder.{floor_of}
use Rattle.edf_samples.specs.Instants.{later}
use Rattle.edf_check.proofs.ColumnFacts.{named, first-is-first, Column, label_of, KeptIn, ExportedIn, IsColumn, LabelsRise, AreColumns, difference_of}
use Rattle.edf_check.proofs.CourseFacts.{agree-alike, first-alike}
use Rattle.edf_samples.specs.Differences.{instant, earliest}
use Rattle.edf_pace.proofs.ForCallers.{one-number, channels-distinct, at-found, at-there, channel-bounds}
use Rattle.edf_samples.proofs.ForCallers.{HasValue, IsAscending, same_back}
use Rattle.edf_pace.specs.Kept.{shift_ps}
use Rattle.edf_check.specs.KeptReading.{origin_of, ValueAt, KeptAt, ExportedAt}
use Rattle.edf_heads.specs.Labels.{IsNotAbove}
use Rattle.edf_heads.proofs.ForCallers.{has-label, label-has, not_below}
use Rattle.edf_check.proofs.KeptFacts.{later-same, keeps-same}
use Rattle.edf_check.proofs.WordsFacts.{later-back, since-same}
use Rattle.edf_samples.specs.declared.difference.PointDifference.{PointDifference}
use Rattle.std.proofs.lemmas.Simd.{map-map}
use Rattle.edf_pace.proofs.ForCallers.{ascending, difference_at}

-- the first difference of the channels of this label
unfoldable pub label_difference : ClaimValue → Sampled → Sampled → List ℕ → Option PointDifference
label_difference claim o e label = difference_at claim o e (channel_at label o.head) (channel_at label e.head)

-- these are the samples of an original and an export that conform and have the claimed channels, counted from the second at which the
-- original starts, before the shift
pub record AreNights (original export : List ℕ) (claim : ClaimValue) (o e : Sampled) : Type 0 where
  pub conform : BothConform original export
  pub channels : SameChannels (head_of original) (head_of export) claim
  pub original_head : o.head ≡ head_of original
  pub original_samples : o.samples ≡ samples_of original (head_of original)
  pub original_moved : o.moved ≡ neg_ℤ (origin_of original)
  pub export_head : e.head ≡ head_of export
  pub export_samples : e.samples ≡ samples_of export (head_of export)
  pub export_moved : e.moved ≡ neg_ℤ (origin_of original +ℤ shift_ps claim)

-- ---- the channel of a label

named-channel : (h : Head) (c : ℕ) (x : SignalHead) → slice_get (channels_among h.signals) c ≡ Some x → channel_label h c ≡ x.label
named-channel h c x e = ap (λ o. option_map_or (λ (s : SignalHead). s.label) o []) e

pub sound-head : (file : List ℕ) → Conforms file (head_of file) → IsSound (head_of file)
sound-head file c = sound-of file (head_of file) c

-- a sample of the channel that was found has its label, and its denominator
pub record IsOfLabel (h : Head) (label : List ℕ) (place : ChannelPlace) (x : Sample) : Type 0 where
  pub labelled : channel_label h x.channel ≡ label
  pub den : (x.instant).den ≡ place.samples

of-label : (file : List ℕ) (h : Head) (label : List ℕ) (place : ChannelPlace) (x : Sample) → channel_at label h ≡ Some place → Has (samples_of file h) x → is_of place.number x ≡ true → IsOfLabel h label place x
of-label file h label place x e i t =
    let r = at-found h label place e in
    let s = samples_are_of_channels file h x i in
    let number = r.number in
    let here : x.channel ≡ place.number = grind (arith, nat_tests, t) in
    let at : x.channel ≡ r.at = omega (arith, here, number) in
    let same : s.0 ≡ r.channel = (let z : Some s.0 ≡ Some r.channel = sym s.1 ∙ ap (slice_get (channels_among h.signals)) at ∙ r.there in cc) in
    record {
      labelled = named-channel h x.channel s.0 s.1 ∙ ap (λ (c : SignalHead). c.label) same ∙ r.labelled;
      den = s.2 ∙ ap (λ (c : SignalHead). c.samples) same ∙ sym r.samples;
    }

-- a sample of this label is one of the channel that was found
label-of : (file : List ℕ) (h : Head) (label : List ℕ) (place : ChannelPlace) (x : Sample) → IsSound h → channel_at label h ≡ Some place → Has (samples_of file h) x → channel_label h x.channel ≡ label → is_of place.number x ≡ true
label-of file h label place x sound e i same =
    let r = at-found h label place e in
    let s = samples_are_of_channels file h x i in
    let number = r.number in
    let at : x.channel ≡ r.at = one-number (channels_among h.signals) (channels-distinct h sound) x.channel r.at s.0 r.channel s.1 r.there (sym (named-channel h x.channel s.0 s.1) ∙ same ∙ sym r.labelled) in
    let here : x.channel ≡ place.number = omega (arith, at, number) in
    grind (arith, nat_tests, here)

-- ---- one column of a file that conforms

-- the instant of a point is that of its sample, moved
pub at-instant : (n : ℕ) (ps : ℤ) (x : Sample) → (x.instant).den ≡ n → instant n (point_of ps x) ≡ later ps x.instant
at-instant n ps x e = let make : ℕ → Instant = λ m. record { num = (later ps x.instant).num; den = m } in ap make (sym e)

-- a value of a column is that of a sample of its channel
pub record IsSampled (file : List ℕ) (h : Head) (label : List ℕ) (test : Sample → Bool) (ps : ℤ) (at : Instant) (value : ℤ) : Type 0 where
  pub x : Sample
  pub there : Has (samples_of file h) x
  pub passes : test x ≡ true
  pub labelled : channel_label h x.channel ≡ label
  pub same : IsSame (later ps x.instant) at
  pub value_is : x.value ≡ value

column-sampled : (file : List ℕ) (h : Head) (label : List ℕ) (place : ChannelPlace) (test : Sample → Bool) (ps : ℤ) (at : Instant) (v : ℤ) → channel_at label h ≡ Some place
    → ((x : Sample) → test x ≡ true → is_of place.number x ≡ true)
    → HasValue place.samples (points_of test ps (samples_of file h)) at v → IsSampled file h label test ps at v
column-sampled file h label place test ps at v e of found =
    let m = map-has (point_of ps) (filter test (samples_of file h)) found.0 found.1 in
    let x = m.0 in
    let f = has-filtered test (samples_of file h) x m.1 in
    let o = of-label file h label place x e f.0 (of x f.1) in
    let P : Point → Type 0 = λ p. IsSame (instant place.samples p) at in
    let Q : Instant → Type 0 = λ i. IsSame i at in
    record {
      x = x;
      there = f.0;
      passes = f.1;
      labelled = o.labelled;
      same = subst Q (at-instant place.samples ps x o.den) (subst P (sym m.2) found.2);
      value_is = ap (λ (p : Point). p.value) m.2 ∙ found.3;
    }

sampled-column : (file : List ℕ) (h : Head) (label : List ℕ) (place : ChannelPlace) (test : Sample → Bool) (ps : ℤ) (at : Instant) (v : ℤ) → channel_at label h ≡ Some place
    → IsSound h → ((x : Sample) → test x ≡ true → is_of place.number x ≡ true)
    → IsSampled file h label test ps at v → HasValue place.samples (points_of test ps (samples_of file h)) at v
sampled-column file h label place test ps at v e sound of s =
    let o = of-label file h label place s.x e s.there (of s.x s.passes) in
    let Q : Instant → Type 0 = λ i. IsSame i at in (
      point_of ps s.x,
      has-map (point_of ps) (filter test (samples_of file h)) s.x (filtered-has test (samples_of file h) s.x s.there s.passes),
      subst Q (sym (at-instant place.samples ps s.x o.den)) s.same,
      s.value_is,
    )

-- a sample of the list at an instant is a value of the file there
sampled-value : (file : List ℕ) (d : ℤ) (label : List ℕ) (test : Sample → Bool) (at : Instant) (v : ℤ) → Conforms file (head_of file)
    → IsSampled file (head_of file) label test (neg_ℤ d) at v → ValueAt file label (later d at) v
sampled-value file d label test at v c s =
    let h = head_of file in
    let x = labelled h s.x in
    let is = (samples_are_listed file h c x).1 (has-map (labelled h) (samples_of file h) s.x s.there) in
    (x, is, s.labelled, subst (λ (i : Instant). IsSame i (later d at)) (later-back d (s.x).instant) (later-same d (later (neg_ℤ d) (s.x).instant) at s.same), s.value_is)

-- and back
pub value-sampled : (file : List ℕ) (d : ℤ) (label : List ℕ) (test : Sample → Bool) (at : Instant) (v : ℤ) → Conforms file (head_of file)
    → ((x : Sample) → Has (samples_of file (head_of file)) x → channel_label (head_of file) x.channel ≡ label → IsSame (later (neg_ℤ d) x.instant) at → test x ≡ true)
    → ValueAt file label (later d at) v → IsSampled file (head_of file) label test (neg_ℤ d) at v
value-sampled file d label test at v c passes (y, is, named, same, value) =
    let h = head_of file in
    let m = map-has (labelled h) (samples_of file h) y ((samples_are_listed file h c y).0 is) in
    let x = m.0 in
    let here : channel_label h x.channel ≡ label = ap (λ (z : SampleValue). z.label) m.2 ∙ named in
    let P : SampleValue → Type 0 = λ z. IsSame z.instant (later d at) in
    let moved = since-same d x.instant at (subst P (sym m.2) same) in
    record { x = x; there = m.1; passes = passes x m.1 here moved; labelled = here; same = moved; value_is = ap (λ (z : SampleValue). z.value) m.2 ∙ value }

-- ---- the columns rise

column-rises : (file : List ℕ) (label : List ℕ) (place : ChannelPlace) (test : Sample → Bool) (ps : ℤ) → Conforms file (head_of file) → channel_at label (head_of file) ≡ Some place
    → ((x : Sample) → test x ≡ true → is_of place.number x ≡ true) → IsAscending (points_of test ps (samples_of file (head_of file)))
column-rises file label place test ps c e of =
    let h = head_of file in
    ascending test ps place.number place.samples (samples_of file h) (samples_rise file h c)
    (λ x i t. ((let u = of x t in grind (arith, nat_tests, u)), (of-label file h label place x e i (of x t)).den))

-- ---- both files

-- the column of a label
abbrev column_at : ClaimValue → Sampled → Sampled → List ℕ → ChannelPlace → ChannelPlace → Column
column_at claim o e label s t = record {
  label = label;
  n = s.samples;
  kept = points_of (is_kept claim s.number o.moved) o.moved o.samples;
  m = t.samples;
  exported = points_of (is_of t.number) e.moved e.samples;
}

abbrev place_or : Option ChannelPlace → ChannelPlace
place_or None = record { number = 0; samples = 1 }
place_or (Some place) = place

abbrev pub column_of : ClaimValue → Sampled → Sampled → List ℕ → Column
column_of claim o e label = column_at claim o e label (place_or (channel_at label o.head)) (place_or (channel_at label e.head))

-- a label that is claimed has its channel in both files
record HasPlaces (o e : Sampled) (label : List ℕ) : Type 0 where
  s : ChannelPlace
  t : ChannelPlace
  original : channel_at label o.head ≡ Some s
  export : channel_at label e.head ≡ Some t

pub place-there : (h : Head) (label : List ℕ) → HasChannel h label → (place : ChannelPlace) × (channel_at label h ≡ Some place)
place-there h label (x, is) = cases (channel_at label h) refl
  where
    ordinary : not (is_annotations x.label) ≡ true
    ordinary = ap (λ l. not (is_annotations l)) is.labelled.0 ∙ ap not is.labelled.1

    cases : (o : Option ChannelPlace) → channel_at label h ≡ o → (place : ChannelPlace) × (channel_at label h ≡ Some place)
    cases None e = absurd (at-there h label e x (filtered-has (λ (y : SignalHead). not (is_annotations y.label)) h.signals x is.there ordinary) is.labelled.0)
    cases (Some place) e = (place, e)

places : (original export : List ℕ) (claim : ClaimValue) (o e : Sampled) (label : List ℕ) → AreNights original export claim o e → Has claim.channels label → HasPlaces o e label
places original export claim o e label a i =
    let channels = a.channels in
    let here = place-there (head_of original) label (channels.in_original label i) in
    let there = place-there (head_of export) label (label-has (head_of export) label (has-permutation claim.channels (channel_labels (head_of export).signals) label channels.in_export i)) in
    record { s = here.0; t = there.0; original = ap (channel_at label) a.original_head ∙ here.1; export = ap (channel_at label) a.export_head ∙ there.1 }

-- what is compared for a label is the difference of its column
difference-is : (claim : ClaimValue) (o e : Sampled) (label : List ℕ) → HasPlaces o e label → label_difference claim o e label ≡ difference_of (column_of claim o e label)
unfolding label_difference
difference-is claim o e label p =
    ap (λ s. difference_at claim o e s (channel_at label e.head)) p.original
    ∙ ap (difference_at claim o e (Some p.s)) p.export
    ∙ ap (λ s. difference_of (column_at claim o e label s p.t)) (sym (ap place_or p.original))
    ∙ ap (λ t. difference_of (column_at claim o e label (place_or (channel_at label o.head)) t)) (sym (ap place_or p.export))

pub differences-are : {X Y : Type 0} (f g : X → Y) (xs : List X) → ((x : X) → Has xs x → f x ≡ g x) → map f xs ≡ map g xs
differences-are f g [] h = refl
differences-are f g (x ∷ xs) h = ap (λ y. y ∷ map f xs) (h x (inl refl)) ∙ ap (λ ys. g x ∷ ys) (differences-are f g xs (λ y i. h y (inr i)))

-- ---- what the columns hold

-- the columns of these labels, which are the claimed ones
abbrev pub columns_of : ClaimValue → Sampled → Sampled → List (List ℕ) → List Column
columns_of claim o e labels = map (column_of claim o e) labels

abbrev pub AreClaimed : ClaimValue → List (List ℕ) → Type 0
AreClaimed claim labels = (label : List ℕ) → (Has labels label → Has claim.channels label) × (Has claim.channels label → Has labels label)

kept-of : (claim : ClaimValue) (c : ℕ) (ps : ℤ) (x : Sample) → is_kept claim c ps x ≡ true → is_of c x ≡ true
kept-of claim c ps x t = (and-true (is_of c x) (keeps_instant claim (later ps x.instant).num (x.instant).den) t).0

kept-instant : (claim : ClaimValue) (c : ℕ) (ps : ℤ) (x : Sample) → is_kept claim c ps x ≡ true → keeps_instant claim (later ps x.instant).num (x.instant).den ≡ true
kept-instant claim c ps x t = (and-true (is_of c x) (keeps_instant claim (later ps x.instant).num (x.instant).den) t).1

positive-sample : (file : List ℕ) (x : Sample) → Conforms file (head_of file) → Has (samples_of file (head_of file)) x → 0 < (x.instant).den
positive-sample file x c i =
    let s = samples_are_of_channels file (head_of file) x i in
    let b = channel-bounds (head_of file) s.0 (sound-head file c) (has-at (channels_among (head_of file).signals) x.channel s.0 s.1) in
    let some = b.0 in
    let e = s.2 in
    omega (arith, some, e)

-- the words of `AreNights` put in place
kept-list : (original export : List ℕ) (claim : ClaimValue) (o e : Sampled) (c : ℕ) → AreNights original export claim o e
    → points_of (is_kept claim c o.moved) o.moved o.samples ≡ points_of (is_kept claim c (neg_ℤ (origin_of original))) (neg_ℤ (origin_of original)) (samples_of original (head_of original))
kept-list original export claim o e c a =
    ap (λ ps. points_of (is_kept claim c ps) ps o.samples) a.original_moved
    ∙ ap (λ xs. points_of (is_kept claim c (neg_ℤ (origin_of original))) (neg_ℤ (origin_of original)) xs) a.original_samples

exported-list : (original export : List ℕ) (claim : ClaimValue) (o e : Sampled) (c : ℕ) → AreNights original export claim o e
    → points_of (is_of c) e.moved e.samples ≡ points_of (is_of c) (neg_ℤ (origin_of original +ℤ shift_ps claim)) (samples_of export (head_of export))
exported-list original export claim o e c a =
    ap (λ ps. points_of (is_of c) ps e.samples) a.export_moved
    ∙ ap (λ xs. points_of (is_of c) (neg_ℤ (origin_of original +ℤ shift_ps claim)) xs) a.export_samples

-- the column of a claimed label, with its places
pub record IsColumnOf (original export : List ℕ) (claim : ClaimValue) (c : Column) : Type 0 where
  pub s : ChannelPlace
  pub t : ChannelPlace
  pub original_place : channel_at c.label (head_of original) ≡ Some s
  pub export_place : channel_at c.label (head_of export) ≡ Some t
  pub n_is : c.n ≡ s.samples
  pub kept_is : c.kept ≡ points_of (is_kept claim s.number (neg_ℤ (origin_of original))) (neg_ℤ (origin_of original)) (samples_of original (head_of original))
  pub m_is : c.m ≡ t.samples
  pub exported_is : c.exported ≡ points_of (is_of t.number) (neg_ℤ (origin_of original +ℤ shift_ps claim)) (samples_of export (head_of export))

column-is : (original export : List ℕ) (claim : ClaimValue) (o e : Sampled) (label : List ℕ) → AreNights original export claim o e → Has claim.channels label → IsColumnOf original export claim (column_of claim o e label)
column-is original export claim o e label a i =
    let p = places original export claim o e label a i in
    let s = place_or (channel_at label o.head) in
    let t = place_or (channel_at label e.head) in
    record {
      s = s;
      t = t;
      original_place = ap (channel_at label) (sym a.original_head) ∙ p.original ∙ ap Some (sym (ap place_or p.original));
      export_place = ap (channel_at label) (sym a.export_head) ∙ p.export ∙ ap Some (sym (ap place_or p.export));
      n_is = refl;
      kept_is = kept-list original export claim o e s.number a;
      m_is = refl;
      exported_is = exported-list original export claim o e t.number a;
    }

-- a column that stands among those of the labels
among : (original export : List ℕ) (claim : ClaimValue) (o e : Sampled) (labels : List (List ℕ)) (c : Column) → AreNights original export claim o e → AreClaimed claim labels
    → Has (columns_of claim o e labels) c → Has claim.channels c.label × (column_of claim o e c.label ≡ c) × IsColumnOf original export claim c
among original export claim o e labels c a l i =
    let m = map-has (column_of claim o e) labels c i in
    let claimed = (l m.0).0 m.1 in
    let named : m.0 ≡ c.label = ap label_of m.2 in
    (subst (Has claim.channels) named claimed, ap (column_of claim o e) (sym named) ∙ m.2, subst (IsColumnOf original export claim) m.2 (column-is original export claim o e m.0 a claimed))

pub is-column : (original export : List ℕ) (claim : ClaimValue) (c : Column) → Conforms original (head_of original) → Conforms export (head_of export) → IsColumnOf original export claim c → IsColumn c
is-column original export claim c co ce is =
    let s = is.s in
    let t = is.t in
    let ps = neg_ℤ (origin_of original) in
    let qs = neg_ℤ (origin_of original +ℤ shift_ps claim) in
    let few : (file : List ℕ) (place : ChannelPlace) → Conforms file (head_of file) → channel_at c.label (head_of file) ≡ Some place → 0 < place.samples =
    λ file place cf e.
    (let r = at-found (head_of file) c.label place e in
    let b = channel-bounds (head_of file) r.channel (sound-head file cf) (has-at (channels_among (head_of file).signals) r.at r.channel r.there) in
    let some = b.0 in
    let n = r.samples in
    omega (arith, some, n)) in
    record {
      n = subst (λ k. 0 < k) (sym is.n_is) (few original s co is.original_place);
      m = subst (λ k. 0 < k) (sym is.m_is) (few export t ce is.export_place);
      kept = subst IsAscending (sym is.kept_is) (column-rises original c.label s (is_kept claim s.number ps) ps co is.original_place (kept-of claim s.number ps));
      exported = subst IsAscending (sym is.exported_is) (column-rises export c.label t (is_of t.number) qs ce is.export_place (λ x h. h));
    }

-- what a column keeps is kept
pub kept-there : (original export : List ℕ) (claim : ClaimValue) (c : Column) (at : Instant) (v : ℤ) → Conforms original (head_of original) → IsColumnOf original export claim c → Has claim.channels c.label → 0 < at.den
    → HasValue c.n c.kept at v → KeptAt original claim c.label at v
kept-there original export claim c at v co is claimed p h =
    let s = is.s in
    let ps = neg_ℤ (origin_of original) in
    let test = is_kept claim s.number ps in
    let found : HasValue s.samples (points_of test ps (samples_of original (head_of original))) at v = subst (λ xs. HasValue s.samples xs at v) is.kept_is (subst (λ n. HasValue n c.kept at v) is.n_is h) in
    let r = column-sampled original (head_of original) c.label s test ps at v is.original_place (kept-of claim s.number ps) found in
    let px : 0 < (later ps (r.x).instant).den = positive-sample original r.x co r.there in
    let kept = kept-instant claim s.number ps r.x r.passes in
    (claimed, keeps-same claim (later ps (r.x).instant) at px p r.same kept, sampled-value original (origin_of original) c.label test at v co r)

pub there-kept : (original export : List ℕ) (claim : ClaimValue) (c : Column) (at : Instant) (v : ℤ) → Conforms original (head_of original) → IsColumnOf original export claim c → 0 < at.den
    → KeptAt original claim c.label at v → HasValue c.n c.kept at v
there-kept original export claim c at v co is p (claimed, kept, value) =
    let s = is.s in
    let d = origin_of original in
    let ps = neg_ℤ d in
    let h = head_of original in
    let test = is_kept claim s.number ps in
    let r = value-sampled original d c.label test at v co
    (λ x i named same.
    let px : 0 < (later ps x.instant).den = positive-sample original x co i in
    both-true (is_of s.number x) (keeps_instant claim (later ps x.instant).num (x.instant).den)
    (label-of original h c.label s x (sound-head original co) is.original_place i named)
    (keeps-same claim at (later ps x.instant) p px (same_back (later ps x.instant) at same) kept))
    value in
    let found = sampled-column original h c.label s test ps at v is.original_place (sound-head original co) (kept-of claim s.number ps) r in
    subst (λ n. HasValue n c.kept at v) (sym is.n_is) (subst (λ xs. HasValue s.samples xs at v) (sym is.kept_is) found)

pub exported-there : (original export : List ℕ) (claim : ClaimValue) (c : Column) (at : Instant) (v : ℤ) → Conforms export (head_of export) → IsColumnOf original export claim c
    → HasValue c.m c.exported at v → ExportedAt original export claim c.label at v
exported-there original export claim c at v ce is h =
    let t = is.t in
    let d = origin_of original +ℤ shift_ps claim in
    let found = subst (λ xs. HasValue t.samples xs at v) is.exported_is (subst (λ n. HasValue n c.exported at v) is.m_is h) in
    let r = column-sampled export (head_of export) c.label t (is_of t.number) (neg_ℤ d) at v is.export_place (λ x i. i) found in
    sampled-value export d c.label (is_of t.number) at v ce r

pub there-exported : (original export : List ℕ) (claim : ClaimValue) (c : Column) (at : Instant) (v : ℤ) → Conforms export (head_of export) → IsColumnOf original export claim c
    → ExportedAt original export claim c.label at v → HasValue c.m c.exported at v
there-exported original export claim c at v ce is value =
    let t = is.t in
    let d = origin_of original +ℤ shift_ps claim in
    let h = head_of export in
    let r = value-sampled export d c.label (is_of t.number) at v ce (λ x i named same. label-of export h c.label t x (sound-head export ce) is.export_place i named) value in
    let found = sampled-column export h c.label t (is_of t.number) (neg_ℤ d) at v is.export_place (sound-head export ce) (λ x i. i) r in
    subst (λ n. HasValue n c.exported at v) (sym is.m_is) (subst (λ xs. HasValue t.samples xs at v) (sym is.exported_is) found)

pub kept-agree : (original export : List ℕ) (claim : ClaimValue) (o e : Sampled) (labels : List (List ℕ)) → AreNights original export claim o e → AreClaimed claim labels
    → Agree (KeptIn (columns_of claim o e labels)) (KeptAt original claim)
kept-agree original export claim o e labels a l label at v p = (
  λ (c, i, named, h).
      let r = among original export claim o e labels c a l i in
      subst (λ x. KeptAt original claim x at v) named (kept-there original export claim c at v (a.conform).original_conforms r.2 r.0 p h),
  λ k.
      let c = column_of claim o e label in
      let i = has-map (column_of claim o e) labels label ((l label).1 k.0) in
      (c, i, refl, there-kept original export claim c at v (a.conform).original_conforms (column-is original export claim o e label a k.0) p k),
)

-- a value of the export is one of a claimed channel
claimed-there : (original export : List ℕ) (claim : ClaimValue) (o e : Sampled) (label : List ℕ) (at : Instant) (v : ℤ) → AreNights original export claim o e → ExportedAt original export claim label at v → Has claim.channels label
claimed-there original export claim o e label at v a (y, is, named, same, value) =
    let h = head_of export in
    let channel = is.channel in
    let there : HasChannel h label = (is.signal, record { there = channel.there; labelled = (channel.labelled.0 ∙ named, ap is_annotations (sym named) ∙ channel.labelled.1) }) in
    let channels = a.channels in
    has-permutation (channel_labels h.signals) claim.channels label (IsPermutation-sym claim.channels (channel_labels h.signals) channels.in_export) (has-label h label there)

pub exported-agree : (original export : List ℕ) (claim : ClaimValue) (o e : Sampled) (labels : List (List ℕ)) → AreNights original export claim o e → AreClaimed claim labels
    → Agree (ExportedIn (columns_of claim o e labels)) (ExportedAt original export claim)
exported-agree original export claim o e labels a l label at v p = (
  λ (c, i, named, h).
      let r = among original export claim o e labels c a l i in
      subst (λ x. ExportedAt original export claim x at v) named (exported-there original export claim c at v (a.conform).export_conforms r.2 h),
  λ k.
      let claimed = claimed-there original export claim o e label at v a k in
      let c = column_of claim o e label in
      (c, has-map (column_of claim o e) labels label ((l label).1 claimed), refl, there-exported original export claim c at v (a.conform).export_conforms (column-is original export claim o e label a claimed) k),
)

labels-back : (claim : ClaimValue) (o e : Sampled) (labels : List (List ℕ)) → map label_of (columns_of claim o e labels) ≡ labels
labels-back claim o e [] = refl
labels-back claim o e (x ∷ xs) = ap (λ ys. x ∷ ys) (labels-back claim o e xs)

pub are-columns : (original export : List ℕ) (claim : ClaimValue) (o e : Sampled) (labels : List (List ℕ)) → AreNights original export claim o e → AreClaimed claim labels → LabelsRise labels → AreColumns (columns_of claim o e labels)
are-columns original export claim o e labels a l up = record {
  each = λ c i. is-column original export claim c (a.conform).original_conforms (a.conform).export_conforms (among original export claim o e labels c a l i).2;
  distinct = λ c d i j same.
      sym (among original export claim o e labels c a l i).1 ∙ ap (column_of claim o e) same ∙ (among original export claim o e labels d a l j).1;
  rising = subst LabelsRise (sym (labels-back claim o e labels)) up;
}

-- ---- the labels in order

pub sorted_rising : (labels : List (Bor (List ℕ))) → IsSorted (λ x y. slice_cmp nat_cmp x.now y.now) labels → LabelsRise (map (λ label. label.now) labels)
sorted_rising labels up i j label other le a b =
    let p = map-get (λ (l : Bor (List ℕ)). l.now) labels i label a in
    let q = map-get (λ (l : Bor (List ℕ)). l.now) labels j other b in
    let below : Bor (List ℕ) → Bor (List ℕ) → Bool = λ x y. is_lt (slice_cmp nat_cmp x.now y.now) in
    let far = sorted_far below (ranks_by nat_list_cmp_total (λ (l : Bor (List ℕ)). l.now)) labels up i j p.0 le (get-within labels j q.0 q.1) in
    let near : below q.0 p.0 ≡ false =
    ap (λ l. below l p.0) (sym (get-index labels j q.0 p.0 q.1)) ∙ ap (below (get_or labels j p.0)) (sym (get-index labels i p.0 p.0 p.1)) ∙ far in
    subst (λ l. IsNotAbove l other) p.2 (subst (IsNotAbove (p.0).now) q.2 (not_below (p.0).now (q.0).now near))

pub are-claimed : (claim : ClaimValue) (sorted : List (Bor (List ℕ))) → AreSorted claim.channels sorted → AreClaimed claim (map (λ label. label.now) sorted)
are-claimed claim sorted s label =
    let labels = map (λ (l : Bor (List ℕ)). l.now) sorted in (
      λ i. one_of-has claim.channels label (sym (s.same label) ∙ has-one_of labels label i),
      λ i. one_of-has labels label (s.same label ∙ has-one_of claim.channels label i),
    )

-- ---- the first mismatch

-- what is compared for the labels are the differences of the columns
compared-columns : (original export : List ℕ) (claim : ClaimValue) (o e : Sampled) (labels : List (List ℕ)) → AreNights original export claim o e → AreClaimed claim labels
    → map (label_difference claim o e) labels ≡ map difference_of (columns_of claim o e labels)
compared-columns original export claim o e labels a l =
    differences-are (label_difference claim o e) (λ label. difference_of (column_of claim o e label)) labels
    (λ label i. difference-is claim o e label (places original export claim o e label a ((l label).0 i)))
    ∙ sym (map-map difference_of (column_of claim o e) labels)

-- a label at its place among the columns
named-label : (claim : ClaimValue) (o e : Sampled) (labels : List (List ℕ)) (f : Found) (label : List ℕ) → slice_get labels f.channel ≡ Some label → (named (columns_of claim o e labels) f).label ≡ label
named-label claim o e labels f label at =
    ap (λ x. unwrap_or (option_map label_of x) []) (get-map (column_of claim o e) labels f.channel label at)

pub first-found : (original export : List ℕ) (claim : ClaimValue) (o e : Sampled) (sorted : List (Bor (List ℕ))) (found : Option Found) → AreNights original export claim o e → AreSorted claim.channels sorted
    → found ≡ earliest 0 (map (λ label. label_difference claim o e label.now) sorted)
    → MatchOption found (SameSamples original export claim)
    (λ f. (label : List ℕ) → slice_get (map (λ l. l.now) sorted) f.channel ≡ Some label → IsFirstMismatch (KeptAt original claim) (ExportedAt original export claim) label (floor_of f.difference.at) f.difference.mismatch)
first-found original export claim o e sorted found a s is =
    let l = are-claimed claim sorted s in
    let same : found ≡ earliest 0 (map difference_of cs) =
    is ∙ ap (earliest 0) (sym (map-map (label_difference claim o e) (λ (x : Bor (List ℕ)). x.now) sorted) ∙ compared-columns original export claim o e labels a l) in
    cases found same (first-is-first cs (are-columns original export claim o e labels a l (sorted_rising sorted s.order)))
  where
    labels : List (List ℕ)
    labels = map (λ (l : Bor (List ℕ)). l.now) sorted

    cs : List Column
    cs = columns_of claim o e labels

    kept : Agree (KeptIn cs) (KeptAt original claim)
    kept = kept-agree original export claim o e labels a (are-claimed claim sorted s)

    exported : Agree (ExportedIn cs) (ExportedAt original export claim)
    exported = exported-agree original export claim o e labels a (are-claimed claim sorted s)

    Answer : Option Found → Type 0
    Answer x = MatchOption x (Agree (KeptIn cs) (ExportedIn cs)) (λ f. IsFirstMismatch (KeptIn cs) (ExportedIn cs) (named cs f).label (named cs f).at_ps (named cs f).mismatch)

    cases : (x : Option Found) → x ≡ earliest 0 (map difference_of cs) → Answer (earliest 0 (map difference_of cs)) → MatchOption x (SameSamples original export claim)
        (λ f. (label : List ℕ) → slice_get labels f.channel ≡ Some label → IsFirstMismatch (KeptAt original claim) (ExportedAt original export claim) label (floor_of f.difference.at) f.difference.mismatch)
    cases None q h = agree-alike (KeptIn cs) (KeptAt original claim) (ExportedIn cs) (ExportedAt original export claim) kept exported (subst Answer (sym q) h)
    cases (Some f) q h = λ label at.
        let first = subst Answer (sym q) h in
        let moved = first-alike (KeptIn cs) (KeptAt original claim) (ExportedIn cs) (ExportedAt original export claim) kept exported (named cs f).label (floor_of f.difference.at) f.difference.mismatch first in
        subst (λ x. IsFirstMismatch (KeptAt original claim) (ExportedAt original export claim) x (floor_of f.difference.at) f.difference.mismatch) (named-label claim o e labels f label at) moved
