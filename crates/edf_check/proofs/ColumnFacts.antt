-- The earliest difference of the columns is the first mismatch of what they hold.
use Rattle.std.proofs.Common.{◌≡◌, ℕ, ◌<◌, ℤ, List, [], ◌∷◌, map, Option, Some, None, option_map, MatchOption, IfSome, slice_get, unwrap_or, inl, inr, refl, sym, ap, ◌∙◌, subst, ◌≤◌}
use Rattle.edf_fields.specs.Lists.{Has}
use Rattle.edf_fields.proofs.ForCallers.{at-has, has-at, map-get, get-map}
use Rattle.edf_stream.specs.declared.times.instant.Instant.{Instant}
use Rattle.edf_stream.specs.times.InstantOrder.{IsNotBefore}
use Rattle.edf_samples.specs.declared.difference.PointDifference.{PointDifference}
use Rattle.edf_samples.specs.declared.earliest.Found.{Found}
use Rattle.edf_verdict.specs.declared.verdict.SampleMismatch.{SampleMismatch}
use Rattle.edf_verdict.specs.declared.verdict.SampleMismatch.TheVariants.{Missing, Extra, Value}
use Rattle.edf_check.specs.Courses.{Agree, DifferAt, IsFirstMismatch, Course}
use Rattle.edf_samples.specs.InstantOrder.{floor_of}
use Rattle.edf_heads.specs.Labels.{IsNotAbove}
use Rattle.edf_samples.proofs.ForCallers.{exact, partner_at, match_not_differ, HasValue, Match, Differ, IsLeastDifference, IsAscending, earliest-is-least, IsEarliest, AreInstants, same_below, from_below, before_not, by_before, both_same}
use Rattle.edf_samples.specs.declared.point.Point.{Point}
use Rattle.edf_samples.specs.Differences.{first_difference_of, earliest}

-- a label, the kept samples of its channel, with n of them in a data record of the original, and the exported ones, with m in one of the export
pub record Column : Type 0 where
  pub label : List ℕ
  pub n : ℕ
  pub kept : List Point
  pub m : ℕ
  pub exported : List Point

abbrev pub label_of : Column → List ℕ
label_of c = c.label

abbrev pub KeptIn : List Column → Course
KeptIn cs label at value = (c : Column) × Has cs c × (c.label ≡ label) × HasValue c.n c.kept at value

abbrev pub ExportedIn : List Column → Course
ExportedIn cs label at value = (c : Column) × Has cs c × (c.label ≡ label) × HasValue c.m c.exported at value

-- a column in good order
pub record IsColumn (c : Column) : Type 0 where
  pub n : 0 < c.n
  pub m : 0 < c.m
  pub kept : IsAscending c.kept
  pub exported : IsAscending c.exported

-- no label is above one behind it
abbrev pub LabelsRise : List (List ℕ) → Type 0
LabelsRise labels = (i j : ℕ) (label other : List ℕ) → i ≤ j → slice_get labels i ≡ Some label → slice_get labels j ≡ Some other → IsNotAbove label other

pub record AreColumns (cs : List Column) : Type 0 where
  pub each : (c : Column) → Has cs c → IsColumn c
  pub distinct : (c d : Column) → Has cs c → Has cs d → c.label ≡ d.label → c ≡ d
  pub rising : LabelsRise (map label_of cs)

abbrev pub difference_of : Column → Option PointDifference
difference_of c = first_difference_of c.n c.kept c.m c.exported

-- the label, the floor and the mismatch of a difference of the columns
pub record First : Type 0 where
  pub label : List ℕ
  pub at_ps : ℤ
  pub mismatch : SampleMismatch

abbrev pub named : List Column → Found → First
named cs f = record {
  label = unwrap_or (option_map label_of (slice_get cs f.channel)) [];
  at_ps = floor_of f.difference.at;
  mismatch = f.difference.mismatch;
}

kept-here : (cs : List Column) → AreColumns cs → (c : Column) → Has cs c → (t : Instant) (v : ℤ) → KeptIn cs c.label t v → HasValue c.n c.kept t v
kept-here cs a c i t v (d, j, e, h) = subst (λ (x : Column). HasValue x.n x.kept t v) (a.distinct d c j i e) h

exported-here : (cs : List Column) → AreColumns cs → (c : Column) → Has cs c → (t : Instant) (v : ℤ) → ExportedIn cs c.label t v → HasValue c.m c.exported t v
exported-here cs a c i t v (d, j, e, h) = subst (λ (x : Column). HasValue x.m x.exported t v) (a.distinct d c j i e) h

-- what differs in a column differs in what the columns hold, and back
differ-up : (cs : List Column) → AreColumns cs → (c : Column) → Has cs c → (t : Instant) (m : SampleMismatch) → Differ c.n c.kept c.m c.exported t m → DifferAt (KeptIn cs) (ExportedIn cs) c.label t m
differ-up cs a c i t Missing d = ((d.0.0, (c, i, refl, d.0.1)), λ w h. let k = exported-here cs a c i t w h in d.1 k.0 k.1 k.2)
differ-up cs a c i t Extra d = ((d.0.0, (c, i, refl, d.0.1)), λ w h. let k = kept-here cs a c i t w h in d.1 k.0 k.1 k.2)
differ-up cs a c i t (Value v w) d = ((c, i, refl, d.0), (c, i, refl, d.1), d.2)

record IsDown (cs : List Column) (l : List ℕ) (t : Instant) (m : SampleMismatch) : Type 0 where
  c : Column
  there : Has cs c
  label : c.label ≡ l
  differ : Differ c.n c.kept c.m c.exported t m

differ-down : (cs : List Column) → AreColumns cs → (l : List ℕ) (t : Instant) (m : SampleMismatch) → DifferAt (KeptIn cs) (ExportedIn cs) l t m → IsDown cs l t m
differ-down cs a l t Missing ((v, (c, i, e, h)), none) =
    record { c = c; there = i; label = e; differ = ((v, h), λ x j s. none x.value (c, i, e, (x, j, s, refl))) }
differ-down cs a l t Extra ((v, (c, i, e, h)), none) =
    record { c = c; there = i; label = e; differ = ((v, h), λ x j s. none x.value (c, i, e, (x, j, s, refl))) }
differ-down cs a l t (Value v w) ((c, i, e, h), k, d) =
    record { c = c; there = i; label = e; differ = (h, exported-here cs a c i t w (k.0, k.1, k.2 ∙ sym e, k.3), d) }

-- a column that differs at t has a first difference, which isn't after t
record HasEarlier (c : Column) (t : Instant) : Type 0 where
  d : PointDifference
  is : difference_of c ≡ Some d
  positive : 0 < d.at.den
  before : IsNotBefore t d.at

has-earlier : (c : Column) → IsColumn c → (t : Instant) (m : SampleMismatch) → 0 < t.den → Differ c.n c.kept c.m c.exported t m → HasEarlier c t
has-earlier c a t m p d = cases (difference_of c) refl (exact c.n c.kept c.m c.exported a.n a.m a.kept a.exported)
  where
    cases : (o : Option PointDifference) → difference_of c ≡ o → MatchOption o (Match c.n c.kept c.m c.exported) (IsLeastDifference c.n c.kept c.m c.exported) → HasEarlier c t
    cases None e h = absurd (match_not_differ c.n c.kept c.m c.exported t m a.n a.m p a.exported h d)
    cases (Some x) e h = record {
      d = x;
      is = e;
      positive = h.0.0;
      before = by_before t x.at (λ b. absurd (h.1 (record { at = t; mismatch = m }) (p, d) b)) (λ g. g);
    }

least-of : (c : Column) → IsColumn c → (d : PointDifference) → difference_of c ≡ Some d → IsLeastDifference c.n c.kept c.m c.exported d
least-of c a d e =
    subst (λ o. MatchOption o (Match c.n c.kept c.m c.exported) (IsLeastDifference c.n c.kept c.m c.exported)) e (exact c.n c.kept c.m c.exported a.n a.m a.kept a.exported)

instants : (cs : List Column) → ((c : Column) → Has cs c → IsColumn c) → AreInstants (map difference_of cs)
instants [] a = tt
instants (c ∷ cs) a = (positive (difference_of c) refl, instants cs (λ d h. a d (inr h)))
  where
    positive : (o : Option PointDifference) → difference_of c ≡ o → IfSome o (λ d. 0 < d.at.den)
    positive None e = tt
    positive (Some d) e = (least-of c (a c (inl refl)) d e).0.0

is-first : (cs : List Column) → AreColumns cs → (f : Found) → IsEarliest (map difference_of cs) f → IsFirstMismatch (KeptIn cs) (ExportedIn cs) (named cs f).label (floor_of f.difference.at) f.difference.mismatch
is-first cs a f h =
    let (c, g, e) = map-get difference_of cs f.channel (Some f.difference) h.0 in
    let i : Has cs c = has-at cs f.channel c g in
    let l : IsLeastDifference c.n c.kept c.m c.exported f.difference = least-of c (a.each c i) f.difference e in
    let n : c.label ≡ (named cs f).label = ap (λ o. unwrap_or (option_map label_of o) []) (sym g) in
    record {
      at = f.difference.at;
      positive = l.0.0;
      floor = refl;
      differ = subst (λ z. DifferAt (KeptIn cs) (ExportedIn cs) z f.difference.at f.difference.mismatch) n (differ-up cs a c i f.difference.at f.difference.mismatch l.0.1);
      none_before = λ other t m p d b.
          let w = differ-down cs a other t m d in
          let s = has-earlier w.c (a.each w.c w.there) t m p w.differ in
          let (k, q) = at-has cs w.c w.there in
          let r = h.1 k s.d (get-map difference_of cs k w.c q ∙ ap Some s.is) in
          before_not t f.difference.at b (from_below t s.d.at f.difference.at s.positive s.before r);
      none_below = λ other t m p d u.
          let w = differ-down cs a other t m d in
          let s = has-earlier w.c (a.each w.c w.there) t m p w.differ in
          let (k, q) = at-has cs w.c w.there in
          let z = get-map difference_of cs k w.c q ∙ ap Some s.is in
          let r = h.1 k s.d z in
          let v = from_below f.difference.at t s.d.at p (same_below t f.difference.at u) s.before in
          let le = h.2 k s.d z (both_same s.d.at f.difference.at r v) in
          let up = a.rising f.channel k c.label (w.c).label le (get-map label_of cs f.channel c g) (get-map label_of cs k w.c q) in
          subst (IsNotAbove (named cs f).label) w.label (subst (λ x. IsNotAbove x (w.c).label) n up);
    }

agrees : (cs : List Column) → AreColumns cs → ((j : ℕ) (d : PointDifference) → slice_get (map difference_of cs) j ≡ Some (Some d) → ⊥) → Agree (KeptIn cs) (ExportedIn cs)
agrees cs a none l t v p = (
  λ (c, i, e, h). let x = a.each c i in (c, i, e, partner_at c.n c.kept c.m c.exported t v x.n x.m p (both c i).0 h),
  λ (c, i, e, h). let x = a.each c i in (c, i, e, partner_at c.m c.exported c.n c.kept t v x.m x.n p (both c i).1 h),
)
  where
    both : (c : Column) → Has cs c → Match c.n c.kept c.m c.exported
    both c i = cases (difference_of c) refl (exact c.n c.kept c.m c.exported (a.each c i).n (a.each c i).m (a.each c i).kept (a.each c i).exported)
      where
        cases : (o : Option PointDifference) → difference_of c ≡ o → MatchOption o (Match c.n c.kept c.m c.exported) (IsLeastDifference c.n c.kept c.m c.exported) → Match c.n c.kept c.m c.exported
        cases None e h = h
        cases (Some d) e h = let (k, q) = at-has cs c i in absurd (none k d (get-map difference_of cs k c q ∙ ap Some e))

-- it is none exactly where both agree, else the first mismatch
pub first-is-first : (cs : List Column) → AreColumns cs →
    MatchOption (earliest 0 (map difference_of cs)) (Agree (KeptIn cs) (ExportedIn cs)) (λ f. IsFirstMismatch (KeptIn cs) (ExportedIn cs) (named cs f).label (named cs f).at_ps (named cs f).mismatch)
first-is-first cs a = cases (earliest 0 (map difference_of cs)) (earliest-is-least (map difference_of cs) (instants cs a.each))
  where
    cases : (o : Option Found) → MatchOption o ((j : ℕ) (d : PointDifference) → slice_get (map difference_of cs) j ≡ Some (Some d) → ⊥) (IsEarliest (map difference_of cs)) →
        MatchOption o (Agree (KeptIn cs) (ExportedIn cs)) (λ f. IsFirstMismatch (KeptIn cs) (ExportedIn cs) (named cs f).label (named cs f).at_ps (named cs f).mismatch)
    cases None h = agrees cs a h
    cases (Some f) h = is-first cs a f h
