-- The difference that a verdict names is the first that is told.
use Rattle.std.proofs.Common.{◌≡◌, ◌<◌, ◌≤ℤ◌, ◌+ℤ◌, ℕ, ℤ, neg_ℤ, Bool, true, false, List, [], ◌∷◌, Option, None, Some, option_map, slice_get, inl, inr, refl, sym, ap, ◌∙◌, subst, arith}
use Rattle.std.proofs.lemmas.Int.{ints}
use Rattle.std.proofs.lemmas.List.Sorted.{IsPermutation-sym}
use Rattle.edf_check.specs.Courses.{Course, DifferAt, IsFirstMismatch}
use Rattle.edf_check.specs.KeptReading.{ExportedAt, KeptAt, origin_of}
use Rattle.edf_check.specs.parts.Parts.{ExportedByOne}
use Rattle.edf_check.specs.parts.PartsFound.{AreOrdered}
use Rattle.edf_check.specs.parts.PartsVerdicts.{IsVerdictOnParts}
use Rattle.edf_check.proofs.ForCallers.{KeptFrom, KeptUntil, agree-back, agree-self, all-kept, back-differ, before-all, differ-alike, differ-back, differ-front, first-alike, front-differ, kept-cut, one-alone, ordered_parts, parts-cut}
use Rattle.edf_claim.specs.ClaimValues.{ClaimValue}
use Rattle.edf_fields.specs.Lists.{Has}
use Rattle.edf_fields.proofs.ForCallers.{has-filtered, has-permutation}
use Rattle.edf_header.specs.Heads.{is_annotations}
use Rattle.edf_header.specs.HeadsReading.{head_of}
use Rattle.edf_header.specs.signals.Channels.{channel_labels}
use Rattle.edf_heads.specs.Channels.{SameChannels}
use Rattle.edf_heads.specs.HeadVerdicts.{HeadsAgree}
use Rattle.edf_heads.specs.Labels.{IsNotAbove}
use Rattle.edf_heads.specs.differences.ChannelDifferences.{HasChannel}
use Rattle.edf_heads.proofs.ForCallers.{has-label, label-has}
use Rattle.edf_pace.specs.Kept.{shift_ps}
use Rattle.edf_pace.specs.walk.Readings.{beginning}
use Rattle.edf_pace.proofs.ForCallers.{ends_behind}
use Rattle.edf_samples.specs.declared.difference.PointDifference.{PointDifference}
use Rattle.edf_samples.specs.InstantOrder.{IsBefore}
use Rattle.edf_samples.specs.Stretches.{whole}
use Rattle.edf_samples.specs.Tallies.{first_of, is_changed, is_extra, is_missing, of_kind}
use Rattle.edf_samples.proofs.ForCallers.{before-not_before, by_before, floor-same, same_below, same_through}
use Rattle.edf_stream.specs.Conforming.{Conforms}
use Rattle.edf_stream.specs.declared.times.instant.Instant.{Instant}
use Rattle.edf_stream.specs.times.InstantOrder.{IsNotBefore}
use Rattle.edf_stream.specs.times.Instants.{IsSame}
use Rattle.edf_verdict.specs.declared.verdict.SampleMismatch.{SampleMismatch}
use Rattle.edf_verdict.specs.declared.verdict.SampleMismatch.TheVariants.{Missing, Extra, Value}
use Rattle.edf_findings.specs.Exports.{channels_of}
use Rattle.edf_findings.specs.declared.findings.Findings.{Findings}
use Rattle.edf_findings.specs.declared.part.PartFindings.{PartFindings}
use Rattle.edf_findings.specs.declared.samples.compared.ComparedChannel.{ComparedChannel}
use Rattle.edf_findings.specs.declared.samples.compared.Spot.{Spot}
use Rattle.edf_all_told.specs.Told.{AreAllTold, AreToldInTurn, DoRise, IsAllTold, IsToldUnder, KeptInTurn, TellThese, end_of, first_told, of_mismatch, spot_in}
use Rattle.edf_all_told.specs.Laws.{AreFoundInSeveral, FirstIsTold, FirstIsToldOfSeveral, IsFirstTold}
use Rattle.edf_all_told.proofs.ChannelFacts.{in_turn}
use Rattle.edf_all_told.proofs.ToldFacts.{all_is_told_of_several, of_one}

-- ---- lists

-- one of a rising list before which none stands is its first
first-is : (d : PointDifference) (ds : List PointDifference) → Has ds d → DoRise ds → ((e : PointDifference) → Has ds e → IsBefore e.at d.at → ⊥) → (es : List PointDifference) × (ds ≡ d ∷ es)
first-is d [] has up none = absurd has
first-is d (e ∷ es) (inl same) up none = (es, ap (λ z. z ∷ es) same)
first-is d (e ∷ es) (inr i) up none = absurd (none e (inl refl) (up.0 d i))

-- the first of those that pass a test is one of them
first-among : (xs : List PointDifference) (d : PointDifference) → first_of xs ≡ Some d → Has xs d
first-among [] d e = absurd (let z : None ≡ Some d = e in cc)
first-among (x ∷ xs) d e = inl (let z : Some x ≡ Some d = e in cc)

mapped-some : {X Y : Type 0} (f : X → Y) (o : Option X) (y : Y) → option_map f o ≡ Some y → (x : X) × (o ≡ Some x) × (f x ≡ y)
mapped-some f None y e = absurd (let z : None ≡ Some y = e in cc)
mapped-some f (Some x) y e = (x, refl, (let z : Some (f x) ≡ Some y = e in cc))

-- ---- kinds

abbrev kind_of : SampleMismatch → SampleMismatch → Bool
kind_of Missing = is_missing
kind_of Extra = is_extra
kind_of (Value v w) = is_changed

own-kind : (k : SampleMismatch) → kind_of k k ≡ true
own-kind Missing = refl
own-kind Extra = refl
own-kind (Value v w) = refl

first-of-kind : (k : SampleMismatch) (d : PointDifference) (ds : List PointDifference) → d.mismatch ≡ k → first_of (of_kind (kind_of k) (d ∷ ds)) ≡ Some d
first-of-kind k d ds e = let own : kind_of k d.mismatch ≡ true = ap (kind_of k) e ∙ own-kind k in rw own refl

-- what is told of a kind
told-kind : (kept : Course) (original export : List ℕ) (claim : ClaimValue) (label : List ℕ) (channel : ComparedChannel) (told : IsAllTold kept original export claim label channel) (k : SampleMismatch)
    → TellThese original export claim (of_kind (kind_of k) told.all) (of_mismatch k channel)
told-kind kept original export claim label channel told Missing = told.missing
told-kind kept original export claim label channel told Extra = told.extra
told-kind kept original export claim label channel told (Value v w) = told.changed

-- ---- the export in whose time an instant lies

-- what is kept in the time of an export
abbrev TurnOf : List ℕ → ClaimValue → List ℕ → Bool → ℤ → Course
TurnOf original claim part last t = KeptInTurn original claim last t (end_of original claim part)

-- these are the findings in one of several exports, of which all is told; and where it differs in its time, all exports together differ
record IsOf (original : List ℕ) (parts : List (List ℕ)) (claim : ClaimValue) (findings : PartFindings) (K : Course) : Type 0 where
  part : List ℕ
  is_part : Has parts part
  last : Bool
  from : ℤ
  told : AreAllTold (TurnOf original claim part last from) original part claim findings
  up : (label : List ℕ) (at : Instant) (k : SampleMismatch) → 0 < at.den → DifferAt (TurnOf original claim part last from) (ExportedAt original part claim) label at k → DifferAt K (ExportedByOne original parts claim) label at k

-- there are findings in an export that differs in its time at an instant of a channel
record IsIn (original : List ℕ) (parts : List (List ℕ)) (claim : ClaimValue) (found : List PartFindings) (K : Course) (label : List ℕ) (at : Instant) (k : SampleMismatch) : Type 0 where
  findings : PartFindings
  is_found : Has found findings
  of : IsOf original parts claim findings K
  differ : DifferAt (TurnOf original claim of.part of.last of.from) (ExportedAt original of.part claim) label at k

module _ (original : List ℕ) (claim : ClaimValue) where
  abbrev b : ℤ
  b = neg_ℤ (origin_of original +ℤ shift_ps claim)

  abbrev ends : List ℕ → ℤ
  ends part = end_of original claim part

  abbrev From : ℤ → Course
  From t = KeptFrom original claim t

  abbrev Until : ℤ → ℤ → Course
  Until t u = KeptUntil original claim t u

  abbrev InTurn : Bool → ℤ → ℤ → Course
  InTurn last t u = KeptInTurn original claim last t u

  abbrev One : List ℕ → Course
  One part = ExportedAt original part claim

  abbrev All : List (List ℕ) → Course
  All parts = ExportedByOne original parts claim

  abbrev AllConformIn : List (List ℕ) → Type 0
  AllConformIn parts = (x : List ℕ) → Has parts x → Conforms x (head_of x)

  -- the last export
  abbrev of-last : (t : ℤ) (part : List ℕ) (f : PartFindings) → AreAllTold (InTurn true t (ends part)) original part claim f → IsOf original (part ∷ []) claim f (From t)
  of-last t part f told = record {
    part = part;
    is_part = inl refl;
    last = true;
    from = t;
    told = told;
    up = λ label at k p d.
        differ-alike (InTurn true t (ends part)) (From t) (One part) (All (part ∷ [])) (agree-back (From t) (InTurn true t (ends part)) (in_turn original claim true t (ends part))) (one-alone original part claim) label at k p d;
  }

  -- an export, and those behind it: what is kept of the original, and what they hold, is cut at its end
  module _ (t : ℤ) (part next : List ℕ) (parts : List (List ℕ)) (conform : AllConformIn (part ∷ next ∷ parts)) (order : AreOrdered b t (part ∷ next ∷ parts)) where
    abbrev u : ℤ
    u = ends part

    ends-later : t ≤ℤ u
    ends-later =
        let from = order.0 in
        let on = ends_behind part (head_of part) b (conform part (inl refl)) in
        omega (arith, ints, from, on)

    abbrev E : Course
    E = All (part ∷ next ∷ parts)

    abbrev G : Course
    G = All (next ∷ parts)

    first-front : (label : List ℕ) (at : Instant) (k : SampleMismatch) → 0 < at.den → DifferAt (Until t u) (One part) label at k → DifferAt (From t) E label at k
    first-front label at k p d = (differ-front (whole u) (From t) (Until t u) (From u) E (One part) G (kept-cut original claim t u ends-later) (parts-cut original claim t part (next ∷ parts) conform order) label at k p d).0

    front-first : (label : List ℕ) (at : Instant) (k : SampleMismatch) → 0 < at.den → IsBefore at (whole u) → DifferAt (From t) E label at k → DifferAt (Until t u) (One part) label at k
    front-first label at k p before d = front-differ (whole u) (From t) (Until t u) (From u) E (One part) G (kept-cut original claim t u ends-later) (parts-cut original claim t part (next ∷ parts) conform order) label at k p before d

    rest-whole : (label : List ℕ) (at : Instant) (k : SampleMismatch) → 0 < at.den → DifferAt (From u) G label at k → DifferAt (From t) E label at k
    rest-whole label at k p d = (differ-back (whole u) (From t) (Until t u) (From u) E (One part) G (kept-cut original claim t u ends-later) (parts-cut original claim t part (next ∷ parts) conform order) label at k p d).0

    whole-rest : (label : List ℕ) (at : Instant) (k : SampleMismatch) → 0 < at.den → IsNotBefore at (whole u) → DifferAt (From t) E label at k → DifferAt (From u) G label at k
    whole-rest label at k p from d = back-differ (whole u) (From t) (Until t u) (From u) E (One part) G (kept-cut original claim t u ends-later) (parts-cut original claim t part (next ∷ parts) conform order) label at k p from d

    abbrev of-first : (f : PartFindings) → AreAllTold (InTurn false t u) original part claim f → IsOf original (part ∷ next ∷ parts) claim f (From t)
    of-first f told = record {
      part = part;
      is_part = inl refl;
      last = false;
      from = t;
      told = told;
      up = λ label at k p d.
          first-front label at k p
          (differ-alike (InTurn false t u) (Until t u) (One part) (One part) (agree-back (Until t u) (InTurn false t u) (in_turn original claim false t u)) (agree-self (One part)) label at k p d);
    }

    abbrev of-later : (f : PartFindings) → IsOf original (next ∷ parts) claim f (From u) → IsOf original (part ∷ next ∷ parts) claim f (From t)
    of-later f of = record {
      part = of.part;
      is_part = inr of.is_part;
      last = of.last;
      from = of.from;
      told = of.told;
      up = λ label at k p d. rest-whole label at k p (of.up label at k p d);
    }

  -- of each export all is told
  of-each : (t : ℤ) (part : List ℕ) (parts : List (List ℕ)) (found : List PartFindings) → AllConformIn (part ∷ parts) → AreOrdered b t (part ∷ parts) → AreToldInTurn original claim t (part ∷ parts) found
      → (f : PartFindings) → Has found f → IsOf original (part ∷ parts) claim f (From t)
  of-each t part parts [] conform order told f has = absurd told
  of-each t part [] (g ∷ found) conform order told f (inl same) = subst (λ (x : PartFindings). IsOf original (part ∷ []) claim x (From t)) same (of-last t part g told.0)
  of-each t part [] (g ∷ []) conform order told f (inr i) = absurd i
  of-each t part [] (g ∷ h ∷ found) conform order told f (inr i) = absurd told.1
  of-each t part (next ∷ parts) (g ∷ found) conform order told f (inl same) = subst (λ (x : PartFindings). IsOf original (part ∷ next ∷ parts) claim x (From t)) same (of-first t part next parts conform order g told.0)
  of-each t part (next ∷ parts) (g ∷ found) conform order told f (inr i) =
      of-later t part next parts conform order f (of-each (ends part) next parts found (λ x j. conform x (inr j)) order.1 told.1 f i)

  -- one of them is that in whose time an instant lies
  find : (t : ℤ) (part : List ℕ) (parts : List (List ℕ)) (found : List PartFindings) → AllConformIn (part ∷ parts) → AreOrdered b t (part ∷ parts) → AreToldInTurn original claim t (part ∷ parts) found
      → (label : List ℕ) (at : Instant) (k : SampleMismatch) → 0 < at.den → DifferAt (From t) (All (part ∷ parts)) label at k → IsIn original (part ∷ parts) claim found (From t) label at k
  find t part parts [] conform order told label at k p d = absurd told
  find t part [] (f ∷ found) conform order told label at k p d = record {
    findings = f;
    is_found = inl refl;
    of = of-last t part f told.0;
    differ =
        differ-alike (From t) (InTurn true t (ends part)) (All (part ∷ [])) (One part) (in_turn original claim true t (ends part))
        (agree-back (One part) (All (part ∷ [])) (one-alone original part claim)) label at k p d;
  }
  find t part (next ∷ parts) (f ∷ found) conform order told label at k p d =
      by_before at (whole (ends part))
      (λ before. record {
        findings = f;
        is_found = inl refl;
        of = of-first t part next parts conform order f told.0;
        differ =
            differ-alike (Until t (ends part)) (InTurn false t (ends part)) (One part) (One part) (in_turn original claim false t (ends part)) (agree-self (One part)) label at k p
            (front-first t part next parts conform order label at k p before d);
      })
      (λ from.
      let r = find (ends part) next parts found (λ x i. conform x (inr i)) order.1 told.1 label at k p (whole-rest t part next parts conform order label at k p from d) in
      record { findings = r.findings; is_found = inr r.is_found; of = of-later t part next parts conform order r.findings r.of; differ = r.differ })

-- ---- the verdict

-- where an export differs from what is kept, the channel is claimed
claimed-there : (original part : List ℕ) (claim : ClaimValue) (last : Bool) (t : ℤ) → SameChannels (head_of original) (head_of part) claim
    → (label : List ℕ) (at : Instant) (k : SampleMismatch) → DifferAt (TurnOf original claim part last t) (ExportedAt original part claim) label at k → Has claim.channels label
claimed-there original part claim last t channels label at Missing d = d.0.1.0.0
claimed-there original part claim last t channels label at (Value v w) d = d.0.0.0
claimed-there original part claim last t channels label at Extra d =
    let h = head_of part in
    let sample = d.0.1.1 in
    let named = d.0.1.2 in
    let channel = sample.channel in
    let there : HasChannel h label = (sample.signal, record { there = channel.there; labelled = (channel.labelled.0 ∙ named, ap is_annotations (sym named) ∙ channel.labelled.1) }) in
    has-permutation (channel_labels h.signals) claim.channels label (IsPermutation-sym claim.channels (channel_labels h.signals) channels.in_export) (has-label h label there)

one-label-there : (o : Option (List ℕ)) (x y : List ℕ) → o ≡ Some x → o ≡ Some y → x ≡ y
one-label-there o x y e f = (let z : Some x ≡ Some y = sym e ∙ f in cc)

-- what is told as a first stands in the files: it is a difference of all exports, in the channel of this name
record IsStanding (claim : ClaimValue) (K E : Course) (channel : ComparedChannel) (spot : Spot) : Type 0 where
  name : List ℕ
  place : slice_get claim.channels channel.place ≡ Some name
  positive : 0 < ((spot.difference).at).den
  differ : DifferAt K E name (spot.difference).at (spot.difference).mismatch

-- the first mismatch of all exports
module _ (original part : List ℕ) (parts : List (List ℕ)) (claim : ClaimValue) (found : List PartFindings) (label : List ℕ) (at_ps : ℤ) (mismatch : SampleMismatch) (conform : (x : List ℕ) → Has (part ∷ parts) x → Conforms x (head_of x))
    (order : AreOrdered (neg_ℤ (origin_of original +ℤ shift_ps claim)) beginning (part ∷ parts)) (all-told : AreToldInTurn original claim beginning (part ∷ parts) found) (agree : (x : List ℕ) → Has (part ∷ parts) x → HeadsAgree (head_of original) (head_of x) claim)
    (first : IsFirstMismatch (KeptFrom original claim beginning) (ExportedByOne original (part ∷ parts) claim) label at_ps mismatch) where
  within : IsIn original (part ∷ parts) claim found (KeptFrom original claim beginning) label first.at mismatch
  within = find original claim beginning part parts found conform order all-told label first.at mismatch first.positive first.differ

  abbrev its_part : List ℕ
  its_part = (within.of).part

  abbrev kept : Course
  kept = TurnOf original claim its_part (within.of).last (within.of).from

  heads : HeadsAgree (head_of original) (head_of its_part) claim
  heads = agree its_part (within.of).is_part

  claimed : Has claim.channels label
  claimed = claimed-there original its_part claim (within.of).last (within.of).from heads.channels label first.at mismatch within.differ

  exported : HasChannel (head_of its_part) label
  exported = label-has (head_of its_part) label (has-permutation claim.channels (channel_labels (head_of its_part).signals) label (heads.channels).in_export claimed)

  here : (channel : ComparedChannel) × IsToldUnder claim within.findings label channel
  here = ((within.of).told).every label claimed ((heads.channels).in_original label claimed) exported

  own : IsAllTold kept original its_part claim label here.0
  own =
      let r = ((within.of).told).each here.0 (here.1).0 in
      subst (λ (l : List ℕ). IsAllTold kept original its_part claim l here.0) (one-label-there (slice_get claim.channels (here.0).place) r.0 label r.1 (here.1).1) r.2

  its : (d : PointDifference) × Has own.all d × IsSame d.at first.at × (d.mismatch ≡ mismatch)
  its = (own.are).every first.at mismatch first.positive within.differ

  positive : 0 < (its.0).at.den
  positive = ((own.are).each its.0 its.1).0

  -- what is before it is before the first mismatch
  before : (at : Instant) → IsBefore at (its.0).at → IsBefore at first.at
  before at c = before-not_before at (its.0).at first.at first.positive c (same_below (its.0).at first.at its.2)

  standing : (f : PartFindings) → Has found f → (channel : ComparedChannel) → Has (channels_of f) channel → (kind : SampleMismatch) (spot : Spot) → first_told (of_mismatch kind channel) ≡ Some spot → IsStanding claim (KeptFrom original claim beginning) (ExportedByOne original (part ∷ parts) claim) channel spot
  standing f has channel there kind spot is =
      let of = of-each original claim beginning part parts found conform order all-told f has in
      let r = (of.told).each channel there in
      let all = r.2 in
      let m = mapped-some (spot_in original of.part claim) (first_of (of_kind (kind_of kind) all.all)) spot (sym (told-kind (TurnOf original claim of.part of.last of.from) original of.part claim r.0 channel all kind).first ∙ is) in
      let listed = (has-filtered (λ (x : PointDifference). kind_of kind x.mismatch) all.all m.0 (first-among (of_kind (kind_of kind) all.all) m.0 m.1)).0 in
      let differs = (all.are).each m.0 listed in
      subst (IsStanding claim (KeptFrom original claim beginning) (ExportedByOne original (part ∷ parts) claim) channel) m.2 (record { name = r.0; place = r.1; positive = differs.0; differ = of.up r.0 (m.0).at (m.0).mismatch differs.0 differs.1 })

  -- so none of it is before the first mismatch, and none at its instant is of a lower label
  none-earlier : (f : PartFindings) → Has found f → (channel : ComparedChannel) → Has (channels_of f) channel → (kind : SampleMismatch) (earlier : Spot) → first_told (of_mismatch kind channel) ≡ Some earlier → IsNotBefore (earlier.difference).at (its.0).at
  none-earlier f has channel there kind earlier is =
      let s = standing f has channel there kind earlier is in
      by_before (earlier.difference).at (its.0).at
      (λ c. absurd (first.none_before s.name (earlier.difference).at (earlier.difference).mismatch s.positive s.differ (before (earlier.difference).at c)))
      (λ n. n)

  none-lower : (f : PartFindings) (name : List ℕ) (channel : ComparedChannel) (kind : SampleMismatch) (beside : Spot) → Has found f → IsToldUnder claim f name channel → first_told (of_mismatch kind channel) ≡ Some beside
      → IsSame (beside.difference).at (its.0).at → IsNotAbove label name
  none-lower f name channel kind beside has under is same =
      let s = standing f has channel under.0 kind beside is in
      let at-first = same_through (beside.difference).at (its.0).at first.at s.positive positive first.positive same its.2 in
      subst (IsNotAbove label) (one-label-there (slice_get claim.channels channel.place) s.name name s.place under.1) (first.none_below s.name (beside.difference).at (beside.difference).mismatch s.positive s.differ at-first)

  own-earlier : (e : PointDifference) → Has own.all e → IsBefore e.at (its.0).at → ⊥
  own-earlier e i c =
      let x = (own.are).each e i in
      first.none_before label e.at e.mismatch x.0 ((within.of).up label e.at e.mismatch x.0 x.1) (before e.at c)

  rest : (es : List PointDifference) × (own.all ≡ its.0 ∷ es)
  rest = first-is its.0 own.all its.1 (own.are).rise own-earlier

  told-first : first_told (of_mismatch mismatch here.0) ≡ Some (spot_in original its_part claim its.0)
  told-first =
      (told-kind kept original its_part claim label here.0 own mismatch).first
      ∙ ap (λ ds. option_map (spot_in original its_part claim) (first_of (of_kind (kind_of mismatch) ds))) rest.1
      ∙ ap (option_map (spot_in original its_part claim)) (first-of-kind mismatch its.0 rest.0 its.3)

  is-first : IsFirstTold claim found label at_ps mismatch
  is-first = record {
    part = within.findings;
    is_found = within.is_found;
    channel = here.0;
    told = here.1;
    spot = spot_in original its_part claim its.0;
    first = told-first;
    positive = positive;
    instant = floor-same (its.0).at first.at positive first.positive its.2 ∙ sym first.floor;
    mismatch_is = its.3;
    none_before = λ f channel kind earlier has there is. none-earlier f has channel there kind earlier is;
    none_below = none-lower;
  }

-- the same of all that is kept, and of whatever parts there are
first-told : (original : List ℕ) (parts : List (List ℕ)) (claim : ClaimValue) (found : Findings) (label : List ℕ) (at_ps : ℤ) (mismatch : SampleMismatch) → AreFoundInSeveral original parts claim found
    → ((x : List ℕ) → Has parts x → HeadsAgree (head_of original) (head_of x) claim) → IsFirstMismatch (KeptAt original claim) (ExportedByOne original parts claim) label at_ps mismatch → IsFirstTold claim found.parts.items label at_ps mismatch
first-told original [] claim found label at_ps mismatch of agree first = absurd (let s = of.some in omega (arith, s))
first-told original (part ∷ parts) claim found label at_ps mismatch of agree first =
    is-first original part parts claim found.parts.items label at_ps mismatch (of.conform).parts_conform (ordered_parts original (part ∷ parts) claim of.claimed of.conform of.follow) (all_is_told_of_several original (part ∷ parts) claim found of) agree
    (first-alike (KeptAt original claim) (KeptFrom original claim beginning) E E (agree-back (KeptFrom original claim beginning) (KeptAt original claim) (all-kept original claim beginning co (before-all original beginning co refl))) (agree-self E) label at_ps mismatch first)
  where
    E : Course
    E = ExportedByOne original (part ∷ parts) claim

    co : Conforms original (head_of original)
    co = (of.conform).original_conforms

pub first_is_told : FirstIsTold
first_is_told original export claim found label at_ps mismatch of verdict =
    first-told original (export ∷ []) claim found label at_ps mismatch (of_one original export claim found of) heads
    (first-alike (KeptAt original claim) (KeptAt original claim) (ExportedAt original export claim) (ExportedByOne original (export ∷ []) claim) (agree-self (KeptAt original claim)) (one-alone original export claim) label at_ps mismatch verdict.2)
  where
    heads : (x : List ℕ) → Has (export ∷ []) x → HeadsAgree (head_of original) (head_of x) claim
    heads x (inl same) = subst (λ (y : List ℕ). HeadsAgree (head_of original) (head_of y) claim) same verdict.1
    heads x (inr none) = absurd none

pub first_is_told_of_several : FirstIsToldOfSeveral
first_is_told_of_several original parts claim found v label at_ps mismatch of verdict is =
    let said = subst (IsVerdictOnParts original parts claim v.part) is verdict in
    first-told original parts claim found label at_ps mismatch of ((said.1).agreed).agree said.2
