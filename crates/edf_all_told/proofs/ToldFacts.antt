-- What is told of exports is all in which their samples differ.
use Rattle.std.proofs.Common.{◌≡◌, ◌+◌, ◌≤ℤ◌, ℕ, zero, suc, ℤ, neg_ℤ, ◌+ℤ◌, Bor, Bool, true, false, List, [], ◌∷◌, length, map, MatchOption, Option, None, Some, is_some, option_map, slice_get, inl, inr, refl, sym, ap, ◌∙◌, subst, arith}
use Rattle.std.proofs.lemmas.List.{length-map}
use Rattle.std.specs.Option.{option_or}
use Rattle.edf_check.specs.Courses.{Agree, Course}
use Rattle.edf_check.specs.KeptReading.{ExportedAt, KeptAt, origin_of}
use Rattle.edf_check.specs.parts.Counted.{count_of, serial_counts}
use Rattle.edf_check.specs.parts.Parts.{FollowOneAnother}
use Rattle.edf_check.specs.parts.PartsFound.{AreOrdered}
use Rattle.edf_check.proofs.ForCallers.{agree-self, all-kept, before-all, ordered_parts, place-there, serial_later}
use Rattle.edf_claim.specs.ClaimValues.{ClaimValue}
use Rattle.edf_fields.specs.Lists.{Has}
use Rattle.edf_fields.proofs.ForCallers.{at-has, has-at, map-has}
use Rattle.edf_header.specs.Heads.{Head}
use Rattle.edf_header.specs.HeadsReading.{head_of}
use Rattle.edf_heads.specs.Comparisons.{AreSorted}
use Rattle.edf_heads.specs.differences.ChannelDifferences.{HasChannel}
use Rattle.edf_pace.specs.Kept.{shift_ps}
use Rattle.edf_pace.specs.declared.walk.channel_place.ChannelPlace.{ChannelPlace}
use Rattle.edf_pace.specs.declared.walk.watchers.found_in.ChannelCount.{ChannelCount}
use Rattle.edf_pace.specs.declared.walk.watchers.found_in.RecordsAt.{RecordsAt}
use Rattle.edf_pace.specs.walk.Columns.{channel_at}
use Rattle.edf_pace.specs.walk.Counting.{differences_in, differences_since, span_counts}
use Rattle.edf_pace.specs.walk.Pairs.{Places, places_in}
use Rattle.edf_pace.specs.walk.Readings.{beginning}
use Rattle.edf_pace.specs.walk.Shown.{begin_by}
use Rattle.edf_pace.specs.walk.Spots.{count_in, found_in, records_in}
use Rattle.edf_pace.specs.walk.Watching.{ExportCount, TwoFiles, two_files}
use Rattle.edf_pace.specs.walk.Windows.{is_last, sampled}
use Rattle.edf_pace.proofs.ForCallers.{claim_within}
use Rattle.edf_samples.specs.declared.difference.PointDifference.{PointDifference}
use Rattle.edf_samples.specs.Tallies.{counted, is_changed, is_extra, is_missing, last_of, of_kind, tally_of}
use Rattle.edf_stream.specs.Conforming.{Conforms}
use Rattle.edf_findings.specs.Exports.{channels_of, compared_channels}
use Rattle.edf_findings.specs.Told.{AreThose, AreTold, IsTold, Seen, ends_of, is_in_both}
use Rattle.edf_findings.specs.declared.findings.Findings.{Findings}
use Rattle.edf_findings.specs.declared.part.ComparedPart.{ComparedPart}
use Rattle.edf_findings.specs.declared.part.PartFindings.{PartFindings}
use Rattle.edf_findings.specs.declared.samples.compared.ComparedChannel.{ComparedChannel}
use Rattle.edf_findings.specs.declared.samples.compared.Samples.{Samples}
use Rattle.edf_findings.specs.declared.samples.compared.Spot.{Spot}
use Rattle.edf_findings.proofs.ForCallers.{AreToldOfCounts, IsToldOfCount, found_of_counts, one-order, place-told}
use Rattle.edf_all_told.specs.Told.{AreAllTold, AreToldInTurn, IsAllTold, KeptInTurn, TellThese, end_of, spot_in}
use Rattle.edf_all_told.specs.Laws.{AllIsTold, AllIsToldOfSeveral, AreFoundInSeveral, AreFoundInTwo}
use Rattle.edf_all_told.proofs.ChannelFacts.{channel_differences, counted_differences, differences_alike, in_turn}

-- ---- how many, the first and the last

last-some : (d : PointDifference) (ds : List PointDifference) → (e : PointDifference) × (last_of (d ∷ ds) ≡ Some e)
last-some d ds = by (last_of ds) refl
  where
    by : (o : Option PointDifference) → last_of ds ≡ o → (e : PointDifference) × (last_of (d ∷ ds) ≡ Some e)
    by None is = (d, ap (λ x. option_or x (Some d)) is)
    by (Some e) is = (e, ap (λ x. option_or x (Some d)) is)

told-samples : (original export : List ℕ) (claim : ClaimValue) (ds : List PointDifference) (samples : Samples)
    → AreThose (found_in (two_files original (head_of original) export (head_of export)) (neg_ℤ (origin_of original)) (neg_ℤ (origin_of original +ℤ shift_ps claim)) (counted ds)) (counted ds) samples
    → TellThese original export claim ds samples
unfolding counted
told-samples original export claim [] samples are = record { count = are.0; first = ap (option_map (λ (ends : Spot × Spot). ends.0)) are.1; last = ap (option_map (λ (ends : Spot × Spot). ends.1)) are.1 }
told-samples original export claim (d ∷ ds) samples are =
    let e = last-some d ds in
    let R : PointDifference → RecordsAt = λ x. records_in (two_files original (head_of original) export (head_of export)) (neg_ℤ (origin_of original)) (neg_ℤ (origin_of original +ℤ shift_ps claim)) x.at in
    let E : Option PointDifference → Option (Spot × Spot) = λ o. ends_of (record { first = Some (R d); last = option_map R o }) (Some d) o in
    let ends : samples.ends ≡ Some (spot_in original export claim d, spot_in original export claim e.0) = are.1 ∙ ap E e.1 in
    record {
      count = are.0;
      first = ap (option_map (λ (x : Spot × Spot). x.0)) ends;
      last = ap (option_map (λ (x : Spot × Spot). x.1)) ends ∙ sym (ap (option_map (spot_in original export claim)) e.1);
    }

-- ---- one export of several

-- a count stands at the place of its label
count-at : (f : Places → ChannelCount) (h g : Head) (xs : List (Bor (List ℕ))) (at : ℕ) (label : List ℕ) (count : ChannelCount) → slice_get (map (λ (b : Bor (List ℕ)). b.now) xs) at ≡ Some label → slice_get (map f (places_in h g xs)) at ≡ Some count
    → count ≡ f (channel_at label h, channel_at label g)
count-at f h g [] at label count there is = absurd (let z : None ≡ Some label = there in cc)
count-at f h g (x ∷ xs) zero label count there is =
    let same : x.now ≡ label = (let z : Some x.now ≡ Some label = there in cc) in
    let this : f (channel_at x.now h, channel_at x.now g) ≡ count = (let z : Some (f (channel_at x.now h, channel_at x.now g)) ≡ Some count = is in cc) in
    sym this ∙ ap (λ l. f (channel_at l h, channel_at l g)) same
count-at f h g (x ∷ xs) (suc at) label count there is = count-at f h g xs at label count there is

map-twice : {X Y Z : Type 0} (f : Y → Z) (g : X → Y) (xs : List X) → map f (map g xs) ≡ map (λ x. f (g x)) xs
map-twice f g [] = refl
map-twice f g (x ∷ xs) = ap (λ ys. f (g x) ∷ ys) (map-twice f g xs)

module _ (original : List ℕ) (claim : ClaimValue) (co : Conforms original (head_of original)) (labels others : List (Bor (List ℕ))) (sorted : AreSorted claim.channels labels) (also : AreSorted claim.channels others) where
  abbrev h : Head
  h = head_of original

  abbrev a : ℤ
  a = neg_ℤ (origin_of original)

  abbrev b : ℤ
  b = neg_ℤ (origin_of original +ℤ shift_ps claim)

  module _ (export : List ℕ) (ce : Conforms export (head_of export)) (last : Bool) (t : ℤ) (from : t ≤ℤ begin_by export (head_of export) b 0) where
    abbrev g : Head
    g = head_of export

    abbrev u : ℤ
    u = end_of original claim export

    abbrev files : TwoFiles
    files = two_files original h export g

    abbrev Kept : Course
    Kept = KeptInTurn original claim last t u

    -- all differences of the channels at two places, and what is counted of them
    abbrev differences_at : Places → List PointDifference
    differences_at p = counted_differences last claim (sampled original h a) (sampled export g b) t u p.0 p.1

    abbrev counts_of : Places → ChannelCount
    counts_of p = count_in files a b (tally_of (differences_at p))

    abbrev seen : List ChannelCount → Seen
    seen counts = record { original = h; export = g; counts = counts }

    -- what is told of a channel of which this was counted
    told-channel : (label : List ℕ) (channel : ComparedChannel) (s q : ChannelPlace) → channel_at label h ≡ Some s → channel_at label g ≡ Some q → Has claim.channels label → IsTold (counts_of (channel_at label h, channel_at label g)) channel
        → IsAllTold Kept original export claim label channel
    unfolding tally_of
    told-channel label channel s q at-s at-q claimed told =
        let all = differences_at (channel_at label h, channel_at label g) in
        let listed-all = channel_differences original export claim co ce label claimed s q at-s at-q t from last in
        record {
          all = all;
          are = differences_alike (KeptAt original (claim_within last t u claim)) Kept (ExportedAt original export claim) (ExportedAt original export claim) (in_turn original claim last t u) (agree-self (ExportedAt original export claim)) label all listed-all;
          missing = told-samples original export claim (of_kind is_missing all) channel.missing told.0;
          extra = told-samples original export claim (of_kind is_extra all) channel.extra told.1;
          changed = told-samples original export claim (of_kind is_changed all) channel.changed told.2;
        }

    module _ (counts : List ChannelCount) (are-counts : counts ≡ map counts_of (places_in h g labels)) (channels : List ComparedChannel) (are : AreTold claim.channels others (seen counts) channels) where
      each-told : (channel : ComparedChannel) → Has channels channel → (label : List ℕ) × (slice_get claim.channels channel.place ≡ Some label) × IsAllTold Kept original export claim label channel
      each-told channel has =
          let told = are.each channel has in
          let label = told.0 in
          let at = told.2 in
          let label-at = ap (λ xs. slice_get xs at.at) (one-order claim.channels labels others sorted also) ∙ at.label_is in
          let count : at.count ≡ counts_of (channel_at label h, channel_at label g) = count-at counts_of h g labels at.at label at.count label-at (ap (λ xs. slice_get xs at.at) (sym are-counts) ∙ at.count_is) in
          (label, told.1, told-channel label channel at.here at.there at.here_is at.there_is (has-at claim.channels channel.place label told.1) (subst (λ x. IsTold x channel) count at.told))

      every-told : (label : List ℕ) → Has claim.channels label → HasChannel h label → HasChannel g label → (channel : ComparedChannel) × Has channels channel × (slice_get claim.channels channel.place ≡ Some label)
      every-told label claimed ho he =
          let at = at-has claim.channels label claimed in
          let both : is_in_both h g label ≡ true = rw ((place-there h label ho).1, (place-there g label he).1) refl in
          let told = subst (λ ks. Has ks (0 + at.0)) (sym are.which) (place-told h g 0 claim.channels at.0 label at.1 both) in
          let found = map-has (λ (c : ComparedChannel). c.place) channels (0 + at.0) told in
          let place : (found.0).place ≡ at.0 = (let e = found.2 in omega (arith, e)) in
          (found.0, found.1, ap (slice_get claim.channels) place ∙ at.1)

    -- of an export of which this was counted all is told
    found-told : (part : PartFindings) → IsToldOfCount claim others h (count_of export (map counts_of (places_in h g labels))) part → AreAllTold Kept original export claim part
    found-told part found = by part.compared refl (found many)
      where
        counts : List ChannelCount
        counts = map counts_of (places_in h g labels)

        many : length counts ≡ length others
        many =
            length-map (places_in h g labels) _ ∙ length-map labels _ ∙ sym (length-map labels (λ (x : Bor (List ℕ)). x.now))
            ∙ ap length (one-order claim.channels labels others sorted also) ∙ length-map others (λ (x : Bor (List ℕ)). x.now)

        by : (compared : Option ComparedPart) → part.compared ≡ compared → MatchOption compared ⊥ (λ x. AreTold claim.channels others (seen counts) x.channels.items) → AreAllTold Kept original export claim part
        by None is m = absurd m
        by (Some compared) is told =
            let cs = compared.channels.items in
            let shown : channels_of part ≡ cs = ap compared_channels is in
            record {
              compared = ap is_some is;
              which = ap (map (λ (channel : ComparedChannel). channel.place)) shown ∙ told.which;
              each = λ channel has. each-told counts refl cs told channel (subst (λ xs. Has xs channel) shown has);
              every = λ label claimed ho he. (let r = every-told counts refl cs told label claimed ho he in (r.0, (subst (λ xs. Has xs r.0) (sym shown) r.1, r.2)));
            }

    -- what is counted of it, as the counts of two files are said
    span-is : span_counts last claim files a b (places_in h g labels) t u ≡ map counts_of (places_in h g labels)
    span-is = by last refl
      where
        by : (l : Bool) → last ≡ l → span_counts last claim files a b (places_in h g labels) t u ≡ map counts_of (places_in h g labels)
        by true e = rw e (map-twice (count_in files a b) (λ (p : Places). tally_of (differences_since claim (sampled original h a) (sampled export g b) t p.0 p.1)) (places_in h g labels))
        by false e = rw e (map-twice (count_in files a b) (λ (p : Places). tally_of (differences_in claim (sampled original h a) (sampled export g b) t u p.0 p.1)) (places_in h g labels))

  -- ---- all of them

  told-in-turn : (t : ℤ) (parts : List (List ℕ)) (found : List PartFindings) → ((part : List ℕ) → Has parts part → Conforms part (head_of part)) → AreOrdered b t parts
      → AreToldOfCounts claim others h (serial_counts claim original h a b labels t parts) found → AreToldInTurn original claim t parts found
  told-in-turn t [] [] conform order are = tt
  told-in-turn t [] (f ∷ found) conform order are = absurd are
  told-in-turn t (part ∷ parts) [] conform order are = subst (λ (counts : List ExportCount). AreToldOfCounts claim others h counts []) (serial_later claim original h a b labels t part parts order.0) are
  told-in-turn t (part ∷ parts) (f ∷ found) conform order are =
      let ce = conform part (inl refl) in
      let v = end_of original claim part in
      let told = subst (λ (counts : List ExportCount). AreToldOfCounts claim others h counts (f ∷ found)) (serial_later claim original h a b labels t part parts order.0) are in (
        found-told part ce (is_last parts) t order.0 f (subst (λ (counts : List ChannelCount). IsToldOfCount claim others h (count_of part counts) f) (span-is part ce (is_last parts) t order.0) told.0),
        told-in-turn v parts found (λ x i. conform x (inr i)) order.1 told.1,
      )

pub all_is_told_of_several : AllIsToldOfSeveral
all_is_told_of_several original parts claim found of =
    let counts = found_of_counts original parts claim found of.follow of.found_are in
    told-in-turn original claim (of.conform).original_conforms counts.labels counts.others counts.sorted counts.also beginning parts found.parts.items (of.conform).parts_conform (ordered_parts original parts claim of.claimed of.conform of.follow) counts.told

-- ---- of a single one there is no other time

-- it follows no other
follows-none : (export : List ℕ) → FollowOneAnother (export ∷ [])
follows-none export zero part next e f = absurd (let z : None ≡ Some next = f in cc)
follows-none export (suc j) part next e f = absurd (let z : None ≡ Some part = e in cc)

-- one is several of which there is one
pub of_one : (original export : List ℕ) (claim : ClaimValue) (found : Findings) → AreFoundInTwo original export claim found → AreFoundInSeveral original (export ∷ []) claim found
of_one original export claim found of = record {
  claimed = of.claimed;
  some = omega arith;
  conform = record { original_conforms = (of.conform).original_conforms; parts_conform = conforms };
  follow = follows-none export;
  found_are = of.found_are;
}
  where
    conforms : (part : List ℕ) → Has (export ∷ []) part → Conforms part (head_of part)
    conforms part (inl same) = subst (λ (x : List ℕ). Conforms x (head_of x)) same (of.conform).export_conforms
    conforms part (inr none) = absurd none

-- what stands of courses in all that is told
told-alike : (K L : Course) (original export : List ℕ) (claim : ClaimValue) (part : PartFindings) → Agree K L → AreAllTold K original export claim part → AreAllTold L original export claim part
told-alike K L original export claim part agree told = record {
  compared = told.compared;
  which = told.which;
  each = λ channel has.
      let r = told.each channel has in
      let all = r.2 in (
        r.0,
        r.1,
        record {
          all = all.all;
          are = differences_alike K L (ExportedAt original export claim) (ExportedAt original export claim) agree (agree-self (ExportedAt original export claim)) r.0 all.all all.are;
          missing = all.missing;
          extra = all.extra;
          changed = all.changed;
        },
      );
  every = told.every;
}

-- from the beginning on all is kept
pub kept_from_beginning : (original : List ℕ) (claim : ClaimValue) (u : ℤ) → Conforms original (head_of original) → Agree (KeptInTurn original claim true beginning u) (KeptAt original claim)
kept_from_beginning original claim u co label at v p =
    let same = in_turn original claim true beginning u label at v p in
    let all = all-kept original claim beginning co (before-all original beginning co refl) label at v p in
    (λ h. all.0 (same.1 h), λ h. same.0 (all.1 h))

pub all_is_told : AllIsTold
all_is_told original export claim found of = by found.parts.items refl (all_is_told_of_several original (export ∷ []) claim found (of_one original export claim found of))
  where
    by : (fs : List PartFindings) → found.parts.items ≡ fs → AreToldInTurn original claim beginning (export ∷ []) fs → (part : PartFindings) × (found.parts.items ≡ part ∷ []) × AreAllTold (KeptAt original claim) original export claim part
    by [] e told = absurd told
    by (f ∷ []) e told = (f, e, told-alike (KeptInTurn original claim true beginning (end_of original claim export)) (KeptAt original claim) original export claim f (kept_from_beginning original claim (end_of original claim export) (of.conform).original_conforms) told.0)
    by (f ∷ g ∷ fs) e told = absurd told.1
