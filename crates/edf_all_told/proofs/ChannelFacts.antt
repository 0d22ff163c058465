-- Of a claimed channel that both files have all differences in the time of an export are listed.
use Rattle.std.proofs.Common.{◌≡◌, ℕ, ◌<◌, ◌*ℤ◌, ◌≤ℤ◌, ◌<ℤ◌, ◌+ℤ◌, ℤ, pos, neg_ℤ, Bool, true, false, if◌then◌else◌, List, Option, Some, slice_get, refl, sym, ap, ◌∙◌, subst, arith}
use Rattle.std.proofs.lemmas.Int.{ints}
use Rattle.edf_check.specs.Courses.{Agree, Course, DifferAt}
use Rattle.edf_check.specs.KeptReading.{ExportedAt, KeptAt, origin_of}
use Rattle.edf_check.proofs.ForCallers.{Column, IsColumnOf, agree-back, differ-alike, exported-there, is-column, kept-there, there-exported, there-kept}
use Rattle.edf_claim.specs.ClaimValues.{ClaimValue}
use Rattle.edf_claim.specs.Keeps.{keeps_instant}
use Rattle.edf_fields.specs.Lists.{Has}
use Rattle.edf_fields.proofs.ForCallers.{has-at}
use Rattle.edf_header.specs.HeadsReading.{head_of}
use Rattle.edf_header.specs.signals.Channels.{channels_among}
use Rattle.edf_pace.specs.Kept.{shift_ps}
use Rattle.edf_pace.specs.declared.walk.channel_place.ChannelPlace.{ChannelPlace}
use Rattle.edf_pace.specs.walk.Columns.{Sampled, channel_at}
use Rattle.edf_pace.specs.walk.Counting.{differences_in, differences_since}
use Rattle.edf_pace.specs.walk.Pairs.{IsPlaceIn}
use Rattle.edf_pace.specs.walk.Shown.{begin_by}
use Rattle.edf_pace.specs.walk.Windows.{kept_at, points_at, sampled}
use Rattle.edf_pace.proofs.ForCallers.{at-found, before-past-all, channel-bounds, claim_within, from-first, past_all, points-are-kept, rest-kept, until-all, window-kept, within-from, within-keeps, within-until}
use Rattle.edf_samples.specs.declared.difference.PointDifference.{PointDifference}
use Rattle.edf_samples.specs.Stretches.{since, until}
use Rattle.edf_samples.specs.Tallies.{differences_of}
use Rattle.edf_samples.proofs.ForCallers.{Differ, since_all}
use Rattle.edf_stream.specs.Conforming.{Conforms}
use Rattle.edf_stream.specs.declared.times.instant.Instant.{Instant}
use Rattle.edf_stream.proofs.ForCallers.{sound-of}
use Rattle.edf_verdict.specs.declared.verdict.SampleMismatch.{SampleMismatch}
use Rattle.edf_verdict.specs.declared.verdict.SampleMismatch.TheVariants.{Missing, Extra, Value}
use Rattle.edf_all_told.specs.Told.{AreAllDifferences, KeptInTurn, end_of}
use Rattle.edf_all_told.proofs.ListedFacts.{all_listed}

-- ---- the time of an export

-- what the claim keeps in a time is what it keeps of that time alone
pub in_turn : (original : List ℕ) (claim : ClaimValue) (last : Bool) (t u : ℤ) → Agree (KeptAt original (claim_within last t u claim)) (KeptInTurn original claim last t u)
in_turn original claim last t u label at v p = (
  λ h.
      let test : keeps_instant (claim_within last t u claim) at.num at.den ≡ true = h.1 in
      let from : (t *ℤ pos at.den) ≤ℤ at.num = within-from last claim t u at.num at.den test in
      let until-u : last ≡ false → at.num <ℤ (u *ℤ pos at.den) = early last test in
      let keeps : keeps_instant claim at.num at.den ≡ true = sym (within-keeps last claim t u at.num at.den from until-u) ∙ test in
      ((h.0, keeps, h.2), record { reached = omega (arith, ints, from); early = λ z. (let b = until-u z in omega (arith, ints, b)) }),
  λ (h, turn).
      let reached = turn.reached in
      let keeps : keeps_instant claim at.num at.den ≡ true = h.1 in
      (h.0, within-keeps last claim t u at.num at.den (omega (arith, ints, reached)) (λ z. (let b = turn.early z in omega (arith, ints, b))) ∙ keeps, h.2),
)
  where
    early : (l : Bool) → keeps_instant (claim_within l t u claim) at.num at.den ≡ true → l ≡ false → at.num <ℤ (u *ℤ pos at.den)
    early true test z = absurd (let f : true ≡ false = z in cc)
    early false test z = within-until claim t u at.num at.den test

-- courses in place of others with which they agree
pub differences_alike : (K L E F : Course) → Agree K L → Agree E F → (label : List ℕ) (ds : List PointDifference) → AreAllDifferences K E label ds → AreAllDifferences L F label ds
differences_alike K L E F a b label ds all = record {
  each = λ d i. (let x = all.each d i in (x.0, differ-alike K L E F a b label d.at d.mismatch x.0 x.1));
  every = λ at k p d. all.every at k p (differ-alike L K F E (agree-back K L a) (agree-back E F b) label at k p d);
  rise = all.rise;
}

-- ---- a channel

-- a channel that was found is one of the header
place-in : (file : List ℕ) (label : List ℕ) (place : ChannelPlace) → Conforms file (head_of file) → channel_at label (head_of file) ≡ Some place → IsPlaceIn (head_of file) place
place-in file label place c e =
    let h = head_of file in
    let r = at-found h label place e in
    let bounds = channel-bounds h r.channel (sound-of file h c) (has-at (channels_among h.signals) r.at r.channel r.there) in
    let number = r.number in
    let samples = r.samples in
    let some = bounds.0 in
    let few = bounds.1 in
    let at : place.number ≡ r.at = omega (arith, number) in
    record {
      channel = r.channel;
      there = ap (slice_get (channels_among h.signals)) at ∙ r.there;
      samples = r.samples;
      some = omega (arith, samples, some);
      few = omega (arith, samples, few);
    }

-- all that is counted of two channels in a time
abbrev pub counted_differences : Bool → ClaimValue → Sampled → Sampled → ℤ → ℤ → Option ChannelPlace → Option ChannelPlace → List PointDifference
counted_differences last claim o e t u p q = if last then differences_since claim o e t p q else differences_in claim o e t u p q

module _ (original part : List ℕ) (claim : ClaimValue) (co : Conforms original (head_of original)) (cp : Conforms part (head_of part)) where
  abbrev moved : ℤ
  moved = neg_ℤ (origin_of original)

  abbrev moved_part : ℤ
  moved_part = neg_ℤ (origin_of original +ℤ shift_ps claim)

  abbrev one : Sampled
  one = sampled original (head_of original) moved

  abbrev two : Sampled
  two = sampled part (head_of part) moved_part

  abbrev u : ℤ
  u = end_of original claim part

  module _ (label : List ℕ) (claimed : Has claim.channels label) (s q : ChannelPlace) (at-s : channel_at label (head_of original) ≡ Some s) (at-q : channel_at label (head_of part) ≡ Some q) (t : ℤ) (from : t ≤ℤ begin_by part (head_of part) moved_part 0) where
    here : IsPlaceIn (head_of original) s
    here = place-in original label s co at-s

    there : IsPlaceIn (head_of part) q
    there = place-in part label q cp at-q

    -- what is counted is what the column of the claim differs in that keeps this time alone
    counted-whole : (last : Bool) → counted_differences last claim one two t u (Some s) (Some q) ≡ differences_of s.samples (kept_at (claim_within last t u claim) one s) q.samples (points_at two q)
    unfolding differences_since differences_in
    counted-whole true =
        let n = s.samples in
        let m = q.samples in
        let xs = points_at one s in
        let ys = points_at two q in
        ap (λ zs. differences_of n (since n t zs) m (since m t ys)) (points-are-kept claim original (head_of original) s moved co here)
        ∙ ap (λ zs. differences_of n zs m (since m t ys)) (rest-kept claim n t u xs)
        ∙ ap (λ zs. differences_of n zs m (since m t ys)) (sym (points-are-kept (claim_within true t u claim) original (head_of original) s moved co here))
        ∙ ap (λ zs. differences_of n (kept_at (claim_within true t u claim) one s) m zs) (since_all m t ys (from-first part (head_of part) q moved_part t cp there from))
    counted-whole false =
        let n = s.samples in
        let m = q.samples in
        let xs = points_at one s in
        let ys = points_at two q in
        let before = before-past-all part (head_of part) q moved_part u cp there (past_all part (head_of part) moved_part u cp refl) in
        ap (λ zs. differences_of n (until n u (since n t zs)) m (until m u (since m t ys))) (points-are-kept claim original (head_of original) s moved co here)
        ∙ ap (λ zs. differences_of n zs m (until m u (since m t ys))) (window-kept claim n t u xs)
        ∙ ap (λ zs. differences_of n zs m (until m u (since m t ys))) (sym (points-are-kept (claim_within false t u claim) original (head_of original) s moved co here))
        ∙ ap (λ zs. differences_of n (kept_at (claim_within false t u claim) one s) m (until m u zs)) (since_all m t ys (from-first part (head_of part) q moved_part t cp there from))
        ∙ ap (λ zs. differences_of n (kept_at (claim_within false t u claim) one s) m zs) (until-all m u ys before)

    module _ (last : Bool) where
      abbrev within : ClaimValue
      within = claim_within last t u claim

      abbrev Kept : Course
      Kept = KeptAt original within

      abbrev Exported : Course
      Exported = ExportedAt original part claim

      -- the column of the label
      abbrev c : Column
      c = record { label = label; n = s.samples; kept = kept_at within one s; m = q.samples; exported = points_at two q }

      is : IsColumnOf original part within c
      is = record { s = s; t = q; original_place = at-s; export_place = at-q; n_is = refl; kept_is = refl; m_is = refl; exported_is = refl }

      up : (at : Instant) (k : SampleMismatch) → 0 < at.den → Differ c.n c.kept c.m c.exported at k → DifferAt Kept Exported label at k
      up at Missing p d = (
        (d.0.0, kept-there original part within c at d.0.0 co is claimed p d.0.1),
        λ w x. let y = there-exported original part within c at w cp is x in d.1 y.0 y.1 y.2,
      )
      up at Extra p d = (
        (d.0.0, exported-there original part within c at d.0.0 cp is d.0.1),
        λ v x. let y = there-kept original part within c at v co is p x in d.1 y.0 y.1 y.2,
      )
      up at (Value v w) p d = (kept-there original part within c at v co is claimed p d.0, exported-there original part within c at w cp is d.1, d.2)

      down : (at : Instant) (k : SampleMismatch) → 0 < at.den → DifferAt Kept Exported label at k → Differ c.n c.kept c.m c.exported at k
      down at Missing p d = (
        (d.0.0, there-kept original part within c at d.0.0 co is p d.0.1),
        λ x i same. d.1 x.value (exported-there original part within c at x.value cp is (x, i, same, refl)),
      )
      down at Extra p d = (
        (d.0.0, there-exported original part within c at d.0.0 cp is d.0.1),
        λ x i same. d.1 x.value (kept-there original part within c at x.value co is claimed p (x, i, same, refl)),
      )
      down at (Value v w) p d = (there-kept original part within c at v co is p d.0, there-exported original part within c at w cp is d.1, d.2)

      -- all differences of the channel are those that are counted
      pub channel_differences : AreAllDifferences Kept Exported label (counted_differences last claim one two t u (channel_at label (head_of original)) (channel_at label (head_of part)))
      channel_differences =
          let All = AreAllDifferences Kept Exported label in
          let good = is-column original part within c co cp is in
          let l = all_listed c.n c.kept c.m c.exported good.n good.m good.kept good.exported in
          let whole-list : All (differences_of c.n c.kept c.m c.exported) = record {
            each = λ d i. ((l.each d i).0, up d.at d.mismatch (l.each d i).0 (l.each d i).1);
            every = λ at k p d. l.every at k p (down at k p d);
            rise = l.rise;
          } in
          let counted-list : All (counted_differences last claim one two t u (Some s) (Some q)) = subst All (sym (counted-whole last)) whole-list in
          subst (λ y. All (counted_differences last claim one two t u (channel_at label (head_of original)) y)) (sym at-q)
          (subst (λ x. All (counted_differences last claim one two t u x (Some q))) (sym at-s) counted-list)
