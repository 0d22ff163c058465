-- The kinds of differences of two headers, in their order. A rule more of two headers is a kind more: here stand its rows, and in
-- no other file of proofs. Two headers agree or have one first difference, and headers that say the same have the same one.
use Rattle.std.proofs.Common.{◌≡◌, ◌↔◌, ℕ, Bor, Bool, true, false, not, IsTrue, option_map, ap, ◌∙◌, List, [], ◌∷◌, ◌++◌, map, Option, Some, None, MatchOption, refl, sym, subst, ◌⊎◌, inl, inr, ◌&&◌, ◌==◌, length, find, is_none, ⊎_elim}
use Rattle.edf_fields.specs.Lists.{Has, is_one_of}
use Rattle.edf_fields.proofs.ForCallers.{one_of-has, has-one_of, has-append, has-back, has-front, has-map, map-has, not-true}
use Rattle.edf_header.specs.signals.Channels.{channel_labels}
use Rattle.edf_header.specs.Heads.{SignalHead, Head}
use Rattle.edf_header.specs.Sound.{IsSound}
use Rattle.edf_claim.specs.Claims.{IsClaim}
use Rattle.edf_claim.specs.ClaimValues.{ClaimValue}
use Rattle.edf_heads.specs.differences.BlankDifference.{IsBlankHeader, HasFreeText, IsFirstWithFreeText}
use Rattle.edf_heads.specs.Calibrations.{HaveSameCalibration}
use Rattle.edf_heads.specs.Channels.{SameChannels, AllAlike}
use Rattle.edf_heads.specs.differences.ChannelDifferences.{HasAll, HasNoChannel, IsLeastExtra, AreUnlike, IsFirstUnlike}
use Rattle.edf_heads.specs.Comparisons.{Claimed, Compared, claimed_view, IsComparison, breaks, Breaks, Keep, HasNoFreeText, channel_of, claimed_of, first_text_difference, has_other_calibration, has_other_text, of_both, has_text, is_blank_signal, all_rules, broken_at, broken_by, difference_of, named_at, named_if, unclaimed_in, Adds, Appends, AreAllBrokenIn, IsBrokenAmong}
use Rattle.edf_heads.specs.HeadVerdicts.{AreAllBroken, HeadsAgree, SignalsAgree, IsBroken, IsHeadVerdict}
use Rattle.edf_heads.specs.Subfields.{IsAsClaimed}
use Rattle.edf_fields.specs.fields.SubfieldNamesReading.{all_subfields}
use Rattle.edf_heads.specs.ChannelTexts.{HaveSameTexts}
use Rattle.edf_verdict.specs.declared.verdict.Verdict.{Verdict}
use Rattle.edf_verdict.specs.declared.verdict.Verdict.TheVariants.{Yes, No}
use Rattle.edf_verdict.specs.declared.verdict.Difference.{Difference}
use Rattle.edf_verdict.specs.declared.verdict.FreeText.TheVariants.{Header, Channel}
use Rattle.edf_heads.proofs.BrokenFacts.{at-held, by-held, held-at, held-by, held-named, held-unclaimed, named-held, unclaimed-held}
use Rattle.edf_heads.proofs.ChannelFacts.{channel-none, channel-some}
use Rattle.edf_heads.proofs.ContentFacts.{texts-found, free-found, blank_decided, calibrations-found, one-text-found, alike-differ, alike-tested, differ-tested, no-text, other-calibration, other-text, same-calibration, same-text, text-there, untrue}
use Rattle.edf_heads.proofs.ListFacts.{first-has}
use Rattle.edf_fields.specs.declared.fields.which.Which.{Which}
use Rattle.edf_verdict.specs.declared.verdict.TextField.{TextField}
use Rattle.edf_verdict.specs.declared.verdict.TextField.TheVariants.{Transducer, Prefilter}
use Rattle.edf_verdict.specs.declared.verdict.SubfieldMismatch.{SubfieldMismatch}
use Rattle.edf_verdict.specs.declared.verdict.SubfieldMismatch.TheVariants.{NotX, Changed}
use Rattle.edf_heads.specs.Firsts.{IsFirstWith}
use Rattle.edf_heads.specs.differences.SubfieldDifference.{IsSubfieldDifference}
use Rattle.edf_heads.specs.differences.TextDifference.{HaveSameText, IsFirstText, IsTextDifference}
use Rattle.edf_heads.proofs.LabelFacts.{one-label}
use Rattle.std.specs.List.{list_all}
use Rattle.edf_heads.specs.declared.channels.ClaimedChannel.{ClaimedChannel}
use Rattle.edf_heads.specs.declared.difference.HeadDifference.{HeadDifference}
use Rattle.edf_heads.specs.declared.rules.ChannelRule.{ChannelRule}
use Rattle.edf_heads.specs.declared.rules.ChannelRule.TheVariants.{Known, Exported, SameText, Calibrated, Clean}
use Rattle.edf_heads.proofs.ComparisonFacts.{absent-first, find-claimed, said-of}
use Rattle.edf_heads.proofs.SubfieldFacts.{has-all}
use Rattle.edf_heads.specs.SameHeads.{AreBlankAlike}
use Rattle.edf_verdict.specs.declared.verdict.Difference.TheVariants as differences
use Rattle.edf_heads.proofs.HeadFacts.{has-label, label-has, has_only, same_channels, in-export, claimed-in, blank-header, blank-channel, blank-of, is_blank, unlike-alike}
use Rattle.edf_heads.proofs.OneHeadFacts.{one-of-first, One, Made, Else, one-made, either-one, one-text, one-subfield, first-apart}
use Rattle.edf_heads.proofs.SomeHeadFacts.{Decided, tested, found-or-not, all-or-first, LeastOrNone, least-or-none, has-which, is-as-claimed}
use Rattle.edf_heads.proofs.SameHeadFacts.{same-heads-back, blank-alike-back, there, AreSamePairs, pairs-back, first-carried, texts-carried, calibration-carried, first-unlike-carried, all-alike-carried, all-there, same-channels-carried, first-nowhere-carried, extra-carried, claimed-carried, free-carried, text-first-carried}

-- ---- the first channel that breaks a rule

rule-found : (rule : ChannelRule) (c : Compared) → IsSound c.original → IsSound c.export
    → MatchOption (find (λ l. breaks rule (claimed_of c.original.signals c.export.signals l)) c.claim.channels) (Keep rule c) (IsFirstWith (Breaks rule c) c.claim.channels)
rule-found Known c so se = absent-first c.original c.claim.channels
rule-found Exported c so se = absent-first c.export c.claim.channels
rule-found (SameText field) c so se = one-text-found field c.original c.export c.claim so se
rule-found Calibrated c so se = calibrations-found c.original c.export c.claim so se
rule-found Clean c so se = free-found c.export c.claim se

pub rule_said : (rule : ChannelRule) (c : Compared) (claimed : List ClaimedChannel) (labels : List (Bor (List ℕ))) (seen : List ClaimedChannel) (r : Option (Bor (List ℕ))) → IsComparison c.original c.export c.claim claimed labels → seen ≡ claimed
    → option_map (λ label. label.now) r ≡ option_map (λ (x : Claimed). x.label) (find (breaks rule) (map claimed_view seen))
    → MatchOption r (Keep rule c) (λ label. IsFirstWith (Breaks rule c) c.claim.channels label.now)
rule_said rule c claimed labels seen r is all found =
    said-of (Keep rule c) (IsFirstWith (Breaks rule c) c.claim.channels) r (find (λ l. breaks rule (claimed_of c.original.signals c.export.signals l)) c.claim.channels)
    (found ∙ ap (λ cs. option_map (λ (x : Claimed). x.label) (find (breaks rule) cs)) (ap (map claimed_view) all ∙ is.claimed_are) ∙ find-claimed c.original.signals c.export.signals (breaks rule) c.claim.channels)
    (rule-found rule c is.original_sound is.export_sound)

-- ---- a channel breaks a rule

none-there : (h : Head) (l : List ℕ) → is_none (channel_of l h.signals) ≡ true → HasNoChannel h l
none-there h l t = none-case (channel_of l h.signals) refl t
  where
    none-case : (o : Option SignalHead) → channel_of l h.signals ≡ o → is_none o ≡ true → HasNoChannel h l
    none-case None e t = channel-none h l e
    none-case (Some x) e t = absurd (let f : false ≡ true = t in cc)

some-there : (h : Head) (l : List ℕ) → is_none (channel_of l h.signals) ≡ false → HasNoChannel h l → ⊥
some-there h l f none = some-case (channel_of l h.signals) refl f
  where
    some-case : (o : Option SignalHead) → channel_of l h.signals ≡ o → is_none o ≡ false → ⊥
    some-case None e f = let g : true ≡ false = f in cc
    some-case (Some x) e f = none (x, channel-some h l x e)

breaks-said : (rule : ChannelRule) (c : Compared) (l : List ℕ) → breaks rule (claimed_of c.original.signals c.export.signals l) ≡ true → Breaks rule c l
breaks-said Known c l t = none-there c.original l t
breaks-said Exported c l t = none-there c.export l t
breaks-said (SameText field) c l t = differ-tested (HaveSameText field) (has_other_text field) c.original c.export l (other-text field) t
breaks-said Calibrated c l t = differ-tested HaveSameCalibration has_other_calibration c.original c.export l other-calibration t
breaks-said Clean c l t = text-there c.export l t

keeps-said : (rule : ChannelRule) (c : Compared) (l : List ℕ) → IsSound c.original → IsSound c.export → breaks rule (claimed_of c.original.signals c.export.signals l) ≡ false → Breaks rule c l → ⊥
keeps-said Known c l so se f = some-there c.original l f
keeps-said Exported c l so se f = some-there c.export l f
keeps-said (SameText field) c l so se f =
    alike-differ (HaveSameText field) c.original c.export l (alike-tested (HaveSameText field) (has_other_text field) c.original c.export l so se (same-text field) f)
keeps-said Calibrated c l so se f =
    alike-differ HaveSameCalibration c.original c.export l (alike-tested HaveSameCalibration has_other_calibration c.original c.export l so se same-calibration f)
keeps-said Clean c l so se f = no-text c.export l se f

-- ---- the headers agree

pub heads_agree : (o e : Head) (claim : ClaimValue) → SignalsAgree o e claim → ((w : Which) → IsAsClaimed o e claim w) → IsBlankHeader e → HasNoFreeText e claim → HeadsAgree o e claim
heads_agree o e claim agree subfields blank none = record {
  channels = agree.channels;
  texts = agree.texts;
  calibrations = agree.calibrations;
  subfields = subfields;
  blank = is_blank o e claim agree.channels blank none;
}

-- ---- the kinds of differences of two headers

abbrev FromSubfield : Head → Head → ClaimValue → Verdict → Type 0
FromSubfield o e c =
    Else (Made (λ (d : Which × SubfieldMismatch). No (differences.Subfield d.0 d.1)) (λ d. IsSubfieldDifference o e c d.0 d.1)) ((w : Which) → IsAsClaimed o e c w)
    (Else (Made (λ (u : Unit {0}). No (differences.NotClean Header)) (λ u. IsBlankHeader e → ⊥)) (IsBlankHeader e)
    (Made (λ l. No (differences.NotClean (Channel l))) (IsFirstWithFreeText e c)))

abbrev FromText : Head → Head → ClaimValue → Verdict → Type 0
FromText o e c =
    Else (Made (λ (d : List ℕ × TextField). No (differences.ChannelText d.0 d.1)) (λ d. IsTextDifference o e c d.0 d.1)) (AllAlike HaveSameTexts o e c)
    (Else (Made (λ l. No (differences.Calibration l)) (IsFirstUnlike HaveSameCalibration o e c)) (AllAlike HaveSameCalibration o e c) (FromSubfield o e c))

abbrev FromUnknown : Head → Head → ClaimValue → Verdict → Type 0
FromUnknown o e c =
    Else (Made (λ l. No (differences.UnknownChannel l)) (IsFirstWith (HasNoChannel o) c.channels)) (HasAll o c.channels)
    (Else (Made (λ l. No (differences.MissingChannel l)) (IsFirstWith (HasNoChannel e) c.channels)) (HasAll e c.channels)
    (Else (Made (λ l. No (differences.ExtraChannel l)) (IsLeastExtra e c.channels)) (SameChannels o e c) (FromText o e c)))

-- each verdict is of its kind, and those before it don't apply
from-text : (o e : Head) (c : ClaimValue) (v : Verdict) → SameChannels o e c → FromText o e c v → FromUnknown o e c v
from-text o e c v same kind = inr (same.in_original, inr (in-export o e c same, inr (same, kind)))

from-subfield : (o e : Head) (c : ClaimValue) (v : Verdict) → SignalsAgree o e c → FromSubfield o e c v → FromUnknown o e c v
from-subfield o e c v agree kind = from-text o e c v agree.channels (inr (agree.texts, inr (agree.calibrations, kind)))

kind-of : (o e : Head) (c : ClaimValue) (v : Verdict) → IsHeadVerdict o e c v → FromUnknown o e c v
kind-of o e c (No (differences.UnknownChannel l)) h = inl (l, refl, h)
kind-of o e c (No (differences.MissingChannel l)) h = inr (h.0, inl (l, refl, h.1))
kind-of o e c (No (differences.ExtraChannel l)) h = inr (h.0, inr (h.1, inl (l, refl, h.2)))
kind-of o e c (No (differences.ChannelText l field)) h = from-text o e c _ h.0 (inl ((l, field), refl, h.1))
kind-of o e c (No (differences.Calibration l)) h = from-text o e c _ h.0 (inr (h.1, inl (l, refl, h.2)))
kind-of o e c (No (differences.Subfield which mismatch)) h = from-subfield o e c _ h.0 (inl ((which, mismatch), refl, h.1))
kind-of o e c (No (differences.NotClean Header)) h = from-subfield o e c _ h.0 (inr (h.1, inl (tt, refl, h.2)))
kind-of o e c (No (differences.NotClean (Channel l))) h = from-subfield o e c _ h.0 (inr (h.1, inr (h.2, (l, refl, h.3))))
kind-of o e c v h = absurd h

-- ---- no verdict applies where the headers agree

pub agree-apart : (o e : Head) (claim : ClaimValue) (v : Verdict) → IsHeadVerdict o e claim v → HeadsAgree o e claim → ⊥
agree-apart o e claim (No (differences.UnknownChannel label)) v h =
    let r = first-has (HasNoChannel o) claim.channels label v in
    r.1 (h.channels.in_original label r.0)
agree-apart o e claim (No (differences.MissingChannel label)) v h =
    let r = first-has (HasNoChannel e) claim.channels label v.1 in
    r.1 (in-export o e claim h.channels label r.0)
agree-apart o e claim (No (differences.ExtraChannel label)) v h =
    let x = (v.2).extra in
    x.unclaimed (claimed-in o e claim h.channels label x.there)
agree-apart o e claim (No (differences.ChannelText label field)) v h = unlike-alike HaveSameTexts o e claim label h.texts (v.1).channel
agree-apart o e claim (No (differences.Calibration label)) v h = unlike-alike HaveSameCalibration o e claim label h.calibrations v.2
agree-apart o e claim (No (differences.Subfield which mismatch)) v h =
    let r = first-has (λ w. IsAsClaimed o e claim w → ⊥) all_subfields which (v.1).subfield in
    r.1 (h.subfields which)
agree-apart o e claim (No (differences.NotClean Header)) v h = v.2 (blank-header e h.blank)
agree-apart o e claim (No (differences.NotClean (Channel label))) v h =
    let r = first-has (HasFreeText e) claim.channels label v.3 in
    (r.1).2 (blank-channel e h.blank label (r.1).0 (r.1).1)
agree-apart o e claim w v h = v

-- none is answered exactly where the headers agree
pub none_or_differ : (o e : Head) (claim : ClaimValue) (found : Option Verdict) → MatchOption found (HeadsAgree o e claim) (IsHeadVerdict o e claim) → (found ≡ None) ↔ HeadsAgree o e claim
none_or_differ o e claim None h = (λ q. h, λ q. refl)
none_or_differ o e claim (Some v) h = (λ q. absurd (let f : Some v ≡ None = q in cc), λ agree. absurd (agree-apart o e claim v h agree))

-- ---- two headers have one first difference at most

one-from-text : (o e : Head) (c : ClaimValue) → One (FromText o e c)
one-from-text o e c =
    either-one (one-made (one-text o e c)) (λ v x all. unlike-alike HaveSameTexts o e c (x.0).0 all (x.2).channel)
    (λ texts. either-one (one-made (one-of-first (AreUnlike HaveSameCalibration o e) c.channels)) (λ v x all. unlike-alike HaveSameCalibration o e c x.0 all x.2)
    (λ calibrations. either-one (one-made (one-subfield o e c)) (λ v x all. let r = first-has (λ w. IsAsClaimed o e c w → ⊥) all_subfields (x.0).0 (x.2).subfield in r.1 (all (x.0).0))
    (λ subfields. either-one (one-made (λ u v p q. refl)) (λ v x. x.2)
    (λ blank. one-made (one-of-first (HasFreeText e) c.channels)))))

one-from-unknown : (o e : Head) (c : ClaimValue) → One (FromUnknown o e c)
one-from-unknown o e c =
    either-one (one-made (one-of-first (HasNoChannel o) c.channels)) (λ v x. first-apart o c.channels x.0 x.2)
    (λ there. either-one (one-made (one-of-first (HasNoChannel e) c.channels)) (λ v x. first-apart e c.channels x.0 x.2)
    (λ here. either-one (one-made (λ l m a b. one-label l m (a.least m b.extra) (b.least l a.extra)))
    (λ v x same. let a = (x.2).extra in a.unclaimed (claimed-in o e c same x.0 a.there))
    (λ same. one-from-text o e c)))

pub one_head_verdict : (o e : Head) (c : ClaimValue) (v w : Verdict) → IsHeadVerdict o e c v → IsHeadVerdict o e c w → v ≡ w
one_head_verdict o e c v w p q = one-from-unknown o e c v w (kind-of o e c v p) (kind-of o e c w q)

-- ---- two sound headers agree, or have a first difference: from the last kind to the first

abbrev pub AgreeOrDiffer : Head → Head → ClaimValue → Type 0
AgreeOrDiffer o e c = HeadsAgree o e c ⊎ ((v : Verdict) × IsHeadVerdict o e c v)

some-free : (o e : Head) (c : ClaimValue) → IsSound e → SignalsAgree o e c → ((w : Which) → IsAsClaimed o e c w) → IsBlankHeader e → AgreeOrDiffer o e c
some-free o e c se agree subfields blank =
    ⊎_elim (λ none. inl (heads_agree o e c agree subfields blank none)) (λ r. inr (No (differences.NotClean (Channel r.0)), (agree, subfields, blank, r.1)))
    (found-or-not (HasNoFreeText e c) (IsFirstWithFreeText e c) (find (λ l. has_text (channel_of l e.signals)) c.channels) (free-found e c se))

some-header : (o e : Head) (c : ClaimValue) → IsSound e → SignalsAgree o e c → ((w : Which) → IsAsClaimed o e c w) → AgreeOrDiffer o e c
some-header o e c se agree subfields =
    let b = (length e.free == 0) && list_all is_blank_signal e.signals in
    let said = blank_decided e b refl in
    ⊎_elim (λ blank. some-free o e c se agree subfields blank) (λ text. inr (No (differences.NotClean Header), (agree, subfields, text))) (tested b said.0 said.1)

some-subfield : (o e : Head) (c : ClaimValue) → IsSound e → SignalsAgree o e c → AgreeOrDiffer o e c
some-subfield o e c se agree = ⊎_elim (λ all. some-header o e c se agree (λ w. all w (has-all w))) (λ r. side r.0 r.1 (has-which c.anonymous r.0)) (all-or-first (IsAsClaimed o e c) (is-as-claimed o e c) all_subfields)
  where
    side : (w : Which) → IsFirstWith (λ w. IsAsClaimed o e c w → ⊥) all_subfields w → Decided (Has c.anonymous w) → AgreeOrDiffer o e c
    side w first (inl there) = inr (No (differences.Subfield w NotX), (agree, record { subfield = first; mismatch_is = there }))
    side w first (inr out) = inr (No (differences.Subfield w Changed), (agree, record { subfield = first; mismatch_is = out }))

some-calibration : (o e : Head) (c : ClaimValue) → IsSound o → IsSound e → SameChannels o e c → AllAlike HaveSameTexts o e c → AgreeOrDiffer o e c
some-calibration o e c so se same texts =
    ⊎_elim (λ all. some-subfield o e c se (record { channels = same; texts = texts; calibrations = all })) (λ r. inr (No (differences.Calibration r.0), (same, texts, r.1)))
    (found-or-not (AllAlike HaveSameCalibration o e c) (IsFirstUnlike HaveSameCalibration o e c) (find (λ l. of_both has_other_calibration (channel_of l o.signals) (channel_of l e.signals)) c.channels) (calibrations-found o e c so se))

some-text : (o e : Head) (c : ClaimValue) → IsSound o → IsSound e → SameChannels o e c → AgreeOrDiffer o e c
some-text o e c so se same =
    ⊎_elim (λ all. some-calibration o e c so se same all) (λ r. inr (No (differences.ChannelText (r.0).0 (r.0).1), (same, record { channel = (r.1).0; text = (r.1).1 })))
    (found-or-not (AllAlike HaveSameTexts o e c) (λ d. IsFirstWith (AreUnlike HaveSameTexts o e) c.channels d.0 × IsFirstText o e d.0 d.1) (first_text_difference (map (claimed_of o.signals e.signals) c.channels)) (texts-found o e so se c.channels))

some-extra : (o e : Head) (c : ClaimValue) → IsSound o → IsSound e → IsClaim c → HasAll o c.channels → HasAll e c.channels → AgreeOrDiffer o e c
some-extra o e c so se is there here =
    cases (least-or-none (λ l. Has c.channels l → ⊥)
    (λ l. ⊎_elim (λ h. inr (λ out. out h)) inl (tested (is_one_of c.channels l) (one_of-has c.channels l) (has-one_of c.channels l))) (channel_labels e.signals))
  where
    cases : LeastOrNone (λ l. Has c.channels l → ⊥) (channel_labels e.signals) → AgreeOrDiffer o e c
    cases (inl none) = some-text o e c so se (same_channels o e c there here (has_only e c se is (λ l x. none l (has-label e l x.there) x.unclaimed)))
    cases (inr r) = inr (
      No (differences.ExtraChannel r.0),
      (there, here, record { extra = record { there = label-has e r.0 r.1; unclaimed = r.2 }; least = λ m x. r.3 m (has-label e m x.there) x.unclaimed }),
    )

all-channels : (h : Head) (ls : List (List ℕ)) → HasAll h ls ⊎ ((l : List ℕ) × IsFirstWith (HasNoChannel h) ls l)
all-channels h ls = found-or-not (HasAll h ls) (IsFirstWith (HasNoChannel h) ls) (find (λ l. is_none (channel_of l h.signals)) ls) (absent-first h ls)

pub agree_or_differ : (o e : Head) (c : ClaimValue) → IsSound o → IsSound e → IsClaim c → AgreeOrDiffer o e c
agree_or_differ o e c so se is =
    ⊎_elim
    (λ there. ⊎_elim (λ here. some-extra o e c so se is there here) (λ r. inr (No (differences.MissingChannel r.0), (there, r.1))) (all-channels e c.channels))
    (λ r. inr (No (differences.UnknownChannel r.0), r.1)) (all-channels o c.channels)

-- ---- headers that say the same agree, or differ first, in the same way

signals-carried : (o e o' e' : Head) → AreSamePairs o e o' e' → (c : ClaimValue) → SignalsAgree o e c → SignalsAgree o' e' c
signals-carried o e o' e' s c h = record {
  channels = same-channels-carried o e o' e' s c h.channels;
  texts = all-alike-carried HaveSameTexts texts-carried o e o' e' s c h.texts;
  calibrations = all-alike-carried HaveSameCalibration calibration-carried o e o' e' s c h.calibrations;
}

pub agree_carried : (o e o' e' : Head) → AreSamePairs o e o' e' → AreBlankAlike e e' → (c : ClaimValue) → HeadsAgree o e c → HeadsAgree o' e' c
agree_carried o e o' e' s b c h =
    let signals = signals-carried o e o' e' s c (record { channels = h.channels; texts = h.texts; calibrations = h.calibrations }) in
    record {
      channels = signals.channels;
      texts = signals.texts;
      calibrations = signals.calibrations;
      subfields = λ w. claimed-carried o e o' e' s c w (h.subfields w);
      blank = blank-of e' (b.header.0 (blank-header e h.blank)) (λ l y' cy'.
          let d = there e' e (same-heads-back e e' s.export) l (y', cy') in
          (b.channels l d.0 y' d.1 cy').0 (blank-channel e h.blank l d.0 d.1));
    }

pub head_verdict_carried : (o e o' e' : Head) → AreSamePairs o e o' e' → AreBlankAlike e e' → (c : ClaimValue) (v : Verdict) → IsHeadVerdict o e c v → IsHeadVerdict o' e' c v
head_verdict_carried o e o' e' s b c (No (differences.UnknownChannel l)) h = first-nowhere-carried o o' s.original c.channels l h
head_verdict_carried o e o' e' s b c (No (differences.MissingChannel l)) h = (all-there o o' s.original c.channels h.0, first-nowhere-carried e e' s.export c.channels l h.1)
head_verdict_carried o e o' e' s b c (No (differences.ExtraChannel l)) h = (
  all-there o o' s.original c.channels h.0,
  all-there e e' s.export c.channels h.1,
  record {
    extra = extra-carried e e' s.export c.channels l (h.2).extra;
    least = λ m x. (h.2).least m (extra-carried e' e (same-heads-back e e' s.export) c.channels m x);
  },
)
head_verdict_carried o e o' e' s b c (No (differences.ChannelText l field)) h = (
  same-channels-carried o e o' e' s c h.0,
  record {
    channel = first-unlike-carried HaveSameTexts texts-carried o e o' e' s c l (h.1).channel;
    text = text-first-carried o e o' e' s l field (h.1).text;
  },
)
head_verdict_carried o e o' e' s b c (No (differences.Calibration l)) h = (
  same-channels-carried o e o' e' s c h.0,
  all-alike-carried HaveSameTexts texts-carried o e o' e' s c h.1,
  first-unlike-carried HaveSameCalibration calibration-carried o e o' e' s c l h.2,
)
head_verdict_carried o e o' e' s b c (No (differences.Subfield w mismatch)) h = (
  signals-carried o e o' e' s c h.0,
  record {
    subfield = first-carried (λ v. IsAsClaimed o e c v → ⊥) (λ v. IsAsClaimed o' e' c v → ⊥)
        (λ v n i. n (claimed-carried o' e' o e (pairs-back o e o' e' s) c v i)) (λ v n i. n (claimed-carried o e o' e' s c v i)) all_subfields w (h.1).subfield;
    mismatch_is = (h.1).mismatch_is;
  },
)
head_verdict_carried o e o' e' s b c (No (differences.NotClean Header)) h = (
  signals-carried o e o' e' s c h.0,
  λ w. claimed-carried o e o' e' s c w (h.1 w),
  λ blank. h.2 (b.header.1 blank),
)
head_verdict_carried o e o' e' s b c (No (differences.NotClean (Channel l))) h = (
  signals-carried o e o' e' s c h.0,
  λ w. claimed-carried o e o' e' s c w (h.1 w),
  b.header.0 h.2,
  first-carried (HasFreeText e) (HasFreeText e') (free-carried e e' s.export b) (free-carried e' e (same-heads-back e e' s.export) (blank-alike-back e e' b)) c.channels l h.3,
)
head_verdict_carried o e o' e' s b c v h = absurd h

-- ---- all rules that are broken

-- a rule that the channels of a claimed label break is broken
named-broken : (rule : ChannelRule) (c : Compared) (l : List ℕ) → Has c.claim.channels l → Breaks rule c l → IsBroken c.original c.export c.claim (named_at rule l)
named-broken Known c l there b = (there, b)
named-broken Exported c l there b = (there, b)
named-broken (SameText field) c l there b = (there, b)
named-broken Calibrated c l there b = (there, b)
named-broken Clean c l there b = (there, b)

claimed-broken : (c : Compared) (rules : List ChannelRule) (rule : Difference) → Has (broken_by rules (map (claimed_of c.original.signals c.export.signals) c.claim.channels)) rule → IsBroken c.original c.export c.claim rule
claimed-broken c rules rule h =
    by-held (λ r. IsBroken c.original c.export c.claim r) rules (map (claimed_of c.original.signals c.export.signals) c.claim.channels) rule
    (λ x there i.
    let m = map-has (claimed_of c.original.signals c.export.signals) c.claim.channels x there in
    let j = let P : Claimed → Type 0 = λ y. Has (broken_at rules y) rule in subst P (sym m.2) i in
    at-held (λ r. IsBroken c.original c.export c.claim r) rules (claimed_of c.original.signals c.export.signals m.0) rule (λ r t. named-broken r c m.0 m.1 (breaks-said r c m.0 t)) j)
    h

broken-claimed : (c : Compared) (rule : ChannelRule) (l : List ℕ) → IsSound c.original → IsSound c.export → Has all_rules rule → Has c.claim.channels l → Breaks rule c l
    → Has (broken_by all_rules (map (claimed_of c.original.signals c.export.signals) c.claim.channels)) (named_at rule l)
broken-claimed c rule l so se among there b =
    held-by all_rules (map (claimed_of c.original.signals c.export.signals) c.claim.channels) (claimed_of c.original.signals c.export.signals l) (named_at rule l)
    (has-map (claimed_of c.original.signals c.export.signals) c.claim.channels l there)
    (held-at all_rules (claimed_of c.original.signals c.export.signals l) rule among (λ f. keeps-said rule c l so se f b))

-- what is found one after the other is all that is broken
pub all_broken : (c : Compared) (claimed : List ClaimedChannel) (labels : List (Bor (List ℕ))) (seen : List ClaimedChannel) (none channels others subfields all : List HeadDifference) (blank : Bool)
    → IsComparison c.original c.export c.claim claimed labels → seen ≡ claimed → none ≡ [] → Appends none channels (broken_by all_rules (map claimed_view seen)) → Appends channels others (unclaimed_in c.claim.channels c.export.signals)
    → Adds others subfields (IsBrokenAmong c all_subfields) → IsTrue blank ↔ IsBlankHeader c.export → Appends subfields all (named_if (not blank) (differences.NotClean Header)) → AreAllBrokenIn c all
all_broken c claimed labels seen none channels others subfields all blank is same empty first second third tested fourth rule = (λ h. from rule h, λ h. to rule h)
  where
    so : IsSound c.original
    so = is.original_sound

    se : IsSound c.export
    se = is.export_sound

    found : List Difference
    found = broken_by all_rules (map (claimed_of c.original.signals c.export.signals) c.claim.channels)

    channels-are : map difference_of channels ≡ found
    channels-are =
        first ∙ ap (λ (ds : List HeadDifference). map difference_of ds ++ broken_by all_rules (map claimed_view seen)) empty ∙ ap (λ cs. broken_by all_rules (map claimed_view cs)) same ∙ ap (broken_by all_rules) is.claimed_are

    from-others : (r : Difference) → Has (map difference_of others) r → IsBroken c.original c.export c.claim r
    from-others r h =
        ⊎_elim (λ i. claimed-broken c all_rules r (subst (λ (ds : List Difference). Has ds r) channels-are i))
        (unclaimed-held (λ d. IsBroken c.original c.export c.claim d) c.export c.claim.channels c.export.signals r (λ x j. j) (λ l x. x))
        (has-append (map difference_of channels) (unclaimed_in c.claim.channels c.export.signals) r (subst (λ (ds : List Difference). Has ds r) second h))

    among-broken : (r : Difference) → IsBrokenAmong c all_subfields r → IsBroken c.original c.export c.claim r
    among-broken (differences.Subfield which mismatch) h = h.1
    among-broken r h = absurd h

    from : (r : Difference) → Has (map difference_of all) r → IsBroken c.original c.export c.claim r
    from r h =
        ⊎_elim (λ i. ⊎_elim (λ j. from-others r j) (λ j. among-broken r j) ((third r).0 i))
        (named-held (λ d. IsBroken c.original c.export c.claim d) (not blank) (differences.NotClean Header) r (λ t agree. let f : true ≡ false = sym (tested.1 agree) ∙ not-true blank t in cc))
        (has-append (map difference_of subfields) (named_if (not blank) (differences.NotClean Header)) r (subst (λ (ds : List Difference). Has ds r) fourth h))

    of-subfields : (r : Difference) → Has (map difference_of subfields) r → Has (map difference_of all) r
    of-subfields r h = subst (λ (ds : List Difference). Has ds r) (sym fourth) (has-front (map difference_of subfields) (named_if (not blank) (differences.NotClean Header)) r h)

    of-others : (r : Difference) → Has (map difference_of others) r → Has (map difference_of all) r
    of-others r h = of-subfields r ((third r).1 (inl h))

    of-channel : (r : ChannelRule) (l : List ℕ) → Has all_rules r → Has c.claim.channels l → Breaks r c l → Has (map difference_of all) (named_at r l)
    of-channel r l among there b =
        of-others (named_at r l)
        (subst (λ (ds : List Difference). Has ds (named_at r l)) (sym second)
        (has-front (map difference_of channels) (unclaimed_in c.claim.channels c.export.signals) (named_at r l)
        (subst (λ (ds : List Difference). Has ds (named_at r l)) (sym channels-are) (broken-claimed c r l so se among there b))))

    to : (r : Difference) → IsBroken c.original c.export c.claim r → Has (map difference_of all) r
    to (differences.UnknownChannel l) h = of-channel Known l (inl refl) h.0 h.1
    to (differences.MissingChannel l) h = of-channel Exported l (inr (inl refl)) h.0 h.1
    to (differences.ExtraChannel l) h =
        of-others (differences.ExtraChannel l)
        (subst (λ (ds : List Difference). Has ds (differences.ExtraChannel l)) (sym second)
        (has-back (map difference_of channels) (unclaimed_in c.claim.channels c.export.signals) (differences.ExtraChannel l) (held-unclaimed c.export c.claim.channels l h)))
    to (differences.ChannelText l Transducer) h = of-channel (SameText Transducer) l (inr (inr (inl refl))) h.0 h.1
    to (differences.ChannelText l Prefilter) h = of-channel (SameText Prefilter) l (inr (inr (inr (inl refl)))) h.0 h.1
    to (differences.Calibration l) h = of-channel Calibrated l (inr (inr (inr (inr (inl refl))))) h.0 h.1
    to (differences.Subfield which mismatch) h = of-subfields (differences.Subfield which mismatch) ((third (differences.Subfield which mismatch)).1 (inr (has-all which, h)))
    to (differences.NotClean Header) h =
        subst (λ (ds : List Difference). Has ds (differences.NotClean Header)) (sym fourth)
        (has-back (map difference_of subfields) (named_if (not blank) (differences.NotClean Header)) (differences.NotClean Header)
        (held-named (not blank) (differences.NotClean Header) (λ f. h (tested.0 (untrue blank f)))))
    to (differences.NotClean (Channel l)) h = of-channel Clean l (inr (inr (inr (inr (inr (inl refl)))))) h.0 h.1
    to r h = absurd h

-- the same of what a comparison says that it is
pub all_broken_in : (c m : Compared) (claimed : List ClaimedChannel) (labels : List (Bor (List ℕ))) (seen : List ClaimedChannel) (signals : List SignalHead) (whiches : List Which) (none channels others subfields all : List HeadDifference) (blank : Bool)
    → c ≡ m → IsComparison c.original c.export c.claim claimed labels → seen ≡ claimed → signals ≡ c.export.signals → whiches ≡ all_subfields → none ≡ [] → Appends none channels (broken_by all_rules (map claimed_view seen))
    → Appends channels others (unclaimed_in c.claim.channels signals) → Adds others subfields (IsBrokenAmong m whiches) → IsTrue blank ↔ IsBlankHeader m.export → Appends subfields all (named_if (not blank) (differences.NotClean Header)) → AreAllBrokenIn m all
all_broken_in c m claimed labels seen signals whiches none channels others subfields all blank e is same of every empty first second third tested fourth =
    subst (λ (x : Compared). AreAllBrokenIn x all) e
    (all_broken c claimed labels seen none channels others subfields all blank is same empty first
    (subst (λ (ss : List SignalHead). Appends channels others (unclaimed_in c.claim.channels ss)) of second)
    (subst (λ (ws : List Which). Adds others subfields (IsBrokenAmong c ws)) every (subst (λ (x : Compared). Adds others subfields (IsBrokenAmong x whiches)) (sym e) third))
    (subst (λ (x : Compared). IsTrue blank ↔ IsBlankHeader x.export) (sym e) tested) fourth)

-- ---- the rule that a verdict names is broken, and where the headers agree none is

pub first_is_broken : (o e : Head) (c : ClaimValue) (rule : Difference) → IsHeadVerdict o e c (No rule) → IsBroken o e c rule
first_is_broken o e c (differences.UnknownChannel l) v = first-has (HasNoChannel o) c.channels l v
first_is_broken o e c (differences.MissingChannel l) v = first-has (HasNoChannel e) c.channels l v.1
first_is_broken o e c (differences.ExtraChannel l) v = (v.2).extra
first_is_broken o e c (differences.ChannelText l Transducer) v = ((first-has (AreUnlike HaveSameTexts o e) c.channels l (v.1).channel).0, (v.1).text)
first_is_broken o e c (differences.ChannelText l Prefilter) v = ((first-has (AreUnlike HaveSameTexts o e) c.channels l (v.1).channel).0, ((v.1).text).1)
first_is_broken o e c (differences.Calibration l) v = first-has (AreUnlike HaveSameCalibration o e) c.channels l v.2
first_is_broken o e c (differences.Subfield which mismatch) v = ((first-has (λ w. IsAsClaimed o e c w → ⊥) all_subfields which (v.1).subfield).1, (v.1).mismatch_is)
first_is_broken o e c (differences.NotClean Header) v = v.2
first_is_broken o e c (differences.NotClean (Channel l)) v = first-has (HasFreeText e) c.channels l v.3
first_is_broken o e c rule v = absurd v

pub none-broken : (o e : Head) (c : ClaimValue) → HeadsAgree o e c → (rule : Difference) → IsBroken o e c rule → ⊥
none-broken o e c agree (differences.UnknownChannel l) b = b.1 (agree.channels.in_original l b.0)
none-broken o e c agree (differences.MissingChannel l) b = b.1 (in-export o e c agree.channels l b.0)
none-broken o e c agree (differences.ExtraChannel l) b = b.unclaimed (claimed-in o e c agree.channels l b.there)
none-broken o e c agree (differences.ChannelText l Transducer) b = let d = b.1 in d.4 (agree.texts l b.0 d.0 d.1 d.2 d.3).0
none-broken o e c agree (differences.ChannelText l Prefilter) b = let d = b.1 in d.4 (agree.texts l b.0 d.0 d.1 d.2 d.3).1
none-broken o e c agree (differences.Calibration l) b = let d = b.1 in d.4 (agree.calibrations l b.0 d.0 d.1 d.2 d.3)
none-broken o e c agree (differences.Subfield which mismatch) b = b.0 (agree.subfields which)
none-broken o e c agree (differences.NotClean Header) b = b (blank-header e agree.blank)
none-broken o e c agree (differences.NotClean (Channel l)) b = let t = b.1 in t.2 (blank-channel e agree.blank l t.0 t.1)
none-broken o e c agree rule b = absurd b

pub nothing_is_broken : (o e : Head) (c : ClaimValue) (found : List Difference) → IsSound o → IsSound e → IsClaim c → AreAllBroken o e c found → (found ≡ []) ↔ HeadsAgree o e c
nothing_is_broken o e c found so se is are = (λ none. agrees none (agree_or_differ o e c so se is), λ agree. empty found (λ rule h. none-broken o e c agree rule ((are rule).0 h)))
  where
    nowhere : found ≡ [] → (v : Verdict) → IsHeadVerdict o e c v → ⊥
    nowhere none (No rule) v = subst (λ (ds : List Difference). Has ds rule) none ((are rule).1 (first_is_broken o e c rule v))
    nowhere none (Yes x s a) v = v

    agrees : found ≡ [] → AgreeOrDiffer o e c → HeadsAgree o e c
    agrees none (inl h) = h
    agrees none (inr r) = absurd (nowhere none r.0 r.1)

    empty : (ds : List Difference) → ((rule : Difference) → Has ds rule → ⊥) → ds ≡ []
    empty [] h = refl
    empty (d ∷ ds) h = absurd (h d (inl refl))
