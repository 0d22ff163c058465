-- What holds of headers holds of headers that say the same.
use Rattle.std.proofs.Common.{◌≡◌, ◌↔◌, ℕ, List, [], ◌∷◌, inl, inr, ⊎_elim, refl, sym, ◌∙◌, subst}
use Rattle.std.specs.Prelude.{◌<ℤ◌}
use Rattle.std.specs.List.{All}
use Rattle.std.proofs.lemmas.List.Sorted.{IsPermutation-refl, IsPermutation-sym, IsPermutation-trans}
use Rattle.edf_claim.specs.ClaimValues.{ClaimValue}
use Rattle.edf_fields.specs.declared.fields.which.Which.{Which}
use Rattle.edf_fields.specs.declared.fields.which.Which.TheVariants.{PatientExtras, Date, RecordingExtras}
use Rattle.edf_fields.specs.texts.Identifications.{Patient, Recording}
use Rattle.edf_fields.proofs.ForCallers.{has-permutation}
use Rattle.edf_header.specs.signals.Channels.{channel_labels, IsChannelOf}
use Rattle.edf_header.specs.Heads.{SignalHead, Head}
use Rattle.edf_header.specs.Sound.{IsSound}
use Rattle.edf_header.specs.Standard.{IsSoundSignal}
use Rattle.edf_header.proofs.ForCallers.{same_line_is_equivalence}
use Rattle.edf_verdict.specs.declared.verdict.TextField.{TextField}
use Rattle.edf_verdict.specs.declared.verdict.TextField.TheVariants.{Transducer, Prefilter}
use Rattle.edf_heads.specs.differences.BlankDifference.{HasFreeText}
use Rattle.edf_heads.specs.Calibrations.{HaveSameCalibration}
use Rattle.edf_heads.specs.Channels.{SameChannels, AllAlike}
use Rattle.edf_heads.specs.differences.ChannelDifferences.{HasChannel, HasAll, HasNoChannel, IsExtra, AreAlike, AreUnlike, IsFirstUnlike}
use Rattle.edf_heads.specs.Comparisons.{IsAnonymous, IsUnchanged}
use Rattle.edf_heads.specs.Firsts.{IsFirstWith}
use Rattle.edf_heads.specs.SameHeads.{AreSameChannels, AreSameRecordings, AreSameHeads, AreBlankAlike}
use Rattle.edf_heads.specs.Subfields.{IsX, IsAsClaimed}
use Rattle.edf_heads.specs.ChannelTexts.{HaveSameTexts}
use Rattle.edf_heads.specs.differences.TextDifference.{HaveSameText, IsFirstText}
use Rattle.edf_heads.proofs.ChannelFacts.{one-channel}
use Rattle.edf_heads.proofs.HeadFacts.{has-label, label-has}
use Rattle.edf_heads.proofs.ListFacts.{of-all}
use Rattle.edf_heads.proofs.SubfieldFacts.{to-claimed, of-claimed}

-- ---- being the same

same-line-back : (x y : SignalHead) → AreSameChannels x y → AreSameChannels y x
same-line-back x y s = record { transducer = sym s.transducer; dimension = sym s.dimension; prefilter = sym s.prefilter; line = same_line_is_equivalence.1 x.calibration y.calibration s.line }

recordings-back : (r s : Recording) → AreSameRecordings r s → AreSameRecordings s r
recordings-back r s h = record {
  date = ⊎_elim (λ e. inl (sym e)) (λ n. inr (n.1, n.0)) h.date;
  admin = sym h.admin;
  technician = sym h.technician;
  equipment = sym h.equipment;
  extras = sym h.extras;
}

pub same-heads-back : (h g : Head) → AreSameHeads h g → AreSameHeads g h
same-heads-back h g s = record {
  channels = IsPermutation-sym (channel_labels h.signals) (channel_labels g.signals) s.channels;
  alike = λ l x y cx cy. same-line-back y x (s.alike l y x cy cx);
  patient = sym s.patient;
  recording = recordings-back h.recording g.recording s.recording;
}

pub same-heads-self : (h : Head) → IsSound h → AreSameHeads h h
same-heads-self h sound = record {
  channels = IsPermutation-refl (channel_labels h.signals);
  alike = λ l x y cx cy. subst (λ (z : SignalHead). AreSameChannels x z) (one-channel h l x y sound cx cy)
      (record { transducer = refl; dimension = refl; prefilter = refl; line = same_line_is_equivalence.0 x.calibration });
  patient = refl;
  recording = record { date = inl refl; admin = refl; technician = refl; equipment = refl; extras = refl };
}

pub blank-alike-back : (h g : Head) → AreBlankAlike h g → AreBlankAlike g h
blank-alike-back h g b = record {
  header = (b.header.1, b.header.0);
  channels = λ l x y cx cy. let both = b.channels l y x cy cx in (both.1, both.0);
}

pub blank-alike-self : (h : Head) → IsSound h → AreBlankAlike h h
blank-alike-self h sound = record {
  header = (λ b. b, λ b. b);
  channels = λ l x y cx cy. subst (λ (z : SignalHead). (x.reserved ≡ []) ↔ (z.reserved ≡ [])) (one-channel h l x y sound cx cy) (λ e. e, λ e. e);
}

-- ---- channels

pub there : (h g : Head) → AreSameHeads h g → (l : List ℕ) → HasChannel h l → HasChannel g l
there h g s l c = label-has g l (has-permutation (channel_labels h.signals) (channel_labels g.signals) l s.channels (has-label h l c))

sound-channel : (h : Head) (l : List ℕ) (x : SignalHead) → IsSound h → IsChannelOf h l x → (x.calibration).digital_minimum <ℤ (x.calibration).digital_maximum
sound-channel h l x sound c = (of-all IsSoundSignal h.signals sound.standard.signals x c.there).order

-- ---- two headers in place of two others

-- an original and an export, and another original and another export that say the same
pub record AreSamePairs (o e o' e' : Head) : Type 0 where
  pub original : AreSameHeads o o'
  pub export : AreSameHeads e e'
  pub original_sound : IsSound o
  pub export_sound : IsSound e
  pub other_original_sound : IsSound o'
  pub other_export_sound : IsSound e'

pub pairs-back : (o e o' e' : Head) → AreSamePairs o e o' e' → AreSamePairs o' e' o e
pairs-back o e o' e' s = record {
  original = same-heads-back o o' s.original;
  export = same-heads-back e e' s.export;
  original_sound = s.other_original_sound;
  export_sound = s.other_export_sound;
  other_original_sound = s.original_sound;
  other_export_sound = s.export_sound;
}

pub first-carried : {X : Type 0} (P Q : X → Type 0) → ((x : X) → P x → Q x) → ((x : X) → Q x → P x) → (xs : List X) (x : X) → IsFirstWith P xs x → IsFirstWith Q xs x
first-carried P Q there back [] x h = h
first-carried P Q there back (y ∷ ys) x (inl h) = inl (h.0, there y h.1)
first-carried P Q there back (y ∷ ys) x (inr h) = inr ((λ q. h.0 (back y q)), first-carried P Q there back ys x h.1)

-- what holds of a channel of the one and one of the other holds of those in their places
abbrev pub Carries : (SignalHead → SignalHead → Type 0) → Type 0
Carries Alike = (x y x' y' : SignalHead) → (x.calibration).digital_minimum <ℤ (x.calibration).digital_maximum → (y.calibration).digital_minimum <ℤ (y.calibration).digital_maximum → AreSameChannels x x' → AreSameChannels y y' → Alike x y → Alike x' y'

text-carried : (field : TextField) → Carries (HaveSameText field)
text-carried Transducer x y x' y' ex ey s r h = sym s.transducer ∙ h ∙ r.transducer
text-carried Prefilter x y x' y' ex ey s r h = sym s.prefilter ∙ h ∙ r.prefilter

pub texts-carried : Carries HaveSameTexts
texts-carried x y x' y' ex ey s r h = (text-carried Transducer x y x' y' ex ey s r h.0, text-carried Prefilter x y x' y' ex ey s r h.1)

pub calibration-carried : Carries HaveSameCalibration
calibration-carried x y x' y' ex ey s r h =
    let through = same_line_is_equivalence.2 in
    record {
      dimension = sym s.dimension ∙ h.dimension ∙ r.dimension;
      line = through x'.calibration x.calibration y'.calibration ex (same_line_is_equivalence.1 x.calibration x'.calibration s.line)
          (through x.calibration y.calibration y'.calibration ey h.line r.line);
    }

alike-carried : (Alike : SignalHead → SignalHead → Type 0) → Carries Alike → (o e o' e' : Head) → AreSamePairs o e o' e' → (l : List ℕ) → AreAlike Alike o e l → AreAlike Alike o' e' l
alike-carried Alike carries o e o' e' s l a x' y' cx' cy' =
    let c = there o' o (same-heads-back o o' s.original) l (x', cx') in
    let d = there e' e (same-heads-back e e' s.export) l (y', cy') in
    carries c.0 d.0 x' y' (sound-channel o l c.0 s.original_sound c.1) (sound-channel e l d.0 s.export_sound d.1)
    (s.original.alike l c.0 x' c.1 cx') (s.export.alike l d.0 y' d.1 cy') (a c.0 d.0 c.1 d.1)

unlike-carried : (Alike : SignalHead → SignalHead → Type 0) → Carries Alike → (o e o' e' : Head) → AreSamePairs o e o' e' → (l : List ℕ) → AreUnlike Alike o e l → AreUnlike Alike o' e' l
unlike-carried Alike carries o e o' e' s l u =
    let x = u.0 in
    let y = u.1 in
    let c = there o o' s.original l (x, u.2) in
    let d = there e e' s.export l (y, u.3) in (
      c.0,
      d.0,
      c.1,
      d.1,
      λ h. u.4 (carries c.0 d.0 x y (sound-channel o' l c.0 s.other_original_sound c.1) (sound-channel e' l d.0 s.other_export_sound d.1)
          (same-line-back x c.0 (s.original.alike l x c.0 u.2 c.1)) (same-line-back y d.0 (s.export.alike l y d.0 u.3 d.1)) h),
    )

pub first-unlike-carried : (Alike : SignalHead → SignalHead → Type 0) → Carries Alike → (o e o' e' : Head) → AreSamePairs o e o' e' → (c : ClaimValue) (l : List ℕ) → IsFirstUnlike Alike o e c l → IsFirstUnlike Alike o' e' c l
first-unlike-carried Alike carries o e o' e' s c l h =
    first-carried (AreUnlike Alike o e) (AreUnlike Alike o' e') (unlike-carried Alike carries o e o' e' s) (unlike-carried Alike carries o' e' o e (pairs-back o e o' e' s)) c.channels l h

pub all-alike-carried : (Alike : SignalHead → SignalHead → Type 0) → Carries Alike → (o e o' e' : Head) → AreSamePairs o e o' e' → (c : ClaimValue) → AllAlike Alike o e c → AllAlike Alike o' e' c
all-alike-carried Alike carries o e o' e' s c all l i = alike-carried Alike carries o e o' e' s l (all l i)

pub all-there : (h g : Head) → AreSameHeads h g → (ls : List (List ℕ)) → HasAll h ls → HasAll g ls
all-there h g s ls all l i = there h g s l (all l i)

pub same-channels-carried : (o e o' e' : Head) → AreSamePairs o e o' e' → (c : ClaimValue) → SameChannels o e c → SameChannels o' e' c
same-channels-carried o e o' e' s c h = record {
  in_original = all-there o o' s.original c.channels h.in_original;
  in_export = IsPermutation-trans c.channels (channel_labels e.signals) (channel_labels e'.signals) h.in_export s.export.channels;
}

pub first-nowhere-carried : (h g : Head) → AreSameHeads h g → (ls : List (List ℕ)) (l : List ℕ) → IsFirstWith (HasNoChannel h) ls l → IsFirstWith (HasNoChannel g) ls l
first-nowhere-carried h g s ls l first =
    first-carried (HasNoChannel h) (HasNoChannel g) (λ m none c. none (there g h (same-heads-back h g s) m c)) (λ m none c. none (there h g s m c)) ls l first

pub extra-carried : (h g : Head) → AreSameHeads h g → (ls : List (List ℕ)) (l : List ℕ) → IsExtra h ls l → IsExtra g ls l
extra-carried h g s ls l x = record { there = there h g s l x.there; unclaimed = x.unclaimed }

-- ---- subfields

x-carried : (r s : Recording) → AreSameRecordings r s → IsX r.date → IsX s.date
x-carried r s h x = ⊎_elim (λ e. sym e ∙ x) (λ n. absurd (n.0 x)) h.date

anonymous-carried : (e e' : Head) → AreSameHeads e e' → (w : Which) → IsAnonymous e w → IsAnonymous e' w
anonymous-carried e e' s Date h = x-carried e.recording e'.recording s.recording h
anonymous-carried e e' s PatientExtras h = subst (λ (p : Patient). All IsX p.extras) s.patient h
anonymous-carried e e' s RecordingExtras h = subst (All IsX) s.recording.extras h
anonymous-carried e e' s w h = cc

unchanged-carried : (o e o' e' : Head) → AreSameHeads o o' → AreSameHeads e e' → (w : Which) → IsUnchanged o e w → IsUnchanged o' e' w
unchanged-carried o e o' e' s r Date h = (
  λ x. x-carried o.recording o'.recording s.recording (h.0 (x-carried e'.recording e.recording (recordings-back e.recording e'.recording r.recording) x)),
  λ x. x-carried e.recording e'.recording r.recording (h.1 (x-carried o'.recording o.recording (recordings-back o.recording o'.recording s.recording) x)),
)
unchanged-carried o e o' e' s r w h = cc

pub claimed-carried : (o e o' e' : Head) → AreSamePairs o e o' e' → (c : ClaimValue) (w : Which) → IsAsClaimed o e c w → IsAsClaimed o' e' c w
claimed-carried o e o' e' s c w h =
    let by = of-claimed o e c w h in
    to-claimed o' e' c w (record { claimed = λ i. anonymous-carried e e' s.export w (by.claimed i); unclaimed = λ n. unchanged-carried o e o' e' s.original s.export w (by.unclaimed n) })

-- ---- free text

pub free-carried : (h g : Head) → AreSameHeads h g → AreBlankAlike h g → (l : List ℕ) → HasFreeText h l → HasFreeText g l
free-carried h g s b l f =
    let c = there h g s l (f.0, f.1) in
    (c.0, c.1, λ e. f.2 ((b.channels l f.0 c.0 f.1 c.1).1 e))

-- ---- the first text that differs

pub text-first-carried : (o e o' e' : Head) → AreSamePairs o e o' e' → (l : List ℕ) (field : TextField) → IsFirstText o e l field → IsFirstText o' e' l field
text-first-carried o e o' e' s l Transducer h = unlike-carried (HaveSameText Transducer) (text-carried Transducer) o e o' e' s l h
text-first-carried o e o' e' s l Prefilter h = (
  alike-carried (HaveSameText Transducer) (text-carried Transducer) o e o' e' s l h.0,
  unlike-carried (HaveSameText Prefilter) (text-carried Prefilter) o e o' e' s l h.1,
)
