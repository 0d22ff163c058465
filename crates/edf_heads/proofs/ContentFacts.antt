-- The texts, the calibrations and the free text of the channels, in words.
use Rattle.std.proofs.Common.{◌≡◌, ◌↔◌, ℕ, suc, ◌==◌, ◌*ℤ◌, Bool, true, false, cond, not, ◌&&◌, ◌||◌, IsTrue, List, [], ◌∷◌, length, map, find, Bor, Option, Some, None, option_map, MatchOption, inl, inr, ⊎_elim, refl, sym, ap, ◌∙◌, subst, arith}
use Rattle.std.specs.List.{list_all}
use Rattle.std.specs.Option.{option_or}
use Rattle.std.specs.Str.{bytes_eq}
use Rattle.std.specs.Bool.{Decides}
use Rattle.std.specs.Ordering.{int_eq}
use Rattle.std.proofs.lemmas.Bool.Decides.{Decides-and, Decides-eqb, Decides-int_eq, same_from_decides}
use Rattle.std.proofs.lemmas.Slice.Eq.{bytes_eq-Decides}
use Rattle.edf_fields.specs.Lists.{Has}
use Rattle.edf_fields.proofs.ForCallers.{and-true, both-true}
use Rattle.edf_header.specs.signals.Calibrations.{CalibrationValue, SameLine, physical_span, digital_span, offset_times_span}
use Rattle.edf_header.specs.Heads.{SignalHead, Head, is_annotations}
use Rattle.edf_header.specs.Sound.{IsSound}
use Rattle.edf_claim.specs.ClaimValues.{ClaimValue}
use Rattle.edf_heads.specs.Blank.{HasNoTexts}
use Rattle.edf_heads.specs.differences.BlankDifference.{IsBlankHeader, HasFreeText, IsFirstWithFreeText}
use Rattle.edf_heads.specs.Calibrations.{HaveSameCalibration}
use Rattle.edf_heads.specs.Channels.{AllAlike}
use Rattle.edf_heads.specs.differences.ChannelDifferences.{AreAlike, AreUnlike, IsFirstUnlike}
use Rattle.edf_heads.specs.Comparisons.{channel_of, claimed_of, claimed_view, IsComparison, text_difference_of, first_text_difference, is_same_line, has_other_calibration, has_other_text, of_both, has_text, HasNoFreeText, is_blank_signal}
use Rattle.edf_heads.specs.Firsts.{IsFirstWith}
use Rattle.edf_heads.specs.ChannelTexts.{HaveSameTexts}
use Rattle.edf_heads.specs.differences.TextDifference.{text_in, HaveSameText, IsFirstText, IsTextDifference}
use Rattle.edf_heads.specs.declared.channels.ClaimedChannel.{ClaimedChannel}
use Rattle.edf_heads.specs.declared.channel_texts.TextDifference.{TextDifference}
use Rattle.edf_verdict.specs.declared.verdict.TextField.{TextField}
use Rattle.edf_verdict.specs.declared.verdict.TextField.TheVariants.{Transducer, Prefilter}
use Rattle.edf_heads.proofs.ChannelFacts.{one-channel, channel-some, channel-none, channel-is}
use Rattle.edf_heads.proofs.ListFacts.{first-found}

-- ---- the two channels of a label

pub alike-differ : (Alike : SignalHead → SignalHead → Type 0) (o e : Head) (l : List ℕ) → AreAlike Alike o e l → AreUnlike Alike o e l → ⊥
alike-differ Alike o e l a d = d.4 (a d.0 d.1 d.2 d.3)

both-alike : (Alike : SignalHead → SignalHead → Type 0) (o e : Head) (l : List ℕ) (x y : SignalHead) → IsSound o → IsSound e → channel_of l o.signals ≡ Some x → channel_of l e.signals ≡ Some y → Alike x y → AreAlike Alike o e l
both-alike Alike o e l x y so se there here h u v c d =
    subst (λ (w : SignalHead). Alike w v) (one-channel o l x u so (channel-some o l x there) c) (subst (λ (w : SignalHead). Alike x w) (one-channel e l y v se (channel-some e l y here) d) h)

both-differ : (Alike : SignalHead → SignalHead → Type 0) (o e : Head) (l : List ℕ) (x y : SignalHead) → channel_of l o.signals ≡ Some x → channel_of l e.signals ≡ Some y → (Alike x y → ⊥) → AreUnlike Alike o e l
both-differ Alike o e l x y there here h = (x, y, channel-some o l x there, channel-some e l y here, h)

not-left : (Alike : SignalHead → SignalHead → Type 0) (o e : Head) (l : List ℕ) → channel_of l o.signals ≡ None → AreAlike Alike o e l
not-left Alike o e l none u v c d = absurd (channel-none o l none (u, c))

not-right : (Alike : SignalHead → SignalHead → Type 0) (o e : Head) (l : List ℕ) → channel_of l e.signals ≡ None → AreAlike Alike o e l
not-right Alike o e l none u v c d = absurd (channel-none e l none (v, d))

pub differ-tested : (Alike : SignalHead → SignalHead → Type 0) (test : SignalHead → SignalHead → Bool) (o e : Head) (l : List ℕ) → ((x y : SignalHead) → test x y ≡ true → Alike x y → ⊥)
    → of_both test (channel_of l o.signals) (channel_of l e.signals) ≡ true → AreUnlike Alike o e l
differ-tested Alike test o e l unlike t = tested-case (channel_of l o.signals) (channel_of l e.signals) refl refl t
  where
    tested-case : (p q : Option SignalHead) → channel_of l o.signals ≡ p → channel_of l e.signals ≡ q → of_both test p q ≡ true → AreUnlike Alike o e l
    tested-case None q there here t = absurd (let f : false ≡ true = t in cc)
    tested-case (Some x) None there here t = absurd (let f : false ≡ true = t in cc)
    tested-case (Some x) (Some y) there here t = both-differ Alike o e l x y there here (unlike x y t)

pub alike-tested : (Alike : SignalHead → SignalHead → Type 0) (test : SignalHead → SignalHead → Bool) (o e : Head) (l : List ℕ) → IsSound o → IsSound e → ((x y : SignalHead) → test x y ≡ false → Alike x y)
    → of_both test (channel_of l o.signals) (channel_of l e.signals) ≡ false → AreAlike Alike o e l
alike-tested Alike test o e l so se alike f = tested-case (channel_of l o.signals) (channel_of l e.signals) refl refl f
  where
    tested-case : (p q : Option SignalHead) → channel_of l o.signals ≡ p → channel_of l e.signals ≡ q → of_both test p q ≡ false → AreAlike Alike o e l
    tested-case None q there here f = not-left Alike o e l there
    tested-case (Some x) None there here f = not-right Alike o e l here
    tested-case (Some x) (Some y) there here f = both-alike Alike o e l x y so se there here (alike x y f)

-- ---- texts

other-bytes : (x y : List ℕ) → bytes_eq x y ≡ false → x ≡ y → ⊥
other-bytes x y f e = let g : true ≡ false = sym ((bytes_eq-Decides x y).1 e) ∙ f in cc

text-case : (o e : Head) (l : List ℕ) → IsSound o → IsSound e → (p q : Option SignalHead) → channel_of l o.signals ≡ p → channel_of l e.signals ≡ q
    → MatchOption (text_difference_of p q) (AreAlike HaveSameTexts o e l) (λ field. AreUnlike HaveSameTexts o e l × IsFirstText o e l field)
text-case o e l so se None q there here = not-left HaveSameTexts o e l there
text-case o e l so se (Some x) None there here = not-right HaveSameTexts o e l here
text-case o e l so se (Some x) (Some y) there here = field-case (bytes_eq x.transducer y.transducer) refl (bytes_eq x.prefilter y.prefilter) refl
  where
    field-case : (b : Bool) → bytes_eq x.transducer y.transducer ≡ b → (d : Bool) → bytes_eq x.prefilter y.prefilter ≡ d
        → MatchOption (cond b (cond d None (Some Prefilter)) (Some Transducer)) (AreAlike HaveSameTexts o e l) (λ field. AreUnlike HaveSameTexts o e l × IsFirstText o e l field)
    field-case true t true u = both-alike HaveSameTexts o e l x y so se there here ((bytes_eq-Decides x.transducer y.transducer).0 t, (bytes_eq-Decides x.prefilter y.prefilter).0 u)
    field-case true t false u = (
      both-differ HaveSameTexts o e l x y there here (λ h. other-bytes x.prefilter y.prefilter u h.1),
      (
        both-alike (HaveSameText Transducer) o e l x y so se there here ((bytes_eq-Decides x.transducer y.transducer).0 t),
        both-differ (HaveSameText Prefilter) o e l x y there here (other-bytes x.prefilter y.prefilter u),
      ),
    )
    field-case false t d u = (
      both-differ HaveSameTexts o e l x y there here (λ h. other-bytes x.transducer y.transducer t h.0),
      both-differ (HaveSameText Transducer) o e l x y there here (other-bytes x.transducer y.transducer t),
    )

-- what is said of the first of these labels whose channels differ in a text
abbrev pub TextsOf : Head → Head → List (List ℕ) → Option (List ℕ × TextField) → Type 0
TextsOf o e labels found =
    MatchOption found ((l : List ℕ) → Has labels l → AreAlike HaveSameTexts o e l) (λ d. IsFirstWith (AreUnlike HaveSameTexts o e) labels d.0 × IsFirstText o e d.0 d.1)

pub texts-found : (o e : Head) → IsSound o → IsSound e → (labels : List (List ℕ)) → TextsOf o e labels (first_text_difference (map (claimed_of o.signals e.signals) labels))
texts-found o e so se [] = λ l h. absurd h
texts-found o e so se (l ∷ ls) =
    step (text_difference_of (channel_of l o.signals) (channel_of l e.signals)) (text-case o e l so se (channel_of l o.signals) (channel_of l e.signals) refl refl)
    (first_text_difference (map (claimed_of o.signals e.signals) ls)) (texts-found o e so se ls)
  where
    step : (t : Option TextField) → MatchOption t (AreAlike HaveSameTexts o e l) (λ field. AreUnlike HaveSameTexts o e l × IsFirstText o e l field)
        → (rest : Option (List ℕ × TextField)) → TextsOf o e ls rest → TextsOf o e (l ∷ ls) (option_or (option_map (λ field. (l, field)) t) rest)
    step None here None rest = λ m there. ⊎_elim (λ q. subst (λ (k : List ℕ). AreAlike HaveSameTexts o e k) q here) (λ i. rest m i) there
    step None here (Some d) rest = (inr ((λ h. alike-differ HaveSameTexts o e l here h), rest.0), rest.1)
    step (Some field) here rest said = (inl (refl, here.0), here.1)

pub texts_said : (o e : Head) (claim : ClaimValue) (claimed : List ClaimedChannel) (labels : List (Bor (List ℕ))) (seen : List ClaimedChannel) (r : Option TextDifference) → IsComparison o e claim claimed labels → seen ≡ claimed
    → option_map (λ (d : TextDifference). (d.label.now, d.field)) r ≡ first_text_difference (map claimed_view seen)
    → MatchOption r (AllAlike HaveSameTexts o e claim) (λ d. IsTextDifference o e claim d.label.now d.field)
texts_said o e claim claimed labels seen r is all found =
    said-case r (first_text_difference (map (claimed_of o.signals e.signals) claim.channels)) (found ∙ ap first_text_difference (ap (map claimed_view) all ∙ is.claimed_are)) (texts-found o e is.original_sound is.export_sound claim.channels)
  where
    said-case : (r : Option TextDifference) (f : Option (List ℕ × TextField)) → option_map (λ (d : TextDifference). (d.label.now, d.field)) r ≡ f → TextsOf o e claim.channels f
        → MatchOption r (AllAlike HaveSameTexts o e claim) (λ d. IsTextDifference o e claim d.label.now d.field)
    said-case None None e h = h
    said-case None (Some x) e h = absurd (let f : None ≡ Some x = e in cc)
    said-case (Some d) None e h = absurd (let f : Some (d.label.now, d.field) ≡ None = e in cc)
    said-case (Some d) (Some x) q h =
        let same : (d.label.now, d.field) ≡ x = (let f : Some (d.label.now, d.field) ≡ Some x = q in cc) in
        let back = subst (λ (p : List ℕ × TextField). IsFirstWith (AreUnlike HaveSameTexts o e) claim.channels p.0 × IsFirstText o e p.0 p.1) (sym same) h in
        record { channel = back.0; text = back.1 }

-- ---- free text

pub untrue : (b : Bool) → not b ≡ false → b ≡ true
untrue true e = refl
untrue false e = absurd (let f : true ≡ false = e in cc)

empty-is : (xs : List ℕ) → (length xs == 0) ≡ true → xs ≡ []
empty-is [] h = refl
empty-is (x ∷ xs) h = absurd (let e : suc (length xs) ≡ 0 = (Decides-eqb (suc (length xs)) 0).0 h in omega (arith, e))

pub text-there : (e : Head) (l : List ℕ) → has_text (channel_of l e.signals) ≡ true → HasFreeText e l
text-there e l t = there-case (channel_of l e.signals) refl t
  where
    there-case : (p : Option SignalHead) → channel_of l e.signals ≡ p → has_text p ≡ true → HasFreeText e l
    there-case None q t = absurd (let f : false ≡ true = t in cc)
    there-case (Some x) q t = (x, channel-some e l x q, λ none. let f : false ≡ true = sym (ap (λ (xs : List ℕ). not (length xs == 0)) none) ∙ t in cc)

pub no-text : (e : Head) (l : List ℕ) → IsSound e → has_text (channel_of l e.signals) ≡ false → HasFreeText e l → ⊥
no-text e l se f h =
    let g : not (length (h.0).reserved == 0) ≡ false = sym (ap has_text (channel-is e l h.0 se h.1)) ∙ f in
    h.2 (empty-is (h.0).reserved (untrue (length (h.0).reserved == 0) g))

pub free-found : (e : Head) (claim : ClaimValue) → IsSound e → MatchOption (find (λ l. has_text (channel_of l e.signals)) claim.channels) (HasNoFreeText e claim) (IsFirstWithFreeText e claim)
free-found e claim se =
    first-found (λ l. has_text (channel_of l e.signals)) (HasFreeText e) (λ l. HasFreeText e l → ⊥) claim.channels
    (λ l there t. text-there e l t) (λ l there f. no-text e l se f) (λ l none h. none h)

is-empty : (xs : List ℕ) → Decides (length xs == 0) (xs ≡ [])
is-empty xs = (empty-is xs, λ e. ap (λ (ys : List ℕ). length ys == 0) e)

no-texts : (x : SignalHead) → Decides ((length x.transducer == 0) && ((length x.dimension == 0) && ((length x.prefilter == 0) && (length x.reserved == 0))))
    ((x.transducer ≡ []) × ((x.dimension ≡ []) × ((x.prefilter ≡ []) × (x.reserved ≡ []))))
no-texts x =
    Decides-and (length x.transducer == 0) _ (is-empty x.transducer)
    (Decides-and (length x.dimension == 0) _ (is-empty x.dimension) (Decides-and (length x.prefilter == 0) _ (is-empty x.prefilter) (is-empty x.reserved)))

blank-signal : (x : SignalHead) → is_blank_signal x ≡ true → is_annotations x.label ≡ true → HasNoTexts x
blank-signal x h a =
    let t = (no-texts x).0 (ap (λ b. not b || ((length x.transducer == 0) && ((length x.dimension == 0) && ((length x.prefilter == 0) && (length x.reserved == 0))))) (sym a) ∙ h) in
    record { transducer = t.0; dimension = (t.1).0; prefilter = ((t.1).1).0; reserved = ((t.1).1).1 }

signal-blank : (x : SignalHead) → (IsTrue (is_annotations x.label) → HasNoTexts x) → is_blank_signal x ≡ true
signal-blank x h = blank-case (is_annotations x.label) h
  where
    blank-case : (b : Bool) → (IsTrue b → HasNoTexts x) → (not b || ((length x.transducer == 0) && ((length x.dimension == 0) && ((length x.prefilter == 0) && (length x.reserved == 0))))) ≡ true
    blank-case false h = refl
    blank-case true h = let n = h refl in (no-texts x).1 (n.transducer, (n.dimension, (n.prefilter, n.reserved)))

all-blank : (xs : List SignalHead) → list_all is_blank_signal xs ≡ true → (x : SignalHead) → Has xs x → is_blank_signal x ≡ true
all-blank [] h x there = absurd there
all-blank (z ∷ zs) h x there =
    let both = and-true (is_blank_signal z) (list_all is_blank_signal zs) h in
    ⊎_elim (λ e. let P : SignalHead → Type 0 = λ y. is_blank_signal y ≡ true in subst P e both.0) (λ i. all-blank zs both.1 x i) there

blank-all : (xs : List SignalHead) → ((x : SignalHead) → Has xs x → is_blank_signal x ≡ true) → list_all is_blank_signal xs ≡ true
blank-all [] h = refl
blank-all (z ∷ zs) h = both-true (is_blank_signal z) (list_all is_blank_signal zs) (h z (inl refl)) (blank-all zs (λ x i. h x (inr i)))

pub blank_decided : (h : Head) (b : Bool) → b ≡ ((length h.free == 0) && list_all is_blank_signal h.signals) → IsTrue b ↔ IsBlankHeader h
blank_decided h b is = (
  λ t.
      let both = and-true (length h.free == 0) (list_all is_blank_signal h.signals) (sym is ∙ t) in
      record { free = empty-is h.free both.0; annotations = λ x there a. blank-signal x (all-blank h.signals both.1 x there) a },
  λ blank.
      is
      ∙ both-true (length h.free == 0) (list_all is_blank_signal h.signals) (ap (λ (ys : List ℕ). length ys == 0) blank.free)
      (blank-all h.signals (λ x there. signal-blank x (λ a. blank.annotations x there a))),
)

-- ---- calibrations

line-decided : (l m : CalibrationValue) → Decides (is_same_line l m) (SameLine l m)
line-decided l m =
    Decides-and (int_eq (physical_span l *ℤ digital_span m) (physical_span m *ℤ digital_span l)) (int_eq (offset_times_span l *ℤ digital_span m) (offset_times_span m *ℤ digital_span l))
    (Decides-int_eq (physical_span l *ℤ digital_span m) (physical_span m *ℤ digital_span l)) (Decides-int_eq (offset_times_span l *ℤ digital_span m) (offset_times_span m *ℤ digital_span l))

pub line_tested : (l m : CalibrationValue) (b : Bool) → IsTrue b ↔ SameLine l m → b ≡ is_same_line l m
line_tested l m b h = same_from_decides b (is_same_line l m) (h.0, h.1) (line-decided l m)

calibration-decided : (x y : SignalHead) → Decides (bytes_eq x.dimension y.dimension && is_same_line x.calibration y.calibration) ((x.dimension ≡ y.dimension) × SameLine x.calibration y.calibration)
calibration-decided x y =
    Decides-and (bytes_eq x.dimension y.dimension) (is_same_line x.calibration y.calibration) (bytes_eq-Decides x.dimension y.dimension) (line-decided x.calibration y.calibration)

either-not : (a b : Bool) → (not a || not b) ≡ not (a && b)
either-not true b = refl
either-not false b = refl

pub other-calibration : (x y : SignalHead) → has_other_calibration x y ≡ true → HaveSameCalibration x y → ⊥
other-calibration x y t h =
    let same = (calibration-decided x y).1 (h.dimension, h.line) in
    let f : true ≡ false = sym t ∙ either-not (bytes_eq x.dimension y.dimension) (is_same_line x.calibration y.calibration) ∙ ap not same in
    cc

pub same-calibration : (x y : SignalHead) → has_other_calibration x y ≡ false → HaveSameCalibration x y
same-calibration x y f =
    let test = bytes_eq x.dimension y.dimension && is_same_line x.calibration y.calibration in
    let both = (calibration-decided x y).0 (untrue test (sym (either-not (bytes_eq x.dimension y.dimension) (is_same_line x.calibration y.calibration)) ∙ f)) in
    record { dimension = both.0; line = both.1 }

pub calibrations-found : (o e : Head) (claim : ClaimValue) → IsSound o → IsSound e
    → MatchOption (find (λ l. of_both has_other_calibration (channel_of l o.signals) (channel_of l e.signals)) claim.channels) (AllAlike HaveSameCalibration o e claim) (IsFirstUnlike HaveSameCalibration o e claim)
calibrations-found o e claim so se =
    first-found (λ l. of_both has_other_calibration (channel_of l o.signals) (channel_of l e.signals)) (AreUnlike HaveSameCalibration o e) (AreAlike HaveSameCalibration o e) claim.channels
    (λ l there t. differ-tested HaveSameCalibration has_other_calibration o e l other-calibration t)
    (λ l there f. alike-tested HaveSameCalibration has_other_calibration o e l so se same-calibration f)
    (λ l a d. alike-differ HaveSameCalibration o e l a d)

-- ---- a text of one field

pub other-text : (field : TextField) (x y : SignalHead) → has_other_text field x y ≡ true → HaveSameText field x y → ⊥
other-text field x y t same = let f : true ≡ false = sym t ∙ ap not ((bytes_eq-Decides (text_in field x) (text_in field y)).1 same) in cc

pub same-text : (field : TextField) (x y : SignalHead) → has_other_text field x y ≡ false → HaveSameText field x y
same-text field x y f = (bytes_eq-Decides (text_in field x) (text_in field y)).0 (untrue (bytes_eq (text_in field x) (text_in field y)) f)

pub one-text-found : (field : TextField) (o e : Head) (claim : ClaimValue) → IsSound o → IsSound e
    → MatchOption (find (λ l. of_both (has_other_text field) (channel_of l o.signals) (channel_of l e.signals)) claim.channels) (AllAlike (HaveSameText field) o e claim) (IsFirstUnlike (HaveSameText field) o e claim)
one-text-found field o e claim so se =
    first-found (λ l. of_both (has_other_text field) (channel_of l o.signals) (channel_of l e.signals)) (AreUnlike (HaveSameText field) o e) (AreAlike (HaveSameText field) o e) claim.channels
    (λ l there t. differ-tested (HaveSameText field) (has_other_text field) o e l (other-text field) t)
    (λ l there f. alike-tested (HaveSameText field) (has_other_text field) o e l so se (same-text field) f)
    (λ l a d. alike-differ (HaveSameText field) o e l a d)
