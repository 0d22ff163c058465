-- What a comparison of two headers holds: the channels of each claimed label, found once; and a difference as the code holds it. These are steps between the definitions and the code.
use Rattle.std.specs.Prelude.{◌≡◌, ◌↔◌, ℕ, ◌==◌, Bool, true, false, not, ◌&&◌, ◌||◌, ◌⊎◌, List, [], ◌∷◌, ◌++◌, length, map, find, slice_get, Option, None, Some, option_map, is_none, MatchOption, ◌*ℤ◌, codes, if◌then◌else◌}
use Rattle.std.specs.Borrow.{Bor}
use Rattle.std.specs.Cmp.Lexicographic.{slice_cmp}
use Rattle.std.specs.List.{All}
use Rattle.std.specs.List.Sorted.{IsSorted, IsPermutation}
use Rattle.std.specs.Option.{option_or}
use Rattle.std.specs.Ordering.{nat_cmp, int_eq}
use Rattle.std.specs.Str.{bytes_eq}
use Rattle.edf_fields.specs.Lists.{Has, is_one_of}
use Rattle.edf_header.specs.signals.Calibrations.{CalibrationValue, physical_span, digital_span, offset_times_span}
use Rattle.edf_header.specs.signals.ChannelsReading.{is_channel_of}
use Rattle.edf_header.specs.signals.Channels.{channel_labels}
use Rattle.edf_header.specs.Heads.{SignalHead, Head, is_annotations}
use Rattle.edf_header.specs.Sound.{IsSound}
use Rattle.edf_claim.specs.Claims.{IsClaim}
use Rattle.edf_claim.specs.ClaimValues.{ClaimValue}
use Rattle.edf_fields.specs.declared.fields.which.Which.{Which}
use Rattle.edf_fields.specs.declared.fields.which.Which.TheVariants.{Code, Sex, Birthdate, Name, PatientExtras, Date, Administration, Technician, Equipment, RecordingExtras}
use Rattle.edf_heads.specs.differences.BlankDifference.{HasFreeText}
use Rattle.edf_heads.specs.Calibrations.{HaveSameCalibration}
use Rattle.edf_heads.specs.Channels.{AllAlike, SameChannels}
use Rattle.edf_heads.specs.ChannelTexts.{HaveSameTexts}
use Rattle.edf_heads.specs.differences.ChannelDifferences.{HasAll, HasNoChannel, IsExtra, IsLeastExtra, AreUnlike}
use Rattle.edf_heads.specs.Firsts.{IsFirstWith}
use Rattle.edf_heads.specs.Subfields.{IsX, IsAsClaimed}
use Rattle.edf_heads.specs.differences.SubfieldDifference.{IsMismatch, IsSubfieldDifference}
use Rattle.edf_heads.specs.differences.TextDifference.{text_in, HaveSameText, IsTextDifference}
use Rattle.edf_heads.specs.HeadVerdicts.{AreAllBroken, HeadsAgree, SignalsAgree, IsHeadVerdict}
use Rattle.edf_heads.specs.declared.channels.ClaimedChannel.{ClaimedChannel}
use Rattle.edf_heads.specs.declared.difference.HeadDifference.{HeadDifference}
use Rattle.edf_heads.specs.declared.difference.HeadDifference.TheVariants as heads
use Rattle.edf_heads.specs.declared.rules.ChannelRule.{ChannelRule}
use Rattle.edf_heads.specs.declared.rules.ChannelRule.TheVariants.{Known, Exported, SameText, Calibrated, Clean}
use Rattle.edf_heads.specs.declared.subfields.SubfieldDifference.{SubfieldDifference}
use Rattle.edf_verdict.specs.declared.verdict.SubfieldMismatch.{SubfieldMismatch}
use Rattle.edf_verdict.specs.declared.verdict.Difference.{Difference}
use Rattle.edf_verdict.specs.declared.verdict.Difference.TheVariants.{UnknownChannel, MissingChannel, ExtraChannel, ChannelText, Calibration, Subfield, NotClean}
use Rattle.edf_verdict.specs.declared.verdict.FreeText.TheVariants.{Header, Channel}
use Rattle.edf_verdict.specs.declared.verdict.Verdict.TheVariants.{No}
use Rattle.edf_verdict.specs.declared.verdict.TextField.{TextField}
use Rattle.edf_verdict.specs.declared.verdict.TextField.TheVariants.{Transducer, Prefilter}

-- the first channel of this label among the signals
abbrev pub channel_of : List ℕ → List SignalHead → Option SignalHead
channel_of label signals = find (is_channel_of label) signals

-- a claimed label, and the channels of this label in the two headers, where there are such
pub record Claimed : Type 0 where
  pub label : List ℕ
  pub original : Option SignalHead
  pub export : Option SignalHead

-- what the code's value says
abbrev pub claimed_view : ClaimedChannel → Claimed
claimed_view c = record { label = c.label.now; original = option_map (λ x. x.now) c.original; export = option_map (λ x. x.now) c.export }

-- a label with its channels
abbrev pub claimed_of : List SignalHead → List SignalHead → List ℕ → Claimed
claimed_of original export label = record { label = label; original = channel_of label original; export = channel_of label export }

-- two headers and a claim
pub record Compared : Type 0 where
  pub original : Head
  pub export : Head
  pub claim : ClaimValue

abbrev pub compared : Head → Head → ClaimValue → Compared
compared original export claim = record { original = original; export = export; claim = claim }

-- the claimed labels, each with its channels in the two headers
abbrev pub AreClaimedOf : Head → Head → List (List ℕ) → List ClaimedChannel → Type 0
AreClaimedOf original export labels claimed = map claimed_view claimed ≡ map (claimed_of original.signals export.signals) labels

-- labels in the order of their bytes, the same as these and each as often
pub record AreSorted (labels : List (List ℕ)) (sorted : List (Bor (List ℕ))) : Type 0 where
  pub order : IsSorted (λ x y. slice_cmp nat_cmp x.now y.now) sorted
  pub all : IsPermutation labels (map (λ t. t.now) sorted)
  pub same : (label : List ℕ) → is_one_of (map (λ t. t.now) sorted) label ≡ is_one_of labels label

-- the label is none of these
abbrev pub IsNoneOf : List (Bor (List ℕ)) → List ℕ → Type 0
IsNoneOf sorted label = Has (map (λ t. t.now) sorted) label → ⊥

-- or it stands at this place
abbrev pub IsPlaceOf : List (Bor (List ℕ)) → List ℕ → ℕ → Type 0
IsPlaceOf sorted label place = slice_get (map (λ t. t.now) sorted) place ≡ Some label

-- what holds of every comparison
pub record IsComparison (original export : Head) (claim : ClaimValue) (claimed : List ClaimedChannel) (labels : List (Bor (List ℕ))) : Type 0 where
  pub original_sound : IsSound original
  pub export_sound : IsSound export
  pub claim_sound : IsClaim claim
  pub claimed_are : map claimed_view claimed ≡ map (claimed_of original.signals export.signals) claim.channels
  pub labels_are : AreSorted claim.channels labels

-- the first text in which two channels differ
abbrev pub text_difference : SignalHead → SignalHead → Option TextField
text_difference x y =
    if bytes_eq x.transducer y.transducer then (if bytes_eq x.prefilter y.prefilter then None else Some Prefilter) else Some Transducer

-- the same where both are there
abbrev pub text_difference_of : Option SignalHead → Option SignalHead → Option TextField
text_difference_of None y = None
text_difference_of (Some x) None = None
text_difference_of (Some x) (Some y) = text_difference x y

-- the first label whose channels differ in a text, with that text
abbrev pub first_text_difference : List Claimed → Option (List ℕ × TextField)
first_text_difference [] = None
first_text_difference (c ∷ cs) =
    option_or (option_map (λ field. (c.label, field)) (text_difference_of c.original c.export)) (first_text_difference cs)

-- the header has no channel whose label is none of these
abbrev pub HasNoExtra : Head → List (List ℕ) → Type 0
HasNoExtra h labels = (label : List ℕ) → IsExtra h labels label → ⊥

-- the least label of such a channel is found, or there is none
abbrev pub IsLeastOrNone : Head → List (List ℕ) → Option (Bor (List ℕ)) → Type 0
IsLeastOrNone h labels found = MatchOption found (HasNoExtra h labels) (λ label. IsLeastExtra h labels label.now)

-- where the header has a channel of each of these labels, its channels have these labels, in some order
abbrev pub HasOnly : Head → List (List ℕ) → Type 0
HasOnly h labels = HasAll h labels → IsPermutation labels (channel_labels h.signals)

-- `SameLine` as a test
abbrev pub is_same_line : CalibrationValue → CalibrationValue → Bool
is_same_line l m =
    int_eq (physical_span l *ℤ digital_span m) (physical_span m *ℤ digital_span l)
    && int_eq (offset_times_span l *ℤ digital_span m) (offset_times_span m *ℤ digital_span l)

-- two channels have another dimension, or another line from digital to physical values
abbrev pub has_other_calibration : SignalHead → SignalHead → Bool
has_other_calibration x y = not (bytes_eq x.dimension y.dimension) || not (is_same_line x.calibration y.calibration)

-- the test of both channels where both are there
abbrev pub of_both : (SignalHead → SignalHead → Bool) → Option SignalHead → Option SignalHead → Bool
of_both test None y = false
of_both test (Some x) None = false
of_both test (Some x) (Some y) = test x y

-- two channels have another text in this field
abbrev pub has_other_text : TextField → SignalHead → SignalHead → Bool
has_other_text field x y = not (bytes_eq (text_in field x) (text_in field y))

-- the channel is there and has free text
abbrev pub has_text : Option SignalHead → Bool
has_text None = false
has_text (Some x) = not (length x.reserved == 0)

-- no claimed channel has free text in the export
abbrev pub HasNoFreeText : Head → ClaimValue → Type 0
HasNoFreeText export claim = (label : List ℕ) → Has claim.channels label → HasFreeText export label → ⊥

-- the channel breaks the rule
abbrev pub breaks : ChannelRule → Claimed → Bool
breaks Known c = is_none c.original
breaks Exported c = is_none c.export
breaks (SameText field) c = of_both (has_other_text field) c.original c.export
breaks Calibrated c = of_both has_other_calibration c.original c.export
breaks Clean c = has_text c.export

-- the first of these labels whose channels break the rule
abbrev pub first_breaking : ChannelRule → List Claimed → Option (List ℕ)
first_breaking rule claimed = option_map (λ c. c.label) (find (breaks rule) claimed)

-- the headers break the rule at this label
abbrev pub Breaks : ChannelRule → Compared → List ℕ → Type 0
Breaks Known c label = HasNoChannel c.original label
Breaks Exported c label = HasNoChannel c.export label
Breaks (SameText field) c label = AreUnlike (HaveSameText field) c.original c.export label
Breaks Calibrated c label = AreUnlike HaveSameCalibration c.original c.export label
Breaks Clean c label = HasFreeText c.export label

-- they keep it at each label of the claim
abbrev pub Keep : ChannelRule → Compared → Type 0
Keep Known c = HasAll c.original c.claim.channels
Keep Exported c = HasAll c.export c.claim.channels
Keep (SameText field) c = AllAlike (HaveSameText field) c.original c.export c.claim
Keep Calibrated c = AllAlike HaveSameCalibration c.original c.export c.claim
Keep Clean c = HasNoFreeText c.export c.claim

-- all rules of a channel, in the order in which they are found at a label
abbrev pub all_rules : List ChannelRule
all_rules = Known ∷ Exported ∷ SameText Transducer ∷ SameText Prefilter ∷ Calibrated ∷ Clean ∷ []

-- the rule as a verdict names it, that is broken at this label
abbrev pub named_at : ChannelRule → List ℕ → Difference
named_at Known label = UnknownChannel label
named_at Exported label = MissingChannel label
named_at (SameText field) label = ChannelText label field
named_at Calibrated label = Calibration label
named_at Clean label = NotClean (Channel label)

-- a rule that is broken, if it is
abbrev pub named_if : Bool → Difference → List Difference
named_if is_broken rule = if is_broken then rule ∷ [] else []

-- those of these rules that the channels of a label break
abbrev pub broken_at : List ChannelRule → Claimed → List Difference
broken_at [] c = []
broken_at (rule ∷ rules) c = named_if (breaks rule c) (named_at rule c.label) ++ broken_at rules c

-- those that the channels of each label break
abbrev pub broken_by : List ChannelRule → List Claimed → List Difference
broken_by rules [] = []
broken_by rules (c ∷ cs) = broken_at rules c ++ broken_by rules cs

-- the channels among the signals whose label is none of these
abbrev pub unclaimed_in : List (List ℕ) → List SignalHead → List Difference
unclaimed_in labels [] = []
unclaimed_in labels (signal ∷ signals) =
    named_if (not (is_annotations signal.label) && not (is_one_of labels signal.label)) (ExtraChannel signal.label) ++ unclaimed_in labels signals

-- the signal is a channel, or has no text but its label
abbrev pub is_blank_signal : SignalHead → Bool
is_blank_signal x =
    not (is_annotations x.label)
    || ((length x.transducer == 0) && ((length x.dimension == 0) && ((length x.prefilter == 0) && (length x.reserved == 0))))

-- `IsX` as a test
abbrev pub is_x : List ℕ → Bool
is_x text = bytes_eq text (codes "X")

-- the lists have the same texts
abbrev pub are_same : List (List ℕ) → List (List ℕ) → Bool
are_same [] [] = true
are_same [] (u ∷ us) = false
are_same (t ∷ ts) [] = false
are_same (t ∷ ts) (u ∷ us) = bytes_eq t u && are_same ts us

-- this subfield is `X` in the header
abbrev pub IsAnonymous : Head → Which → Type 0
IsAnonymous h Code = IsX h.patient.code
IsAnonymous h Sex = IsX h.patient.sex
IsAnonymous h Birthdate = IsX h.patient.birthdate
IsAnonymous h Name = IsX h.patient.name
IsAnonymous h PatientExtras = All IsX h.patient.extras
IsAnonymous h Date = IsX h.recording.date
IsAnonymous h Administration = IsX h.recording.admin
IsAnonymous h Technician = IsX h.recording.technician
IsAnonymous h Equipment = IsX h.recording.equipment
IsAnonymous h RecordingExtras = All IsX h.recording.extras

-- this subfield of the export is the original's
abbrev pub IsUnchanged : Head → Head → Which → Type 0
IsUnchanged original export Code = export.patient.code ≡ original.patient.code
IsUnchanged original export Sex = export.patient.sex ≡ original.patient.sex
IsUnchanged original export Birthdate = export.patient.birthdate ≡ original.patient.birthdate
IsUnchanged original export Name = export.patient.name ≡ original.patient.name
IsUnchanged original export PatientExtras = export.patient.extras ≡ original.patient.extras
IsUnchanged original export Date = IsX export.recording.date ↔ IsX original.recording.date
IsUnchanged original export Administration = export.recording.admin ≡ original.recording.admin
IsUnchanged original export Technician = export.recording.technician ≡ original.recording.technician
IsUnchanged original export Equipment = export.recording.equipment ≡ original.recording.equipment
IsUnchanged original export RecordingExtras = export.recording.extras ≡ original.recording.extras

-- the first of these subfields that isn't as claimed, and how it isn't; or all are as claimed
abbrev pub IsFoundAmong : Head → Head → ClaimValue → List Which → Option SubfieldDifference → Type 0
IsFoundAmong original export claim whiches found =
    MatchOption found ((which : Which) → Has whiches which → IsAsClaimed original export claim which)
    (λ d. IsFirstWith (λ w. IsAsClaimed original export claim w → ⊥) whiches d.which × IsMismatch claim d.which d.mismatch)

-- the difference that the code's value is, in which a label is borrowed
abbrev pub difference_of : HeadDifference → Difference
difference_of (heads.UnknownChannel label) = UnknownChannel label.now
difference_of (heads.MissingChannel label) = MissingChannel label.now
difference_of (heads.ExtraChannel label) = ExtraChannel label.now
difference_of (heads.ChannelText label field) = ChannelText label.now field
difference_of (heads.Calibration label) = Calibration label.now
difference_of (heads.Subfield which mismatch) = Subfield which mismatch
difference_of heads.FreeTextInHeader = NotClean Header
difference_of (heads.FreeTextInChannel label) = NotClean (Channel label.now)

-- it is the first difference of the headers
abbrev pub IsHeadDifference : Head → Head → ClaimValue → HeadDifference → Type 0
IsHeadDifference original export claim difference = IsHeadVerdict original export claim (No (difference_of difference))

-- ---- the same of two headers and a claim that are compared

-- the headers have the same channels
abbrev pub SameChannelsIn : Compared → Type 0
SameChannelsIn c = SameChannels c.original c.export c.claim

-- with the same texts
abbrev pub SameTextsIn : Compared → Type 0
SameTextsIn c = AllAlike HaveSameTexts c.original c.export c.claim

-- or this is the first of these texts that differs
abbrev pub IsTextDifferenceIn : Compared → List ℕ → TextField → Type 0
IsTextDifferenceIn c label field = IsTextDifference c.original c.export c.claim label field

-- they agree up to their calibrations
abbrev pub SignalsAgreeIn : Compared → Type 0
SignalsAgreeIn c = SignalsAgree c.original c.export c.claim

-- the export's header is what the claim says of the original's
abbrev pub HeadsAgreeIn : Compared → Type 0
HeadsAgreeIn c = HeadsAgree c.original c.export c.claim

-- or this is the first difference
abbrev pub IsHeadDifferenceIn : Compared → HeadDifference → Type 0
IsHeadDifferenceIn c difference = IsHeadDifference c.original c.export c.claim difference

-- the channels of the export are the claimed ones, where it has all of these
abbrev pub HasOnlyClaimed : Compared → Type 0
HasOnlyClaimed c = HasOnly c.export c.claim.channels

-- or this is the least label of its other channels
abbrev pub IsLeastUnclaimed : Compared → List ℕ → Type 0
IsLeastUnclaimed c label = IsLeastExtra c.export c.claim.channels label

-- this is the first claimed label at which the headers break the rule
abbrev pub IsFirstBreaking : ChannelRule → Compared → List ℕ → Type 0
IsFirstBreaking rule c label = IsFirstWith (Breaks rule c) c.claim.channels label

-- the subfield is as claimed
abbrev pub IsAsClaimedIn : Compared → Which → Type 0
IsAsClaimedIn c which = IsAsClaimed c.original c.export c.claim which

-- it isn't, and this is how it isn't
abbrev pub IsMismatchIn : Compared → Which → SubfieldMismatch → Type 0
IsMismatchIn c which mismatch = (IsAsClaimedIn c which → ⊥) × IsMismatch c.claim which mismatch

-- all subfields are as claimed
abbrev pub AllAsClaimedIn : Compared → Type 0
AllAsClaimedIn c = (which : Which) → IsAsClaimedIn c which

-- or this is the first one that isn't, and how it isn't
abbrev pub IsSubfieldDifferenceIn : Compared → Which → SubfieldMismatch → Type 0
IsSubfieldDifferenceIn c which mismatch = IsSubfieldDifference c.original c.export c.claim which mismatch

-- ---- all rules that are broken

-- what was found before stands there, and behind it these rules
abbrev pub Appends : List HeadDifference → List HeadDifference → List Difference → Type 0
Appends before after rules = map difference_of after ≡ map difference_of before ++ rules

-- the rules that were found before stand there, and those of which this holds, and no other
abbrev pub Adds : List HeadDifference → List HeadDifference → (Difference → Type 0) → Type 0
Adds before after Holds = (rule : Difference) → Has (map difference_of after) rule ↔ (Has (map difference_of before) rule ⊎ Holds rule)

-- how a subfield isn't as claimed, if it isn't
abbrev pub named_some : Which → Option SubfieldMismatch → List Difference
named_some which None = []
named_some which (Some mismatch) = Subfield which mismatch ∷ []

-- the rule is that of one of these subfields, and is broken
abbrev pub IsBrokenAmong : Compared → List Which → Difference → Type 0
IsBrokenAmong c whiches (Subfield which mismatch) = Has whiches which × IsMismatchIn c which mismatch
IsBrokenAmong c whiches rule = ⊥

-- each rule that is broken was found, and no other
abbrev pub AreAllBrokenIn : Compared → List HeadDifference → Type 0
AreAllBrokenIn c found = AreAllBroken c.original c.export c.claim (map difference_of found)
