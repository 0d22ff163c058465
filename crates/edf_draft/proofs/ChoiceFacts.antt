-- Which of two drafts is given, and what is said of its shift.
use Rattle.std.proofs.Common.{◌≡◌, inl, inr, refl, ℤ, List, ℕ, Option, None, Some, IfSome, IsTrue, subst, sym}
use Rattle.edf_header.specs.Heads.{Head}
use Rattle.edf_verdict.specs.declared.verdict.Verdict.{Verdict}
use Rattle.edf_draft.specs.Answers.{IsShiftBetween, IsTextOf}
use Rattle.edf_draft.specs.Better.{is_taken}
use Rattle.edf_draft.specs.Choices.{IsChosen, IsGiven, IsOneOf, verdict_with}
use Rattle.edf_draft.specs.Drafts.{IsDraftFor, IsMoved, IsNoWorse, IsVerdictByDays}
use Rattle.edf_draft.specs.FirstLines.{Anew, IsTried, IsTrueOfYes}
use Rattle.edf_draft.specs.Tries.{IsTriedDraft}
use Rattle.edf_draft.specs.Exported.{heads_of}
use Rattle.edf_draft.specs.declared.exported.Exported.{Exported}
use Rattle.edf_recording.specs.declared.recorded.Recorded.{Recorded}
use Rattle.edf_draft.specs.declared.tries.tried.Tried.{Tried}

-- what holds of both of two drafts holds of the one that is taken
pub one_holds : (P : Tried → Type 0) (best : Option Tried) (tried result : Tried) → IfSome best P → P tried → IsOneOf best tried result → P result
one_holds P best tried result first second (inl is) = subst P (sym is) second
one_holds P best tried result first second (inr is) = subst (λ b. IfSome b P) is first

-- a draft of a shift is one of its claim's shift
of_its_shift : (o : Head) (e : List Head) (shift : ℤ) (claim : _) → IsDraftFor o e shift claim → IsDraftFor o e claim.shift claim
of_its_shift o e shift claim drafts = record { channels = drafts.channels; anonymous = drafts.anonymous; moved = refl; no_prefix = drafts.no_prefix }

-- the verdict with a draft by days is one with such a draft
verdict_by_days : (again : Anew) (o : Head) (e : List Head) (ByDays : ℤ → Type 0) (shift : ℤ) (tried : Tried) (verdict : Option Verdict) → ByDays shift
    → IsTriedDraft again o e shift tried → IfSome verdict (IsTried again tried.text.items) → IfSome verdict (IsVerdictByDays again o e ByDays)
verdict_by_days again o e ByDays shift tried None told draft said = tt
verdict_by_days again o e ByDays shift tried (Some verdict) told draft said = record {
  text = tried.text.items;
  claim = draft.claim;
  says = (draft.tries).says;
  drafts = of_its_shift o e shift draft.claim draft.drafts;
  moved = subst ByDays (sym (draft.drafts).moved) told;
  said = said;
}

days_there : (again : Anew) (o : Head) (e : List Head) (ByDays : ℤ → Type 0) (shift : ℤ) (days : Option Tried) → ByDays shift → IfSome days (IsTriedDraft again o e shift)
    → IfSome (verdict_with days) (IsVerdictByDays again o e ByDays)
days_there again o e ByDays shift None told drafts = tt
days_there again o e ByDays shift (Some tried) told draft = verdict_by_days again o e ByDays shift tried tried.verdict told draft (draft.tries).said

no_worse : (again : Anew) (o : Head) (e : List Head) (ByDays : ℤ → Type 0) (text : List ℕ) (days verdict : Option Verdict)
    → IfSome days (IsVerdictByDays again o e ByDays) → IfSome verdict (IsTried again text) → IsTrue (is_taken days verdict) → IsNoWorse again o e ByDays text
no_worse again o e ByDays text None None by_days said taken = absurd cc
no_worse again o e ByDays text (Some other) None by_days said taken = absurd cc
no_worse again o e ByDays text days (Some verdict) by_days said taken = record { by_days = days; days = by_days; verdict = verdict; said = said; taken = taken }

-- a draft by days is one that may be given
pub days_chosen : (days samples : Option Tried) → IfSome days (IsChosen days samples)
days_chosen None samples = tt
days_chosen (Some tried) samples = inl refl

text_of : (again : Anew) (o : Recorded) (e : Exported) (shift : ℤ) (tried : Tried) → IsTriedDraft again (o.reader).head (heads_of e) shift tried
    → ((s : ℤ) → s ≡ shift → IsMoved again (o.reader).head (heads_of e) (IsShiftBetween o e) tried.text.items s)
    → IsTextOf again o e tried.text.items
text_of again o e shift tried draft moved = record {
  claim = draft.claim;
  says = (draft.tries).says;
  drafts = of_its_shift (o.reader).head (heads_of e) shift draft.claim draft.drafts;
  moved = moved (draft.claim).shift (draft.drafts).moved;
}

-- what is chosen of two drafts is given
pub chosen_given : (again : Anew) (o : Head) (e : List Head) (shift : ℤ) (days samples tried : Option Tried) → IfSome days (IsTriedDraft again o e shift)
    → IfSome samples (λ draft. (other : ℤ) × IsTriedDraft again o e other draft) → IfSome tried (IsChosen days samples)
    → IfSome tried (IsGiven again o e shift)
chosen_given again o e shift days samples None by_days by_samples is = tt
chosen_given again o e shift days samples (Some tried) by_days by_samples is =
    record { days = days; samples = samples; by_days = by_days; by_samples = by_samples; chosen = is }

pub days_given : (again : Anew) (o : Head) (e : List Head) (shift : ℤ) (days : Option Tried) → IfSome days (IsTriedDraft again o e shift) → IfSome days (IsGiven again o e shift)
days_given again o e shift days by_days = chosen_given again o e shift days None days by_days tt (days_chosen days None)

pub samples_given : (again : Anew) (o : Head) (e : List Head) (shift : ℤ) (samples tried : Option Tried)
    → IfSome samples (λ draft. (other : ℤ) × IsTriedDraft again o e other draft) → IfSome tried (IsChosen None samples)
    → IfSome tried (IsGiven again o e shift)
samples_given again o e shift samples tried by_samples is = chosen_given again o e shift None samples tried tt by_samples is

-- the text that is given is that of a draft
pub given_is_text : (again : Anew) (o : Recorded) (e : Exported) (shift : ℤ) (tried : Tried) (text : List ℕ) → text ≡ tried.text.items → IsShiftBetween o e shift
    → IsGiven again (o.reader).head (heads_of e) shift tried → IsTextOf again o e text
given_is_text again o e shift tried text same told given = subst (IsTextOf again o e) (sym same) (side given.chosen) where
  side : IsChosen given.days given.samples tried → IsTextOf again o e tried.text.items
  side (inl is) =
      let draft = subst (λ d. IfSome d (IsTriedDraft again (o.reader).head (heads_of e) shift)) is given.by_days in
      text_of again o e shift tried draft (λ s moved. inl (subst (IsShiftBetween o e) (sym moved) told))
  side (inr (is, taken)) =
      let draft = subst (λ d. IfSome d (λ t. (other : ℤ) × IsTriedDraft again (o.reader).head (heads_of e) other t)) is given.by_samples in
      text_of again o e draft.0 tried draft.1 (λ s moved. inr (
      no_worse again (o.reader).head (heads_of e) (IsShiftBetween o e) tried.text.items (verdict_with given.days) tried.verdict
      (days_there again (o.reader).head (heads_of e) (IsShiftBetween o e) shift given.days told given.by_days) ((draft.1).tries).said taken))

-- and its first line is true
pub given_is_true : (again : Anew) (o : Head) (e : List Head) (shift : ℤ) (tried : Tried) (text : List ℕ) → text ≡ tried.text.items → IsGiven again o e shift tried
    → IsTrueOfYes again text
given_is_true again o e shift tried text same given = subst (IsTrueOfYes again) (sym same) (side given.chosen) where
  side : IsChosen given.days given.samples tried → IsTrueOfYes again tried.text.items
  side (inl is) =
      let draft = subst (λ d. IfSome d (IsTriedDraft again o e shift)) is given.by_days in
      (draft.tries).first
  side (inr (is, taken)) =
      let draft = subst (λ d. IfSome d (λ t. (other : ℤ) × IsTriedDraft again o e other t)) is given.by_samples in
      ((draft.1).tries).first

days_weaker : (again : Anew) (o : Head) (e : List Head) (A B : ℤ → Type 0) (verdict : Option Verdict) → ((s : ℤ) → A s → B s)
    → IfSome verdict (IsVerdictByDays again o e A) → IfSome verdict (IsVerdictByDays again o e B)
days_weaker again o e A B None to said = tt
days_weaker again o e A B (Some verdict) to said = record {
  text = said.text;
  claim = said.claim;
  says = said.says;
  drafts = said.drafts;
  moved = to (said.claim).shift said.moved;
  said = said.said;
}

-- what is said of a shift holds where less is asked of one by days
pub moved_weaker : (again : Anew) (o : Head) (e : List Head) (A B : ℤ → Type 0) (text : List ℕ) (shift : ℤ) → ((s : ℤ) → A s → B s)
    → IsMoved again o e A text shift → IsMoved again o e B text shift
moved_weaker again o e A B text shift to (inl told) = inl (to shift told)
moved_weaker again o e A B text shift to (inr other) = inr (record {
  by_days = other.by_days;
  days = days_weaker again o e A B other.by_days to other.days;
  verdict = other.verdict;
  said = other.said;
  taken = other.taken;
})
