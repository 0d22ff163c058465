-- What a draft of a claim says of two files.
use Rattle.std.specs.Prelude.{◌≡◌, ◌↔◌, ◌⊎◌, ℕ, ℤ, IsTrue, List, [], ◌∷◌, Bool, Option, Some, IfSome}
use Rattle.edf_claim.specs.Claims.{SaysClaimText}
use Rattle.edf_claim.specs.ClaimValues.{ClaimValue}
use Rattle.edf_fields.specs.Lists.{Has}
use Rattle.edf_fields.specs.declared.fields.which.Which.{Which}
use Rattle.edf_header.specs.signals.Channels.{channel_labels}
use Rattle.edf_header.specs.Heads.{Head}
use Rattle.edf_stream.specs.Conforming.{Conforms}
use Rattle.edf_verdict.specs.declared.verdict.Verdict.{Verdict}
use Rattle.edf_draft.specs.Better.{is_taken}
use Rattle.edf_draft.specs.Days.{IsShift}
use Rattle.edf_draft.specs.FirstLines.{Anew, IsTried}
use Rattle.edf_draft.specs.Hidden.{IsHiddenInAll}
use Rattle.edf_recording.specs.Times.{begin_of, end_of}

-- the labels of the channels of the first of several exports, in its order
abbrev pub first_labels : List Head → List (List ℕ)
first_labels [] = []
first_labels (export ∷ others) = channel_labels export.signals

-- a claim of this shift has the channels of the first export, in its order; what is anonymous in it are the subfields that all exports
-- hide; and it removes no texts by how they begin
pub record IsDraftFor (original : Head) (exports : List Head) (shift : ℤ) (claim : ClaimValue) : Type 0 where
  pub channels : claim.channels ≡ first_labels exports
  pub anonymous : (which : Which) → Has claim.anonymous which ↔ IsHiddenInAll original exports which
  pub moved : claim.shift ≡ shift
  pub no_prefix : claim.remove_prefix ≡ []

-- the shift is the one that the starts of two files tell: by whole days, so that the export lies in the time of the original; or no number
-- of days does that
abbrev pub IsShiftOf : List ℕ → Head → List ℕ → Head → ℤ → Type 0
IsShiftOf original o export e shift =
    (told : Bool) × IsShift (begin_of original o) (end_of original o) (begin_of export e) (end_of export e) told shift

-- the verdict with a draft of an original and exports, by their headers, whose shift is told by days
pub record IsVerdictByDays (again : Anew) (o : Head) (e : List Head) (ByDays : ℤ → Type 0) (verdict : Verdict) : Type 0 where
  pub text : List ℕ
  pub claim : ClaimValue
  pub says : SaysClaimText text claim
  pub drafts : IsDraftFor o e claim.shift claim
  pub moved : ByDays claim.shift
  pub said : IsTried again text verdict

-- the verdict with a draft is a Yes, or that with the draft by days, which was tried, isn't better
pub record IsNoWorse (again : Anew) (o : Head) (e : List Head) (ByDays : ℤ → Type 0) (text : List ℕ) : Type 0 where
  pub by_days : Option Verdict
  pub days : IfSome by_days (IsVerdictByDays again o e ByDays)
  pub verdict : Verdict
  pub said : IsTried again text verdict
  pub taken : IsTrue (is_taken by_days (Some verdict))

-- the shift of a draft is told by days; or the draft is no worse than that
abbrev pub IsMoved : Anew → Head → List Head → (ℤ → Type 0) → List ℕ → ℤ → Type 0
IsMoved again o e ByDays text shift = ByDays shift ⊎ IsNoWorse again o e ByDays text

-- two files conform, and the text is a claim that says just what is drafted of them
pub record IsDraftText (again : Anew) (original export text : List ℕ) : Type 0 where
  pub o : Head
  pub e : Head
  pub claim : ClaimValue
  pub original_conforms : Conforms original o
  pub export_conforms : Conforms export e
  pub says : SaysClaimText text claim
  pub drafts : IsDraftFor o (e ∷ []) claim.shift claim
  pub moved : IsMoved again o (e ∷ []) (IsShiftOf original o export e) text claim.shift
