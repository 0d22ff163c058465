-- A lane's list or its fault, and where its data record starts.
use Rattle.std.proofs.Common.{◌≡◌, ◌≢◌, ◌==◌, false, cond, slice_index, ◌↔◌, ◌⊎◌, ℕ, zero, suc, ℤ, ◌<◌, List, [], ◌∷◌, ◌++◌, map, length, refl, sym, ◌∙◌, ap, arith, inl, inr, Result, Ok, Err, ◌^◌, unsigned_abs, subst}
use Rattle.std.proofs.lemmas.List.{length-append}
use Rattle.edf_fields.specs.declared.faults.cause.TalCause.{TalCause}
use Rattle.edf_fields.proofs.ForCallers.{onset_small}
use Rattle.edf_tal.specs.Tals.{TalValue, SpellsTal}
use Rattle.edf_tal.specs.Timekeeping.{StartsAt, BeginsSilent, KeepsNoTime}
use Rattle.std.specs.List.{onto_first}
use Rattle.std.proofs.lemmas.Bool.{false_from_ne_true, eqb-true}
use Rattle.edf_tal.specs.Reading.{Item, onto, tal_of, items_of, pieces, closed, texts_of}
use Rattle.edf_tal.proofs.TextFacts.{texts_of-first}
use Rattle.edf_tal.specs.Faults.{HasFault, HasListOrFault}
use Rattle.edf_tal.specs.Views.{kept_time, start_of}
use Rattle.edf_tal.specs.declared.start.StartCause.{StartCause}
use Rattle.edf_tal.specs.declared.start.StartCause.TheVariants as start
use Rattle.edf_tal.proofs.LawFacts.{lane-cases, lane-spelled, tal-spelled}
use Rattle.edf_tal.proofs.ReadFacts.{zeros-read, items_of-front, tal-lacks, tal-some, tal-read}
use Rattle.edf_tal.proofs.FaultFacts.{fault-read, fault-told}

-- the items of a lane are TALs, or TALs and a cause behind them
abbrev IsShaped : List ℕ → Type 0
IsShaped lane =
    ((tals : List TalValue) × (items_of lane ≡ map Ok tals)) ⊎ ((tals : List TalValue) × (cause : TalCause) × (items_of lane ≡ map Ok tals ++ Err cause ∷ []))

shaped-more : (lane rest : List ℕ) (i : Item) → items_of lane ≡ onto i (items_of rest) → IsShaped rest → IsShaped lane
shaped-more lane rest (Err cause) e more = inr ([], cause, e)
shaped-more lane rest (Ok tal) e (inl more) = inl (tal ∷ more.0, e ∙ ap (λ xs. Ok tal ∷ xs) more.1)
shaped-more lane rest (Ok tal) e (inr more) = inr (tal ∷ more.0, more.1, e ∙ ap (λ xs. Ok tal ∷ xs) more.2)

shaped : (n : ℕ) (lane : List ℕ) → length lane < n → IsShaped lane
shaped zero lane lt = absurd (omega (arith, lt))
shaped (suc n) lane lt = elim (lane-cases lane) [
  | inl zeros ↦ inl ([], zeros.1)
  | inr (inl fault) ↦ inr ([], fault.0, fault.1)
  | inr (inr more) ↦
      let long = ap length more.3 ∙ length-append more.0 (0 ∷ more.1) in
      shaped-more lane more.1 (tal_of more.0) more.4 (shaped n more.1 (omega (arith, lt, long)))
]

pub list-or-fault : HasListOrFault
list-or-fault lane = elim (shaped (suc (length lane)) lane (omega arith)) [
  | inl list ↦ inl (list.0, lane-spelled list.0 lane list.1)
  | inr fault ↦ inr (fault.0, fault.1, fault-told fault.0 fault.1 lane fault.2)
]

-- the texts of a TAL that keeps the time
kept-said : (onset v : ℤ) (texts : List (List ℕ)) → kept_time onset texts ≡ Ok v → (more : List (List ℕ)) × (texts ≡ [] ∷ more) × (onset ≡ v)
kept-said onset v [] h = absurd (let z : Err start.NoTimekeeping ≡ Ok v = h in cc)
kept-said onset v ([] ∷ texts) h = (texts, refl, let z : Ok onset ≡ Ok v = h in cc)
kept-said onset v ((b ∷ text) ∷ texts) h = absurd (let z : Err start.NoTimekeeping ≡ Ok v = h in cc)

kept-no-fault : (onset : ℤ) (cause : TalCause) (texts : List (List ℕ)) → kept_time onset texts ≡ Err (start.Tal cause) → ⊥
kept-no-fault onset cause [] h = let z : Err start.NoTimekeeping ≡ Err (start.Tal cause) = h in cc
kept-no-fault onset cause ([] ∷ texts) h = let z : Ok onset ≡ Err (start.Tal cause) = h in cc
kept-no-fault onset cause ((b ∷ text) ∷ texts) h = let z : Err start.NoTimekeeping ≡ Err (start.Tal cause) = h in cc

started : (lane piece rest : List ℕ) (v : ℤ) (i : Item) → tal_of piece ≡ i → 0 < length piece → lane ≡ piece ++ 0 ∷ rest → start_of (onto i (items_of rest)) ≡ Ok v → StartsAt lane v
started lane piece rest v (Err cause) e some whole h = absurd (let z : Err (start.Tal cause) ≡ Ok v = h in cc)
started lane piece rest v (Ok tal) e some whole h =
    let k = kept-said tal.onset v tal.texts h in
    record { bytes = piece; rest = rest; tal = tal; more = k.0; spelled = tal-spelled piece tal some e; whole = whole; empty = k.1; onset = k.2 }

start-said : (lane : List ℕ) (v : ℤ) → start_of (items_of lane) ≡ Ok v → StartsAt lane v
start-said lane v h = elim (lane-cases lane) [
  | inl zeros ↦ absurd (let z : Err start.NoTimekeeping ≡ Ok v = sym (ap start_of zeros.1) ∙ h in cc)
  | inr (inl fault) ↦ absurd (let z : Err (start.Tal fault.0) ≡ Ok v = sym (ap start_of fault.1) ∙ h in cc)
  | inr (inr more) ↦ started lane more.0 more.1 v (tal_of more.0) refl more.2 more.3 (sym (ap start_of more.4) ∙ h)
]

-- the TAL that a lane begins with is its first item
first-item : (lane bytes rest : List ℕ) (tal : TalValue) → SpellsTal bytes tal → lane ≡ bytes ++ 0 ∷ rest → items_of lane ≡ Ok tal ∷ items_of rest
first-item lane bytes rest tal spelled whole =
    ap items_of whole ∙ items_of-front bytes rest (tal-lacks bytes tal spelled) (tal-some bytes tal spelled)
    ∙ ap (λ i. onto i (items_of rest)) (tal-read bytes tal spelled)

start-read : (lane : List ℕ) (v : ℤ) → StartsAt lane v → start_of (items_of lane) ≡ Ok v
start-read lane v s = ap start_of (first-item lane s.bytes s.rest s.tal s.spelled s.whole) ∙ ap (kept_time s.tal.onset) s.empty ∙ ap Ok s.onset

refused : (lane rest : List ℕ) (cause : TalCause) (i : Item) → items_of lane ≡ onto i (items_of rest) → start_of (onto i (items_of rest)) ≡ Err (start.Tal cause) → items_of lane ≡ Err cause ∷ []
refused lane rest cause (Err e) is h = is ∙ (let same : e ≡ cause = (let z : Err (start.Tal e) ≡ Err (start.Tal cause) = h in cc) in ap (λ x. Err x ∷ []) same)
refused lane rest cause (Ok tal) is h = absurd (kept-no-fault tal.onset cause tal.texts h)

fault-items : (lane : List ℕ) (cause : TalCause) → start_of (items_of lane) ≡ Err (start.Tal cause) → items_of lane ≡ Err cause ∷ []
fault-items lane cause h = elim (lane-cases lane) [
  | inl zeros ↦ absurd (let z : Err start.NoTimekeeping ≡ Err (start.Tal cause) = sym (ap start_of zeros.1) ∙ h in cc)
  | inr (inl fault) ↦
      let same : fault.0 ≡ cause = (let z : Err (start.Tal fault.0) ≡ Err (start.Tal cause) = sym (ap start_of fault.1) ∙ h in cc) in
      fault.1 ∙ ap (λ x. Err x ∷ []) same
  | inr (inr more) ↦ refused lane more.1 cause (tal_of more.0) more.4 (sym (ap start_of more.4) ∙ h)
]

pub starts-at : (r : Result ℤ StartCause) (lane : List ℕ) (v : ℤ) → r ≡ start_of (items_of lane) → (r ≡ Ok v) ↔ StartsAt lane v
starts-at r lane v e = (λ h. start-said lane v (sym e ∙ h), λ s. e ∙ start-read lane v s)

pub start-fails : (r : Result ℤ StartCause) (lane : List ℕ) (cause : TalCause) → r ≡ start_of (items_of lane) → (r ≡ Err (start.Tal cause)) ↔ HasFault lane cause
start-fails r lane cause e = (
  λ h. fault-told [] cause lane (fault-items lane cause (sym e ∙ h)),
  λ f. e ∙ ap start_of (fault-read [] cause lane f),
)

-- ---- a lane that keeps no time

kept-silent : (onset : ℤ) (texts more : List (List ℕ)) → kept_time onset texts ≡ Err start.NoTimekeeping → texts ≡ [] ∷ more → ⊥
kept-silent onset texts more h e = let z : Ok onset ≡ Err start.NoTimekeeping = sym (ap (kept_time onset) e) ∙ h in cc

silent-kept : (onset : ℤ) (texts : List (List ℕ)) → ((more : List (List ℕ)) → texts ≡ [] ∷ more → ⊥) → kept_time onset texts ≡ Err start.NoTimekeeping
silent-kept onset [] h = refl
silent-kept onset ([] ∷ texts) h = absurd (h texts refl)
silent-kept onset ((b ∷ text) ∷ texts) h = refl

begun-silent : (lane piece rest : List ℕ) (i : Item) → tal_of piece ≡ i → 0 < length piece → lane ≡ piece ++ 0 ∷ rest → start_of (onto i (items_of rest)) ≡ Err start.NoTimekeeping → BeginsSilent lane
begun-silent lane piece rest (Err cause) e some whole h = absurd (let z : Err (start.Tal cause) ≡ Err start.NoTimekeeping = h in cc)
begun-silent lane piece rest (Ok tal) e some whole h =
    record { bytes = piece; rest = rest; tal = tal; spelled = tal-spelled piece tal some e; whole = whole; silent = λ more is. kept-silent tal.onset tal.texts more h is }

silence-said : (lane : List ℕ) → start_of (items_of lane) ≡ Err start.NoTimekeeping → KeepsNoTime lane
silence-said lane h = elim (lane-cases lane) [
  | inl zeros ↦ inl zeros.0
  | inr (inl fault) ↦ absurd (let z : Err (start.Tal fault.0) ≡ Err start.NoTimekeeping = sym (ap start_of fault.1) ∙ h in cc)
  | inr (inr more) ↦ inr (begun-silent lane more.0 more.1 (tal_of more.0) refl more.2 more.3 (sym (ap start_of more.4) ∙ h))
]

silence-read : (lane : List ℕ) → KeepsNoTime lane → start_of (items_of lane) ≡ Err start.NoTimekeeping
silence-read lane (inl zeros) = ap start_of (zeros-read lane zeros)
silence-read lane (inr s) = ap start_of (first-item lane s.bytes s.rest s.tal s.spelled s.whole) ∙ silent-kept s.tal.onset s.tal.texts s.silent

pub keeps-no-time : (r : Result ℤ StartCause) (lane : List ℕ) → r ≡ start_of (items_of lane) → (r ≡ Err start.NoTimekeeping) ↔ KeepsNoTime lane
keeps-no-time r lane e = (λ h. silence-said lane (sym e ∙ h), λ s. e ∙ silence-read lane s)

-- the start of a data record is less than 10^9 seconds in size
pub start_small : (lane : List ℕ) (v : ℤ) → StartsAt lane v → unsigned_abs v < 10 ^ 21
start_small lane v starts = subst (λ (z : ℤ). unsigned_abs z < 10 ^ 21) starts.onset (onset_small (starts.spelled).onset (starts.tal).onset (starts.spelled).onset_is)

-- ---- the first text

pub time_kept : (onset : ℤ) (bs : List ℕ) → 0 < length bs → slice_index bs 0 ≡ 20 → kept_time onset (texts_of bs) ≡ Ok onset
time_kept onset [] lt e = absurd (omega (arith, lt))
time_kept onset (c ∷ rest) lt e =
    let P : ℕ → Type 0 = λ b. kept_time onset (texts_of (b ∷ rest)) ≡ Ok onset in
    subst P (sym e) (rw (texts_of-first (20 ∷ rest) (omega arith)) refl)

pub no_text : (onset : ℤ) (bs : List ℕ) → length bs ≡ 0 → kept_time onset (texts_of bs) ≡ Err start.NoTimekeeping
no_text onset [] e = refl
no_text onset (c ∷ rest) e = absurd (omega (arith, e))

onto-other : (onset : ℤ) (c : ℕ) (parts : List (List ℕ)) → kept_time onset (closed (onto_first c parts)) ≡ Err start.NoTimekeeping
onto-other onset c [] = refl
onto-other onset c (x ∷ []) = refl
onto-other onset c (x ∷ y ∷ more) = refl

pub no_time_kept : (onset : ℤ) (bs : List ℕ) → slice_index bs 0 ≢ 20 → kept_time onset (texts_of bs) ≡ Err start.NoTimekeeping
no_time_kept onset [] e = refl
no_time_kept onset (c ∷ rest) e =
    let other : (c == 20) ≡ false = false_from_ne_true _ (λ holds. e (eqb-true c 20 holds)) in
    ap (λ t. kept_time onset (closed (cond t ([] ∷ pieces 20 rest) (onto_first c (pieces 20 rest))))) other ∙ onto-other onset c (pieces 20 rest)
