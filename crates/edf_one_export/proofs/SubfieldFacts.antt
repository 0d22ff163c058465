-- Two exports have the same subfields, where as many are additional.
use Rattle.std.proofs.Common.{◌≡◌, ◌↔◌, inl, inr, ℕ, suc, ℤ, ◌+◌, ◌<◌, List, [], ◌∷◌, length, All, arith, refl, ap, ◌∙◌, sym}
use Rattle.std.proofs.lemmas.List.{append-nil}
use Rattle.edf_claim.specs.ClaimValues.{ClaimValue}
use Rattle.edf_fields.specs.Lists.{Has}
use Rattle.edf_fields.specs.declared.fields.which.Which.{Which}
use Rattle.edf_fields.specs.declared.fields.which.Which.TheVariants.{Code, Sex, Birthdate, Name, PatientExtras, Date, Administration, Technician, Equipment, RecordingExtras}
use Rattle.edf_fields.specs.texts.Dates.{NamesDashedDay}
use Rattle.edf_fields.specs.texts.Identifications.{Patient, Recording, IsDateOrX}
use Rattle.edf_fields.specs.texts.Subfields.{HasSubfields}
use Rattle.edf_header.specs.Heads.{Head, day_number}
use Rattle.edf_heads.specs.Subfields.{IsX, ByClaim, IsXOrElse, IsAsClaimed}
use Rattle.edf_layout.specs.Spaces.{spaces_of}
use Rattle.edf_layout.proofs.ForCallers.{behind-subfield, spaces-more}
use Rattle.edf_one_export.proofs.DateFacts.{dashed-same}
use Rattle.edf_one_export.proofs.TextFacts.{text-stable, texts-stable}

-- what holds by a claim of both of two things holds, whether the subfield is claimed or not
by-claim : (claim : ClaimValue) (which : Which) (A B P Q E : Type 0) → ByClaim claim which A P → ByClaim claim which B Q → (A → B → E) → (P → Q → E) → (E → ⊥) → ⊥
by-claim claim which A B P Q E h k both neither never =
    let out : Has claim.anonymous which → ⊥ = λ has. never (both (h.claimed has) (k.claimed has)) in
    never (neither (h.unclaimed out) (k.unclaimed out))

text-same : (claim : ClaimValue) (which : Which) (a b o : List ℕ) → IsXOrElse claim which a o → IsXOrElse claim which b o → a ≡ b
text-same claim which a b o h k =
    text-stable a b (by-claim claim which (IsX a) (IsX b) (a ≡ o) (b ≡ o) (a ≡ b) h k (λ x y. x ∙ sym y) (λ x y. x ∙ sym y))

-- texts that are all X
all-x : (xs ys : List (List ℕ)) → All IsX xs → All IsX ys → length xs ≡ length ys → xs ≡ ys
all-x [] [] h k long = refl
all-x [] (y ∷ ys) h k long = absurd (omega arith)
all-x (x ∷ xs) [] h k long = absurd (omega arith)
all-x (x ∷ xs) (y ∷ ys) h k long =
    let first : x ≡ y = h 0 [] (omega arith) ∙ sym (k 0 [] (omega arith)) in
    let rest : xs ≡ ys = all-x xs ys (λ n d low. h (suc n) d (omega arith)) (λ n d low. k (suc n) d (omega arith)) (omega arith) in
    ap (λ z. z ∷ xs) first ∙ ap (λ zs. y ∷ zs) rest

extras-same : (claim : ClaimValue) (which : Which) (xs ys os : List (List ℕ)) → ByClaim claim which (All IsX xs) (xs ≡ os) → ByClaim claim which (All IsX ys) (ys ≡ os) → length xs ≡ length ys → xs ≡ ys
extras-same claim which xs ys os h k long =
    texts-stable xs ys (by-claim claim which (All IsX xs) (All IsX ys) (xs ≡ os) (ys ≡ os) (xs ≡ ys) h k (λ x y. all-x xs ys x y long) (λ x y. x ∙ sym y))

date-same : (claim : ClaimValue) (a b o : List ℕ) (day : ℤ) → ByClaim claim Date (IsX a) (IsX a ↔ IsX o) → ByClaim claim Date (IsX b) (IsX b ↔ IsX o) → IsDateOrX a → IsDateOrX b
    → ((n : ℤ) → NamesDashedDay a n → n ≡ day) → ((n : ℤ) → NamesDashedDay b n → n ≡ day) → a ≡ b
date-same claim a b o day h k (inl x) (inl y) p q = x ∙ sym y
date-same claim a b o day h k (inl x) (inr y) p q =
    text-stable a b (by-claim claim Date (IsX a) (IsX b) (IsX a ↔ IsX o) (IsX b ↔ IsX o) (a ≡ b) h k (λ u v. u ∙ sym v) (λ u v. x ∙ sym (v.1 (u.0 x))))
date-same claim a b o day h k (inr x) (inl y) p q =
    text-stable a b (by-claim claim Date (IsX a) (IsX b) (IsX a ↔ IsX o) (IsX b ↔ IsX o) (a ≡ b) h k (λ u v. u ∙ sym v) (λ u v. u.1 (v.0 y) ∙ sym y))
date-same claim a b o day h k (inr x) (inr y) p q =
    dashed-same a b x.0 x.1 (subst-day b y.0 x.0 (q y.0 y.1 ∙ sym (p x.0 x.1)) y.1)
  where
    subst-day : (t : List ℕ) (n m : ℤ) → n ≡ m → NamesDashedDay t n → NamesDashedDay t m
    subst-day t n m e named = rw (← e) named

-- two exports of one original under one claim, which start on one day
pub record AreTwins (o h g : Head) (claim : ClaimValue) : Type 0 where
  pub first : (which : Which) → IsAsClaimed o h claim which
  pub second : (which : Which) → IsAsClaimed o g claim which

patients-equal : (p q : Patient) → p.code ≡ q.code → p.sex ≡ q.sex → p.birthdate ≡ q.birthdate → p.name ≡ q.name → p.extras ≡ q.extras → p ≡ q
patients-equal p q a b c d e =
    let made : List ℕ → List ℕ → List ℕ → List ℕ → List (List ℕ) → Patient = λ code sex birthdate name extras. record { code = code; sex = sex; birthdate = birthdate; name = name; extras = extras } in
    ap (λ x. made x p.sex p.birthdate p.name p.extras) a ∙ ap (λ x. made q.code x p.birthdate p.name p.extras) b
    ∙ ap (λ x. made q.code q.sex x p.name p.extras) c ∙ ap (λ x. made q.code q.sex q.birthdate x p.extras) d
    ∙ ap (λ x. made q.code q.sex q.birthdate q.name x) e

recordings-equal : (p q : Recording) → p.date ≡ q.date → p.admin ≡ q.admin → p.technician ≡ q.technician → p.equipment ≡ q.equipment → p.extras ≡ q.extras → p ≡ q
recordings-equal p q a b c d e =
    let made : List ℕ → List ℕ → List ℕ → List ℕ → List (List ℕ) → Recording = λ date admin technician equipment extras. record { date = date; admin = admin; technician = technician; equipment = equipment; extras = extras } in
    ap (λ x. made x p.admin p.technician p.equipment p.extras) a ∙ ap (λ x. made q.date x p.technician p.equipment p.extras) b
    ∙ ap (λ x. made q.date q.admin x p.equipment p.extras) c ∙ ap (λ x. made q.date q.admin q.technician x p.extras) d
    ∙ ap (λ x. made q.date q.admin q.technician q.equipment x) e

pub patient-same : (o h g : Head) (claim : ClaimValue) → AreTwins o h g claim → length h.patient.extras ≡ length g.patient.extras → h.patient ≡ g.patient
patient-same o h g claim t long = patients-equal h.patient g.patient
    (text-same claim Code h.patient.code g.patient.code o.patient.code (t.first Code) (t.second Code))
    (text-same claim Sex h.patient.sex g.patient.sex o.patient.sex (t.first Sex) (t.second Sex))
    (text-same claim Birthdate h.patient.birthdate g.patient.birthdate o.patient.birthdate (t.first Birthdate) (t.second Birthdate))
    (text-same claim Name h.patient.name g.patient.name o.patient.name (t.first Name) (t.second Name))
    (extras-same claim PatientExtras h.patient.extras g.patient.extras o.patient.extras (t.first PatientExtras) (t.second PatientExtras) long)

pub recording-same : (o h g : Head) (claim : ClaimValue) → AreTwins o h g claim → IsDateOrX h.recording.date → IsDateOrX g.recording.date
    → ((n : ℤ) → NamesDashedDay h.recording.date n → n ≡ day_number h.day) → ((n : ℤ) → NamesDashedDay g.recording.date n → n ≡ day_number h.day)
    → length h.recording.extras ≡ length g.recording.extras → h.recording ≡ g.recording
recording-same o h g claim t x y p q long = recordings-equal h.recording g.recording
    (date-same claim h.recording.date g.recording.date o.recording.date (day_number h.day) (t.first Date) (t.second Date) x y p q)
    (text-same claim Administration h.recording.admin g.recording.admin o.recording.admin (t.first Administration) (t.second Administration))
    (text-same claim Technician h.recording.technician g.recording.technician o.recording.technician (t.first Technician) (t.second Technician))
    (text-same claim Equipment h.recording.equipment g.recording.equipment o.recording.equipment (t.first Equipment) (t.second Equipment))
    (extras-same claim RecordingExtras h.recording.extras g.recording.extras o.recording.extras (t.first RecordingExtras) (t.second RecordingExtras) long)

-- a text has one subfield more than stretches of spaces; nothing has none
none-alone : length (spaces_of []) ≡ 0
unfolding spaces_of
none-alone = refl

pub subfields-counted : (xs : List (List ℕ)) (t : List ℕ) → 0 < length xs → HasSubfields t xs → length xs ≡ length (spaces_of t) + 1
subfields-counted [] t some h = absurd (omega arith)
subfields-counted (s ∷ []) t some h =
    let none : spaces_of t ≡ spaces_of [] = ap spaces_of (h.1 ∙ sym (append-nil s)) ∙ behind-subfield s [] (h.0).1 in
    let count : length (spaces_of t) ≡ 0 = ap length none ∙ none-alone in
    omega arith
subfields-counted (s ∷ next ∷ more) t some h =
    let here : length (spaces_of t) ≡ suc (length (spaces_of h.2)) = ap length (spaces-more t s next more h.1 h.2 h.0 h.3 h.4 h.5) in
    let rest = subfields-counted (next ∷ more) h.2 (omega arith) h.5 in
    omega arith
