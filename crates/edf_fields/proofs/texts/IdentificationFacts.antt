-- What an identification field says, from the tests that it passes.
use Rattle.std.proofs.Common.{◌≡◌, ◌≢◌, ◌⊎◌, ℕ, Bool, true, false, not, ◌-◌, ◌<◌, ◌≤◌, List, [], ◌∷◌, length, get_or, drop, arith, refl, ap, ◌∙◌, sym, subst, None, nat_le, cond, ◌&&◌, ◌==◌, codes}
use Rattle.std.specs.Bool.{Decides}
use Rattle.std.specs.List.{list_all}
use Rattle.std.specs.Str.{bytes_eq}
use Rattle.std.proofs.lemmas.Bool.Decides.{Decides-or, Decides-not, Decides-eqb, nat_tests}
use Rattle.std.proofs.lemmas.Grind.{common_steps}
use Rattle.std.proofs.lemmas.Slice.Eq.{bytes_eq-Decides}
use Rattle.edf_fields.specs.texts.Identifications.{ListsSubfields, IsDateOrX, Patient, SaysPatient, Recording, SaysRecording}
use Rattle.edf_fields.specs.texts.IdentificationsReading.{is_sex, is_date_or_x, subfield, field_cause, patient_cause, recording_cause, SaysOnePatient, SaysOneRecording, SaysPatientOrCause, SaysRecordingOrCause}
use Rattle.edf_fields.specs.Parts.{text_of}
use Rattle.edf_fields.specs.texts.PrintableReading.{is_printable}
use Rattle.edf_fields.specs.texts.SubfieldsReading.{subfields_of}
use Rattle.edf_fields.specs.declared.faults.cause.FieldCause.TheVariants.{NotPrintable, LeadingSpace, TooFewSubfields, BadSex, BadDate, NoStartdateWord}
use Rattle.edf_fields.proofs.texts.DateFacts.{le_decided, dashed_day_decided}
use Rattle.edf_fields.proofs.texts.PrintableFacts.{printable_decided}
use Rattle.edf_fields.proofs.texts.SubfieldLawFacts.{found_joined, joined_found}
use Rattle.edf_fields.proofs.TestFacts.{first-passes, passes-first, first-cons, pass-cons}

-- the text of a field begins as the field does, and doesn't end with a space
text_begins : (bs : List ℕ) → get_or bs 0 0 ≢ 32 → get_or (text_of bs) 0 0 ≢ 32
text_begins [] h = h
text_begins (c ∷ cs) h = grind (arith, nat_tests, common_steps)

cond_nil : (t : Bool) (d : ℕ) (ds : List ℕ) → cond t [] (d ∷ ds) ≡ [] → t ≡ true
cond_nil true d ds h = refl
cond_nil false d ds h = absurd (cc)

all_false : (c : ℕ) (t : Bool) → c ≡ 32 → t ≡ true → ((c == 32) && t) ≡ false → ⊥
all_false c t e h k = grind (arith, nat_tests)

ends_cons : (c : ℕ) (rest : List ℕ) → (rest ≡ [] → c ≢ 32) → get_or rest (length rest - 1) 0 ≢ 32 → get_or (c ∷ rest) (length (c ∷ rest) - 1) 0 ≢ 32
ends_cons c [] h k = h refl
ends_cons c (d ∷ ds) h k = grind (arith, common_steps)

cond_ends : (t : Bool) (c : ℕ) (rest : List ℕ) → (t ≡ false → rest ≡ [] → c ≢ 32) → get_or rest (length rest - 1) 0 ≢ 32
    → get_or (cond t [] (c ∷ rest)) (length (cond t [] (c ∷ rest)) - 1) 0 ≢ 32
cond_ends true c rest h k = λ e. absurd (omega arith)
cond_ends false c rest h k = ends_cons c rest (h refl) k

nothing_left : (cs : List ℕ) → text_of cs ≡ [] → list_all (λ b. b == 32) cs ≡ true
nothing_left [] h = refl
nothing_left (d ∷ ds) h = cond_nil (list_all (λ b. b == 32) (d ∷ ds)) d (text_of ds) h

text_ends : (bs : List ℕ) → get_or (text_of bs) (length (text_of bs) - 1) 0 ≢ 32
text_ends [] = λ h. absurd (omega arith)
text_ends (c ∷ cs) =
    cond_ends (list_all (λ b. b == 32) (c ∷ cs)) c (text_of cs)
    (λ other nothing space. let rest = nothing_left cs nothing in all_false c _ space rest other)
    (text_ends cs)

sex_decided : (s : List ℕ) → Decides (is_sex s) ((s ≡ codes "F") ⊎ (s ≡ codes "M") ⊎ (s ≡ codes "X"))
sex_decided s =
    Decides-or _ _ (bytes_eq-Decides s (codes "F")) (Decides-or _ _ (bytes_eq-Decides s (codes "M")) (bytes_eq-Decides s (codes "X")))

date_decided : (s : List ℕ) → Decides (is_date_or_x s) (IsDateOrX s)
date_decided s = Decides-or _ _ (bytes_eq-Decides s (codes "X")) (dashed_day_decided s)

begins_decided : (field : List ℕ) → Decides (not (get_or field 0 0 == 32)) (get_or field 0 0 ≢ 32)
begins_decided field = Decides-not _ (Decides-eqb (get_or field 0 0) 32)

-- the subfields of a field that passes the first two tests
field_lists : (field : List ℕ) → field_cause field ≡ None → ListsSubfields field (subfields_of (text_of field))
unfolding field_cause
field_lists field h =
    let printable = first-passes (list_all is_printable field) NotPrintable _ h in
    let begins = first-passes (not (get_or field 0 0 == 32)) LeadingSpace [] printable.1 in
    let first = (begins_decided field).0 begins.0 in
    record {
      printable = (printable_decided field).0 printable.0;
      begins = first;
      subfields = found_joined _ (text_of field) refl (text_begins field first) (text_ends field);
    }

listed_field : (field : List ℕ) (xs : List (List ℕ)) → ListsSubfields field xs → field_cause field ≡ None
unfolding field_cause
listed_field field xs h =
    passes-first (list_all is_printable field) NotPrintable _ ((printable_decided field).1 h.printable)
    (passes-first (not (get_or field 0 0 == 32)) LeadingSpace [] ((begins_decided field).1 h.begins) refl)

-- a patient that passes the tests is said, and one that is said passes them
pub patient_said : (field code sex birthdate name : List ℕ) (extras : List (List ℕ)) → field_cause field ≡ None → subfields_of (text_of field) ≡ code ∷ sex ∷ birthdate ∷ name ∷ extras
    → is_sex sex ≡ true → is_date_or_x birthdate ≡ true
    → SaysPatient field (record { code = code; sex = sex; birthdate = birthdate; name = name; extras = extras })
patient_said field code sex birthdate name extras h e sexed dated = record {
  lists = subst (ListsSubfields field) e (field_lists field h);
  sex = (sex_decided sex).0 sexed;
  birthdate = (date_decided birthdate).0 dated;
}

said_patient : (field : List ℕ) (p : Patient) → SaysPatient field p → patient_cause field ≡ None
unfolding patient_cause
said_patient field p h =
    let xs = subfields_of (text_of field) in
    let e : xs ≡ p.code ∷ p.sex ∷ p.birthdate ∷ p.name ∷ p.extras = joined_found _ (text_of field) h.lists.subfields in
    pass-cons (field_cause field) _ (listed_field field _ h.lists)
    (passes-first (nat_le 4 (length xs)) TooFewSubfields _ (ap (λ ys. nat_le 4 (length ys)) e ∙ (le_decided 4 _).1 (omega arith))
    (passes-first (is_sex (subfield xs 1)) BadSex _ (ap (λ ys. is_sex (subfield ys 1)) e ∙ (sex_decided p.sex).1 h.sex)
    (passes-first (is_date_or_x (subfield xs 2)) BadDate [] (ap (λ ys. is_date_or_x (subfield ys 2)) e ∙ (date_decided p.birthdate).1 h.birthdate) refl)))

-- a list of at least four, and of at least five
four : (xs : List (List ℕ)) → 4 ≤ length xs → xs ≡ subfield xs 0 ∷ subfield xs 1 ∷ subfield xs 2 ∷ subfield xs 3 ∷ drop 4 xs
four [] h = absurd (omega arith)
four (a ∷ []) h = absurd (omega arith)
four (a ∷ b ∷ []) h = absurd (omega arith)
four (a ∷ b ∷ c ∷ []) h = absurd (omega arith)
four (a ∷ b ∷ c ∷ d ∷ xs) h = refl

five : (xs : List (List ℕ)) → 5 ≤ length xs → xs ≡ subfield xs 0 ∷ subfield xs 1 ∷ subfield xs 2 ∷ subfield xs 3 ∷ subfield xs 4 ∷ drop 5 xs
five [] h = absurd (omega arith)
five (a ∷ []) h = absurd (omega arith)
five (a ∷ b ∷ []) h = absurd (omega arith)
five (a ∷ b ∷ c ∷ []) h = absurd (omega arith)
five (a ∷ b ∷ c ∷ d ∷ []) h = absurd (omega arith)
five (a ∷ b ∷ c ∷ d ∷ e ∷ xs) h = refl

patient_told : (field : List ℕ) → patient_cause field ≡ None → (p : Patient) × SaysPatient field p
unfolding patient_cause
patient_told field h =
    let xs = subfields_of (text_of field) in
    let lists = first-cons (field_cause field) _ h in
    let many = first-passes (nat_le 4 (length xs)) TooFewSubfields _ lists.1 in
    let sexed = first-passes (is_sex (subfield xs 1)) BadSex _ many.1 in
    let dated = first-passes (is_date_or_x (subfield xs 2)) BadDate [] sexed.1 in
    (_, patient_said field (subfield xs 0) (subfield xs 1) (subfield xs 2) _ _ lists.0 (four xs ((le_decided 4 _).0 many.0)) sexed.0 dated.0)

-- the patient in a list of subfields
abbrev patient_in : List (List ℕ) → Patient
patient_in xs = record { code = subfield xs 0; sex = subfield xs 1; birthdate = subfield xs 2; name = subfield xs 3; extras = drop 4 xs }

pub one_patient : SaysOnePatient
one_patient field p q h k =
    let left : subfields_of (text_of field) ≡ p.code ∷ p.sex ∷ p.birthdate ∷ p.name ∷ p.extras = joined_found _ (text_of field) h.lists.subfields in
    let right : subfields_of (text_of field) ≡ q.code ∷ q.sex ∷ q.birthdate ∷ q.name ∷ q.extras = joined_found _ (text_of field) k.lists.subfields in
    sym (ap patient_in left) ∙ ap patient_in right

pub patient_or_cause : SaysPatientOrCause
patient_or_cause field = (patient_told field, λ h. said_patient field h.0 h.1)

-- a recording that passes the tests is said, and one that is said passes them
pub recording_said : (field word date admin technician equipment : List ℕ) (extras : List (List ℕ)) → field_cause field ≡ None → subfields_of (text_of field) ≡ word ∷ date ∷ admin ∷ technician ∷ equipment ∷ extras
    → is_date_or_x date ≡ true → bytes_eq word (codes "Startdate") ≡ true
    → SaysRecording field (record { date = date; admin = admin; technician = technician; equipment = equipment; extras = extras })
recording_said field word date admin technician equipment extras h e dated worded =
    let is_word : word ≡ codes "Startdate" = (bytes_eq-Decides word (codes "Startdate")).0 worded in
    record {
      lists = subst (ListsSubfields field) (e ∙ ap (λ w. w ∷ date ∷ admin ∷ technician ∷ equipment ∷ extras) is_word) (field_lists field h);
      date = (date_decided date).0 dated;
    }

said_recording : (field : List ℕ) (r : Recording) → SaysRecording field r → recording_cause field ≡ None
unfolding recording_cause
said_recording field r h =
    let xs = subfields_of (text_of field) in
    let e : xs ≡ codes "Startdate" ∷ r.date ∷ r.admin ∷ r.technician ∷ r.equipment ∷ r.extras = joined_found _ (text_of field) h.lists.subfields in
    pass-cons (field_cause field) _ (listed_field field _ h.lists)
    (passes-first (nat_le 5 (length xs)) TooFewSubfields _ (ap (λ ys. nat_le 5 (length ys)) e ∙ (le_decided 5 _).1 (omega arith))
    (passes-first (is_date_or_x (subfield xs 1)) BadDate _ (ap (λ ys. is_date_or_x (subfield ys 1)) e ∙ (date_decided r.date).1 h.date)
    (passes-first (bytes_eq (subfield xs 0) (codes "Startdate")) NoStartdateWord [] (ap (λ ys. bytes_eq (subfield ys 0) (codes "Startdate")) e ∙ (bytes_eq-Decides (codes "Startdate") (codes "Startdate")).1 refl) refl)))

-- the recording in a list of subfields
abbrev recording_in : List (List ℕ) → Recording
recording_in xs = record { date = subfield xs 1; admin = subfield xs 2; technician = subfield xs 3; equipment = subfield xs 4; extras = drop 5 xs }

pub one_recording : SaysOneRecording
one_recording field p q h k =
    let left : subfields_of (text_of field) ≡ codes "Startdate" ∷ p.date ∷ p.admin ∷ p.technician ∷ p.equipment ∷ p.extras = joined_found _ (text_of field) h.lists.subfields in
    let right : subfields_of (text_of field) ≡ codes "Startdate" ∷ q.date ∷ q.admin ∷ q.technician ∷ q.equipment ∷ q.extras = joined_found _ (text_of field) k.lists.subfields in
    sym (ap recording_in left) ∙ ap recording_in right

recording_told : (field : List ℕ) → recording_cause field ≡ None → (r : Recording) × SaysRecording field r
unfolding recording_cause
recording_told field h =
    let xs = subfields_of (text_of field) in
    let lists = first-cons (field_cause field) _ h in
    let many = first-passes (nat_le 5 (length xs)) TooFewSubfields _ lists.1 in
    let dated = first-passes (is_date_or_x (subfield xs 1)) BadDate _ many.1 in
    let worded = first-passes (bytes_eq (subfield xs 0) (codes "Startdate")) NoStartdateWord [] dated.1 in
    (_, recording_said field (subfield xs 0) (subfield xs 1) _ _ _ _ lists.0 (five xs ((le_decided 5 _).0 many.0)) dated.0 worded.0)

pub recording_or_cause : SaysRecordingOrCause
recording_or_cause field = (recording_told field, λ h. said_recording field h.0 h.1)

-- a field that was judged says what its subfields are
pub patient_is : (field code sex birthdate name : List ℕ) (extras : List (List ℕ)) → patient_cause field ≡ None → subfields_of (text_of field) ≡ code ∷ sex ∷ birthdate ∷ name ∷ extras
    → SaysPatient field (record { code = code; sex = sex; birthdate = birthdate; name = name; extras = extras })
patient_is field code sex birthdate name extras h e =
    let told = patient_told field h in
    let left : subfields_of (text_of field) ≡ (told.0).code ∷ (told.0).sex ∷ (told.0).birthdate ∷ (told.0).name ∷ (told.0).extras = joined_found _ (text_of field) (told.1).lists.subfields in
    subst (SaysPatient field) (sym (ap patient_in left) ∙ ap patient_in e) told.1

pub patient_whole : (field : List ℕ) → patient_cause field ≡ None → length (subfields_of (text_of field)) < 4 → ⊥
unfolding patient_cause
patient_whole field h few =
    let xs = subfields_of (text_of field) in
    let lists = first-cons (field_cause field) _ h in
    let many = first-passes (nat_le 4 (length xs)) TooFewSubfields _ lists.1 in
    let least = (le_decided 4 (length xs)).0 many.0 in
    omega (arith, few, least)

pub recording_is : (field word date admin technician equipment : List ℕ) (extras : List (List ℕ)) → recording_cause field ≡ None
    → subfields_of (text_of field) ≡ word ∷ date ∷ admin ∷ technician ∷ equipment ∷ extras
    → SaysRecording field (record { date = date; admin = admin; technician = technician; equipment = equipment; extras = extras })
recording_is field word date admin technician equipment extras h e =
    let told = recording_told field h in
    let left : subfields_of (text_of field) ≡ codes "Startdate" ∷ (told.0).date ∷ (told.0).admin ∷ (told.0).technician ∷ (told.0).equipment ∷ (told.0).extras = joined_found _ (text_of field) (told.1).lists.subfields in
    subst (SaysRecording field) (sym (ap recording_in left) ∙ ap recording_in e) told.1

pub recording_whole : (field : List ℕ) → recording_cause field ≡ None → length (subfields_of (text_of field)) < 5 → ⊥
unfolding recording_cause
recording_whole field h few =
    let xs = subfields_of (text_of field) in
    let lists = first-cons (field_cause field) _ h in
    let many = first-passes (nat_le 5 (length xs)) TooFewSubfields _ lists.1 in
    let least = (le_decided 5 (length xs)).0 many.0 in
    omega (arith, few, least)
