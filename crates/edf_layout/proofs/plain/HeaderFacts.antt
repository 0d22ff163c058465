-- Plain headers that are read as one header are the same bytes.
use Rattle.std.proofs.Common.{◌≡◌, ℕ, zero, suc, ℤ, pos, Bool, true, false, cond, ◌==◌, ◌+◌, List, [], ◌∷◌, ◌++◌, length, replicate, slice_get, Some, codes, arith, refl, ap, ◌∙◌, sym, subst, ◌*◌}
use Rattle.edf_header.proofs.ForCallers.{head_in_parts, in_parts}
use Rattle.std.specs.Prelude.{◌*ℤ◌}
use Rattle.edf_fields.proofs.ForCallers.{whole_in, decimal_in, from_picoseconds}
use Rattle.std.proofs.lemmas.Bool.Decides.{nat_tests}
use Rattle.std.proofs.lemmas.Int.{ints}
use Rattle.std.proofs.lemmas.List.{append-nil}
use Rattle.edf_fields.specs.Parts.{text_of}
use Rattle.edf_fields.specs.texts.NumbersReading.{SpellsHeaderNumber}
use Rattle.edf_fields.specs.texts.Subfields.{HasSubfields}
use Rattle.edf_fields.specs.declared.faults.fault.Place.{Place}
use Rattle.edf_fields.specs.declared.faults.fault.Place.TheVariants.{AtField, AtSignal}
use Rattle.edf_fields.specs.declared.fields.layout.FixedField.{FixedField}
use Rattle.edf_fields.specs.declared.fields.layout.FixedField.TheVariants as fixed
use Rattle.edf_fields.specs.declared.fields.layout.SignalField.TheVariants as signal
use Rattle.edf_fields.specs.fields.Layout.{fixed_field}
use Rattle.edf_fields.specs.fields.LayoutReading.{fixed_part, columns_part, column_field}
use Rattle.edf_header.specs.Conforming.{HeaderConforms}
use Rattle.edf_header.specs.Heads.{SignalHead, Head, HasSignal, header_bytes}
use Rattle.edf_layout.specs.HeadLayouts.{SignalLayout, FrontLayout, HeadLayout, signal_layout, signal_layouts, front_layout, head_layout_of}
use Rattle.edf_layout.specs.HeadReports.{places_of}
use Rattle.edf_layout.specs.OddPlaces.{odd_line, odd_number, odd_space, odd_spaces, odd_extras, odd_signal, odd_signals, odd_numbers, odd_identification, odd_front, odd_places}
use Rattle.edf_layout.specs.PlainLaws.{PlainHeadersAreOne}
use Rattle.edf_layout.specs.PlainNumbers.{is_plain_number}
use Rattle.edf_layout.specs.Spaces.{spaces_of}
use Rattle.edf_layout.proofs.HeadFacts.{get-some, say-the-same, layout_is_the_rest}
use Rattle.edf_layout.proofs.plain.LawFacts.{one_plain_header_number, one_plain_whole_number}
use Rattle.edf_layout.proofs.SpacesFacts.{spaces-more, behind-subfield}

-- no line at all
both-empty : (xs ys : List (List ℕ)) → xs ++ ys ≡ [] → (xs ≡ []) × (ys ≡ [])
both-empty [] ys h = (refl, h)
both-empty (x ∷ xs) ys h = absurd (let z : x ∷ (xs ++ ys) ≡ [] = h in cc)

plain-number : (place : Place) (text : List ℕ) → odd_number place text ≡ [] → is_plain_number text ≡ true
unfolding odd_number
plain-number place text h = sides (is_plain_number text) h
  where
    sides : (b : Bool) → cond b [] (odd_line place (codes " spells " ++ text) ∷ []) ≡ [] → b ≡ true
    sides true h = refl
    sides false h = absurd (let z : odd_line place (codes " spells " ++ text) ∷ [] ≡ [] = h in cc)

-- one space everywhere
single-if : (b : Bool) (n : ℕ) (word : List ℕ) → (b ≡ true → n ≡ 1) → cond b [] (word ∷ []) ≡ [] → n ≡ 1
single-if true n word is h = is refl
single-if false n word is h = absurd (let z : word ∷ [] ≡ [] = h in cc)

is-one : (n : ℕ) → (n == 1) ≡ true → n ≡ 1
is-one n e = grind (arith, nat_tests)

single : (field : FixedField) (k n : ℕ) → odd_space field k n ≡ [] → n ≡ 1
single field k n h = single-if (n == 1) n _ (is-one n) h

singles : (field : FixedField) (k : ℕ) (counts : List ℕ) → odd_spaces field k counts ≡ [] → counts ≡ replicate (length counts) 1
singles field k [] h = refl
singles field k (n ∷ counts) h =
    let parts = both-empty (odd_space field k n) (odd_spaces field (k + 1) counts) h in
    ap (λ m. m ∷ counts) (single field k n parts.0) ∙ ap (λ r. 1 ∷ r) (singles field (k + 1) counts parts.1)

nothing : spaces_of [] ≡ []
unfolding spaces_of
nothing = refl

-- how many stretches of spaces stand between subfields
spaces-count : (xs : List (List ℕ)) (s t : List ℕ) → HasSubfields t (s ∷ xs) → length (spaces_of t) ≡ length xs
spaces-count [] s t h = ap length (ap spaces_of h.1 ∙ ap spaces_of (sym (append-nil s)) ∙ behind-subfield s [] h.0.1 ∙ nothing)
spaces-count (next ∷ more) s t h =
    ap length (spaces-more t s next more h.1 h.2 h.0 h.3 h.4 h.5) ∙ ap suc (spaces-count more next h.2 h.5)

spaces-same : (field : FixedField) (s t u : List ℕ) (xs : List (List ℕ)) → HasSubfields t (s ∷ xs) → HasSubfields u (s ∷ xs)
    → odd_spaces field 1 (spaces_of t) ≡ [] → odd_spaces field 1 (spaces_of u) ≡ [] → spaces_of t ≡ spaces_of u
spaces-same field s t u xs h k p q =
    singles field 1 (spaces_of t) p
    ∙ ap (λ n. replicate n 1) (spaces-count xs s t h ∙ sym (spaces-count xs s u k))
    ∙ sym (singles field 1 (spaces_of u) q)

-- the places of the fixed part
record PlainFront (l : FrontLayout) : Type 0 where
  size : is_plain_number l.size ≡ true
  records : is_plain_number l.records ≡ true
  duration : is_plain_number l.duration ≡ true
  count : is_plain_number l.count ≡ true
  patient : odd_spaces fixed.Patient 1 l.patient_spaces ≡ []
  recording : odd_spaces fixed.Recording 1 l.recording_spaces ≡ []

plain-front : (l : FrontLayout) (patient recording : List (List ℕ)) → odd_front l patient recording ≡ [] → PlainFront l
unfolding odd_front odd_identification odd_numbers
plain-front l patient recording h =
    let a = both-empty (odd_spaces fixed.Patient 1 l.patient_spaces ++ odd_extras fixed.Patient patient) _ h in
    let b = both-empty (odd_spaces fixed.Recording 1 l.recording_spaces ++ odd_extras fixed.Recording recording) _ a.1 in
    let p = both-empty (odd_spaces fixed.Patient 1 l.patient_spaces) (odd_extras fixed.Patient patient) a.0 in
    let r = both-empty (odd_spaces fixed.Recording 1 l.recording_spaces) (odd_extras fixed.Recording recording) b.0 in
    let c = both-empty (odd_number (AtField fixed.HeaderBytes) l.size) _ b.1 in
    let d = both-empty (odd_number (AtField fixed.Records) l.records) _ c.1 in
    let e = both-empty (odd_number (AtField fixed.Duration) l.duration) _ d.1 in
    record {
      size = plain-number (AtField fixed.HeaderBytes) l.size c.0;
      records = plain-number (AtField fixed.Records) l.records d.0;
      duration = plain-number (AtField fixed.Duration) l.duration e.0;
      count = plain-number (AtField fixed.Signals) l.count e.1;
      patient = p.0;
      recording = r.0;
    }

-- the places of a signal
record PlainSignal (l : SignalLayout) : Type 0 where
  physical_minimum : is_plain_number l.physical_minimum ≡ true
  physical_maximum : is_plain_number l.physical_maximum ≡ true
  digital_minimum : is_plain_number l.digital_minimum ≡ true
  digital_maximum : is_plain_number l.digital_maximum ≡ true
  samples : is_plain_number l.samples ≡ true

plain-signal : (s : ℕ) (l : SignalLayout) → odd_signal s l ≡ [] → PlainSignal l
unfolding odd_signal
plain-signal s l h =
    let a = both-empty (odd_number (AtSignal s signal.PhysicalMinimum) l.physical_minimum) _ h in
    let b = both-empty (odd_number (AtSignal s signal.PhysicalMaximum) l.physical_maximum) _ a.1 in
    let c = both-empty (odd_number (AtSignal s signal.DigitalMinimum) l.digital_minimum) _ b.1 in
    let d = both-empty (odd_number (AtSignal s signal.DigitalMaximum) l.digital_maximum) _ c.1 in
    record {
      physical_minimum = plain-number (AtSignal s signal.PhysicalMinimum) l.physical_minimum a.0;
      physical_maximum = plain-number (AtSignal s signal.PhysicalMaximum) l.physical_maximum b.0;
      digital_minimum = plain-number (AtSignal s signal.DigitalMinimum) l.digital_minimum c.0;
      digital_maximum = plain-number (AtSignal s signal.DigitalMaximum) l.digital_maximum d.0;
      samples = plain-number (AtSignal s signal.Samples) l.samples d.1;
    }

-- plain signals with one head have one layout
signal-same : (xs ys : List ℕ) (n s : ℕ) (a : SignalHead) → HasSignal (column_field xs n s) a → HasSignal (column_field ys n s) a → PlainSignal (signal_layout xs n s) → PlainSignal (signal_layout ys n s) → signal_layout xs n s ≡ signal_layout ys n s
signal-same xs ys n s a h k p q =
    let l = signal_layout xs n s in
    let m = signal_layout ys n s in
    let made : List ℕ → List ℕ → List ℕ → List ℕ → List ℕ → List ℕ → SignalLayout =
    λ z r t u v w. record { label = z; samples = r; physical_minimum = t; physical_maximum = u; digital_minimum = v; digital_maximum = w } in
    ap (λ z. made z l.samples l.physical_minimum l.physical_maximum l.digital_minimum l.digital_maximum) (sym h.label ∙ k.label)
    ∙ ap (λ r. made m.label r l.physical_minimum l.physical_maximum l.digital_minimum l.digital_maximum)
    (one_plain_whole_number (column_field xs n s signal.Samples) (column_field ys n s signal.Samples) (pos a.samples) (whole_in xs (216 * n + 8 * s) 8 (pos a.samples) (omega arith) h.samples) (whole_in ys (216 * n + 8 * s) 8 (pos a.samples) (omega arith) k.samples) p.samples q.samples)
    ∙ ap (λ t. made m.label m.samples t l.physical_maximum l.digital_minimum l.digital_maximum)
    (one_plain_header_number (column_field xs n s signal.PhysicalMinimum) (column_field ys n s signal.PhysicalMinimum) a.calibration.physical_minimum (decimal_in xs (104 * n + 8 * s) 8 a.calibration.physical_minimum (omega arith) h.physical_minimum) (decimal_in ys (104 * n + 8 * s) 8 a.calibration.physical_minimum (omega arith) k.physical_minimum) p.physical_minimum q.physical_minimum)
    ∙ ap (λ u. made m.label m.samples m.physical_minimum u l.digital_minimum l.digital_maximum)
    (one_plain_header_number (column_field xs n s signal.PhysicalMaximum) (column_field ys n s signal.PhysicalMaximum) a.calibration.physical_maximum (decimal_in xs (112 * n + 8 * s) 8 a.calibration.physical_maximum (omega arith) h.physical_maximum) (decimal_in ys (112 * n + 8 * s) 8 a.calibration.physical_maximum (omega arith) k.physical_maximum) p.physical_maximum q.physical_maximum)
    ∙ ap (λ v. made m.label m.samples m.physical_minimum m.physical_maximum v l.digital_maximum)
    (one_plain_whole_number (column_field xs n s signal.DigitalMinimum) (column_field ys n s signal.DigitalMinimum) a.calibration.digital_minimum (whole_in xs (120 * n + 8 * s) 8 a.calibration.digital_minimum (omega arith) h.digital_minimum) (whole_in ys (120 * n + 8 * s) 8 a.calibration.digital_minimum (omega arith) k.digital_minimum) p.digital_minimum q.digital_minimum)
    ∙ ap (λ w. made m.label m.samples m.physical_minimum m.physical_maximum m.digital_minimum w)
    (one_plain_whole_number (column_field xs n s signal.DigitalMaximum) (column_field ys n s signal.DigitalMaximum) a.calibration.digital_maximum (whole_in xs (128 * n + 8 * s) 8 a.calibration.digital_maximum (omega arith) h.digital_maximum) (whole_in ys (128 * n + 8 * s) 8 a.calibration.digital_maximum (omega arith) k.digital_maximum) p.digital_maximum q.digital_maximum)

signals-same : (xs ys : List ℕ) (n : ℕ) (heads : List SignalHead) → length heads ≡ n → ((s : ℕ) (a : SignalHead) → slice_get heads s ≡ Some a → HasSignal (column_field xs n s) a) → ((s : ℕ) (a : SignalHead) → slice_get heads s ≡ Some a → HasSignal (column_field ys n s) a)
    → (s m : ℕ) → s + m ≡ n → odd_signals s (signal_layouts xs n s m) ≡ [] → odd_signals s (signal_layouts ys n s m) ≡ [] → signal_layouts xs n s m ≡ signal_layouts ys n s m
signals-same xs ys n heads long has have s zero all p q = refl
signals-same xs ys n heads long has have s (suc m) all p q =
    let one = both-empty (odd_signal s (signal_layout xs n s)) (odd_signals (s + 1) (signal_layouts xs n (s + 1) m)) p in
    let two = both-empty (odd_signal s (signal_layout ys n s)) (odd_signals (s + 1) (signal_layouts ys n (s + 1) m)) q in
    let a = get-some heads s (omega (arith, long, all)) in
    ap (λ l. l ∷ signal_layouts xs n (s + 1) m) (signal-same xs ys n s a.0 (has s a.0 a.1) (have s a.0 a.1) (plain-signal s (signal_layout xs n s) one.0) (plain-signal s (signal_layout ys n s) two.0))
    ∙ ap (λ ls. signal_layout ys n s ∷ ls) (signals-same xs ys n heads long has have (s + 1) m (omega (arith, all)) one.1 two.1)

-- plain fixed parts that say one header have one layout
units-same : (u v : ℤ) (d : ℤ) → d ≡ u *ℤ pos 100000 → d ≡ v *ℤ pos 100000 → u ≡ v
units-same u v d e f = omega (arith, ints, e, f)

front-same : (file other : List ℕ) (h : Head) → HeaderConforms file h → HeaderConforms other h → PlainFront (front_layout (fixed_part file)) → PlainFront (front_layout (fixed_part other)) → front_layout (fixed_part file) ≡ front_layout (fixed_part other)
front-same file other h c d p q =
    let xs = fixed_part file in
    let ys = fixed_part other in
    let read = in_parts file h c in
    let too = in_parts other h d in
    let l = front_layout xs in
    let m = front_layout ys in
    let f : FixedField → List ℕ = λ k. fixed_field xs k in
    let g : FixedField → List ℕ = λ k. fixed_field ys k in
    let mine = from_picoseconds xs 244 8 h.duration (omega arith) (read.head).duration in
    let other_one = from_picoseconds ys 244 8 h.duration (omega arith) (too.head).duration in
    let units : mine.0 ≡ other_one.0 = units-same mine.0 other_one.0 h.duration mine.2 other_one.2 in
    let made : List ℕ → List ℕ → List ℕ → List ℕ → List ℕ → List ℕ → List ℕ → FrontLayout =
    λ z r s t u v w. record { kind = z; size = r; records = s; duration = t; count = u; patient_spaces = v; recording_spaces = w } in
    ap (λ z. made z l.size l.records l.duration l.count l.patient_spaces l.recording_spaces) ((read.head).kind ∙ sym (too.head).kind)
    ∙ ap (λ r. made m.kind r l.records l.duration l.count l.patient_spaces l.recording_spaces)
    (one_plain_whole_number (f fixed.HeaderBytes) (g fixed.HeaderBytes) (pos (header_bytes h)) (whole_in xs 184 8 (pos (header_bytes h)) (omega arith) read.size) (whole_in ys 184 8 (pos (header_bytes h)) (omega arith) too.size) p.size q.size)
    ∙ ap (λ s. made m.kind m.size s l.duration l.count l.patient_spaces l.recording_spaces)
    (one_plain_whole_number (f fixed.Records) (g fixed.Records) (pos h.records) (whole_in xs 236 8 (pos h.records) (omega arith) (read.head).records) (whole_in ys 236 8 (pos h.records) (omega arith) (too.head).records) p.records q.records)
    ∙ ap (λ t. made m.kind m.size m.records t l.count l.patient_spaces l.recording_spaces)
    (one_plain_header_number (f fixed.Duration) (g fixed.Duration) mine.0 mine.1 (subst (λ v. SpellsHeaderNumber (g fixed.Duration) v) (sym units) other_one.1) p.duration q.duration)
    ∙ ap (λ u. made m.kind m.size m.records m.duration u l.patient_spaces l.recording_spaces)
    (one_plain_whole_number (f fixed.Signals) (g fixed.Signals) (pos (length h.signals)) (whole_in xs 252 4 (pos (length h.signals)) (omega arith) (read.head).count) (whole_in ys 252 4 (pos (length h.signals)) (omega arith) (too.head).count) p.count q.count)
    ∙ ap (λ v. made m.kind m.size m.records m.duration m.count v l.recording_spaces)
    (spaces-same fixed.Patient (h.patient).code (text_of (f fixed.Patient)) (text_of (g fixed.Patient)) ((h.patient).sex ∷ (h.patient).birthdate ∷ (h.patient).name ∷ (h.patient).extras)
    (((read.head).patient).lists).subfields (((too.head).patient).lists).subfields p.patient q.patient)
    ∙ ap (λ w. made m.kind m.size m.records m.duration m.count m.patient_spaces w)
    (spaces-same fixed.Recording (codes "Startdate") (text_of (f fixed.Recording)) (text_of (g fixed.Recording))
    ((h.recording).date ∷ (h.recording).admin ∷ (h.recording).technician ∷ (h.recording).equipment ∷ (h.recording).extras)
    (((read.head).recording).lists).subfields (((too.head).recording).lists).subfields p.recording q.recording)

layouts-same : (file other : List ℕ) (h : Head) → HeaderConforms file h → HeaderConforms other h → places_of (head_layout_of file h) h ≡ [] → places_of (head_layout_of other h) h ≡ [] → head_layout_of file h ≡ head_layout_of other h
unfolding head_layout_of odd_places
layouts-same file other h c d p q =
    let n = length h.signals in
    let xs = columns_part n file in
    let ys = columns_part n other in
    let one = both-empty (odd_front (front_layout (fixed_part file)) h.patient.extras h.recording.extras) (odd_signals 0 (signal_layouts xs n 0 n)) p in
    let two = both-empty (odd_front (front_layout (fixed_part other)) h.patient.extras h.recording.extras) (odd_signals 0 (signal_layouts ys n 0 n)) q in
    let front = front-same file other h c d
    (plain-front (front_layout (fixed_part file)) h.patient.extras h.recording.extras one.0)
    (plain-front (front_layout (fixed_part other)) h.patient.extras h.recording.extras two.0) in
    let signals = signals-same xs ys n h.signals refl (head_in_parts file h c.head).signals (head_in_parts other h d.head).signals 0 n (omega arith) one.1 two.1 in
    ap (λ f. joined f (signal_layouts xs n 0 n)) front ∙ ap (λ s. joined (front_layout (fixed_part other)) s) signals
  where
    joined : FrontLayout → List SignalLayout → HeadLayout
    joined f s = record { front = f; signals = s }

pub plain_headers_are_one : PlainHeadersAreOne
plain_headers_are_one file other h c d p q = (layout_is_the_rest file other h h c d).1 (say-the-same h, layouts-same file other h c d p q)
