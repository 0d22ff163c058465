-- What is written of a header tells its layout.
use Rattle.std.proofs.Common.{◌≡◌, ℕ, pos, zero, suc, ◌+◌, ◌<◌, ◌≤◌, ◌^◌, List, [], ◌∷◌, ◌++◌, length, drop, codes, Some, None, arith, refl, ap, ◌∙◌, sym, subst, append_assoc, lit≤}
use Rattle.std.specs.Fmt.{decimal}
use Rattle.std.proofs.lemmas.Int.{ints}
use Rattle.std.proofs.lemmas.List.{append_cancel_left, length-take}
use Rattle.edf_fields.specs.Parts.{part, text_of}
use Rattle.edf_fields.specs.declared.fields.layout.FixedField.{FixedField}
use Rattle.edf_fields.specs.declared.fields.layout.FixedField.TheVariants as fixed
use Rattle.edf_fields.specs.declared.fields.layout.SignalField.TheVariants as signal
use Rattle.edf_fields.specs.fields.Layout.{fixed_field}
use Rattle.edf_fields.specs.fields.LayoutReading.{fixed_part, columns_part, column_field}
use Rattle.edf_fields.specs.texts.NumbersReading.{whole_number_of}
use Rattle.edf_fields.proofs.ForCallers.{whole_number_of-spelled, whole_in}
use Rattle.edf_header.specs.Conforming.{HeaderConforms}
use Rattle.edf_header.specs.Faults.{header_fault}
use Rattle.edf_header.specs.Heads.{SignalHead, Head, HasSignal}
use Rattle.edf_header.specs.HeadsReading.{head_of}
use Rattle.edf_header.proofs.ForCallers.{one_head, passing_has_head, passing_is_conforming, head_in_parts, in_parts}
use Rattle.edf_report.specs.Reports.{text_or_fault}
use Rattle.edf_verdict.specs.Quotes.{quoted, with_quoted}
use Rattle.edf_layout.specs.HeadLayouts.{SignalLayout, FrontLayout, HeadLayout, fixed_text, signal_layout, signal_layouts, front_layout, layout_in, head_layout_of}
use Rattle.edf_layout.specs.HeadLaws.{TextTellsLayout}
use Rattle.edf_layout.specs.HeadReports.{last_line, laid_out, places_of, layout_report, head_layout_text}
use Rattle.edf_layout.specs.HeadTexts.{word_line, spaces_line, added_line, two_texts, extremes_text, signal_line, signal_lines, course_lines, size_lines, identification_lines, front_lines, head_lines}
use Rattle.edf_layout.specs.OddPlaces.{place_lines}
use Rattle.edf_layout.specs.Spaces.{spaces_of}
use Rattle.edf_layout.proofs.CutLineFacts.{High, Shown, sum, cut-word, cut-space, word-cut, spaces-line-cut, added-cut, label-cut}
use Rattle.edf_layout.proofs.FieldFacts.{length-text_of}
use Rattle.edf_layout.proofs.HeadFacts.{field-same, front-long, get-some, layouts-long}
use Rattle.edf_layout.proofs.TextLawFacts.{shown-all, shown-text, shown-take, high-whole, high-number, spaces-small}

-- numbers that a line can hold
abbrev Small : List ℕ → Type 0
Small ns = (sum ns < 2 ^ 64) × (length ns + 1 < 2 ^ 64)

-- a layout whose texts stand in lines
record FrontWritten (l : FrontLayout) : Type 0 where
  kind : Shown l.kind
  duration : Shown l.duration
  records : Shown l.records
  size : Shown l.size
  count : Shown l.count
  patient : Small l.patient_spaces
  recording : Small l.recording_spaces

three : (a b c y : List ℕ) → (a ++ (b ++ c)) ++ y ≡ a ++ (b ++ (c ++ y))
three a b c y = append_assoc a (b ++ c) y ∙ ap (λ r. a ++ r) (append_assoc b c y)

nine : (a b c d e f g h i x : List ℕ) → ((a ++ (b ++ c)) ++ ((d ++ e) ++ ((f ++ g) ++ (h ++ i)))) ++ x ≡ a ++ (b ++ (c ++ (d ++ (e ++ (f ++ (g ++ (h ++ (i ++ x))))))))
nine a b c d e f g h i x =
    append_assoc (a ++ (b ++ c)) ((d ++ e) ++ ((f ++ g) ++ (h ++ i))) x
    ∙ three a b c (((d ++ e) ++ ((f ++ g) ++ (h ++ i))) ++ x)
    ∙ ap (λ r. a ++ (b ++ (c ++ r)))
    (append_assoc (d ++ e) ((f ++ g) ++ (h ++ i)) x ∙ append_assoc d e (((f ++ g) ++ (h ++ i)) ++ x)
    ∙ ap (λ r. d ++ (e ++ r)) (append_assoc (f ++ g) (h ++ i) x ∙ append_assoc f g ((h ++ i) ++ x) ∙ ap (λ r. f ++ (g ++ r)) (append_assoc h i x)))

front-flat : (l : FrontLayout) (x : List ℕ) → front_lines l ++ x
    ≡ word_line (codes "kind") l.kind ++ (word_line (codes "duration") l.duration ++ (word_line (codes "records") l.records
    ++ (word_line (codes "size") l.size ++ (word_line (codes "signals") l.count
    ++ (added_line (codes "patient") 4 l.patient_spaces ++ (spaces_line (codes "patient") l.patient_spaces
    ++ (added_line (codes "recording") 5 l.recording_spaces ++ (spaces_line (codes "recording") l.recording_spaces ++ x))))))))
unfolding front_lines course_lines size_lines identification_lines
front-flat l x =
    nine (word_line (codes "kind") l.kind) (word_line (codes "duration") l.duration) (word_line (codes "records") l.records)
    (word_line (codes "size") l.size) (word_line (codes "signals") l.count)
    (added_line (codes "patient") 4 l.patient_spaces) (spaces_line (codes "patient") l.patient_spaces)
    (added_line (codes "recording") 5 l.recording_spaces) (spaces_line (codes "recording") l.recording_spaces) x

front-cut : (l m : FrontLayout) (x y : List ℕ) → FrontWritten l → FrontWritten m → front_lines l ++ x ≡ front_lines m ++ y → (l ≡ m) × (x ≡ y)
front-cut l m x y h k e =
    let a = word-cut (codes "kind") l.kind m.kind _ _ h.kind k.kind (sym (front-flat l x) ∙ e ∙ front-flat m y) in
    let b = word-cut (codes "duration") l.duration m.duration _ _ h.duration k.duration a.1 in
    let c = word-cut (codes "records") l.records m.records _ _ h.records k.records b.1 in
    let d = word-cut (codes "size") l.size m.size _ _ h.size k.size c.1 in
    let f = word-cut (codes "signals") l.count m.count _ _ h.count k.count d.1 in
    let g = added-cut (codes "patient") 4 l.patient_spaces m.patient_spaces _ _ (h.patient).1 (k.patient).1 f.1 in
    let i = spaces-line-cut (codes "patient") l.patient_spaces m.patient_spaces _ _ (h.patient).0 (k.patient).0 g in
    let j = added-cut (codes "recording") 5 l.recording_spaces m.recording_spaces _ _ (h.recording).1 (k.recording).1 i.1 in
    let n = spaces-line-cut (codes "recording") l.recording_spaces m.recording_spaces x y (h.recording).0 (k.recording).0 j in
    let made : List ℕ → List ℕ → List ℕ → List ℕ → List ℕ → List ℕ → List ℕ → FrontLayout =
    λ q r s t u v w. record { kind = q; size = r; records = s; duration = t; count = u; patient_spaces = v; recording_spaces = w } in (
      ap (λ q. made q l.size l.records l.duration l.count l.patient_spaces l.recording_spaces) a.0
          ∙ ap (λ r. made m.kind r l.records l.duration l.count l.patient_spaces l.recording_spaces) d.0
          ∙ ap (λ s. made m.kind m.size s l.duration l.count l.patient_spaces l.recording_spaces) c.0
          ∙ ap (λ t. made m.kind m.size m.records t l.count l.patient_spaces l.recording_spaces) b.0
          ∙ ap (λ u. made m.kind m.size m.records m.duration u l.patient_spaces l.recording_spaces) f.0
          ∙ ap (λ v. made m.kind m.size m.records m.duration m.count v l.recording_spaces) i.0
          ∙ ap (λ w. made m.kind m.size m.records m.duration m.count m.patient_spaces w) n.0,
      n.1,
    )

-- the same of a signal
record SignalWritten (l : SignalLayout) : Type 0 where
  label : Shown l.label
  samples : High l.samples
  physical_minimum : High l.physical_minimum
  physical_maximum : High l.physical_maximum
  digital_minimum : High l.digital_minimum
  digital_maximum : High l.digital_maximum

signal-parts : (a b c d e f g h i j k x : List ℕ) → (a ++ (b ++ (c ++ (d ++ (((e ++ (f ++ (32 ∷ g))) ++ (h ++ (i ++ (32 ∷ j)))) ++ k))))) ++ x
    ≡ a ++ (b ++ (c ++ (d ++ (e ++ (f ++ (32 ∷ (g ++ (h ++ (i ++ (32 ∷ (j ++ (k ++ x))))))))))))
signal-parts a b c d e f g h i j k x =
    let p = e ++ (f ++ (32 ∷ g)) in
    let q = h ++ (i ++ (32 ∷ j)) in
    append_assoc a (b ++ (c ++ (d ++ ((p ++ q) ++ k)))) x
    ∙ ap (λ r. a ++ r) (append_assoc b (c ++ (d ++ ((p ++ q) ++ k))) x
    ∙ ap (λ r. b ++ r) (append_assoc c (d ++ ((p ++ q) ++ k)) x
    ∙ ap (λ r. c ++ r) (append_assoc d ((p ++ q) ++ k) x
    ∙ ap (λ r. d ++ r) (append_assoc (p ++ q) k x ∙ append_assoc p q (k ++ x) ∙ append_assoc e (f ++ (32 ∷ g)) (q ++ (k ++ x))
    ∙ ap (λ r. e ++ r) (append_assoc f (32 ∷ g) (q ++ (k ++ x))
    ∙ ap (λ r. f ++ (32 ∷ (g ++ r))) (append_assoc h (i ++ (32 ∷ j)) (k ++ x) ∙ ap (λ r. h ++ r) (append_assoc i (32 ∷ j) (k ++ x))))))))

signal-flat : (s : ℕ) (l : SignalLayout) (x : List ℕ) → signal_line s l ++ x
    ≡ codes "signal " ++ (decimal s ++ (codes " samples " ++ (l.samples ++ (codes " physical " ++ (l.physical_minimum ++ (32 ∷ (l.physical_maximum
    ++ (codes " digital " ++ (l.digital_minimum ++ (32 ∷ (l.digital_maximum ++ ((with_quoted (codes " label ") l.label ++ (10 ∷ [])) ++ x))))))))))))
unfolding signal_line extremes_text two_texts
signal-flat s l x =
    signal-parts (codes "signal ") (decimal s) (codes " samples ") l.samples (codes " physical ") l.physical_minimum l.physical_maximum
    (codes " digital ") l.digital_minimum l.digital_maximum (with_quoted (codes " label ") l.label ++ (10 ∷ [])) x

-- what follows the last number
label-begins : (a x : List ℕ) → (with_quoted (codes " label ") a ++ (10 ∷ [])) ++ x ≡ (32 ∷ codes "label ") ++ ((quoted a ++ (10 ∷ [])) ++ x)
unfolding with_quoted
label-begins a x = assoc (codes " label ") (quoted a) x
  where
    assoc : (w q x : List ℕ) → ((w ++ q) ++ (10 ∷ [])) ++ x ≡ w ++ ((q ++ (10 ∷ [])) ++ x)
    assoc w q x = ap (λ r. r ++ x) (append_assoc w q (10 ∷ [])) ∙ append_assoc w (q ++ (10 ∷ [])) x

signal-cut : (s : ℕ) (l m : SignalLayout) (x y : List ℕ) → SignalWritten l → SignalWritten m → signal_line s l ++ x ≡ signal_line s m ++ y → (l ≡ m) × (x ≡ y)
signal-cut s l m x y h k e =
    let behind = append_cancel_left (codes " samples ") _ _ (append_cancel_left (decimal s) _ _ (append_cancel_left (codes "signal ") _ _ (sym (signal-flat s l x) ∙ e ∙ signal-flat s m y))) in
    let a = cut-word l.samples m.samples (codes "physical ") _ _ h.samples k.samples behind in
    let b = cut-space l.physical_minimum m.physical_minimum _ _ h.physical_minimum k.physical_minimum a.1 in
    let c = cut-word l.physical_maximum m.physical_maximum (codes "digital ") _ _ h.physical_maximum k.physical_maximum b.1 in
    let d = cut-space l.digital_minimum m.digital_minimum _ _ h.digital_minimum k.digital_minimum c.1 in
    let f = cut-word l.digital_maximum m.digital_maximum (codes "label ") ((quoted l.label ++ (10 ∷ [])) ++ x) ((quoted m.label ++ (10 ∷ [])) ++ y) h.digital_maximum k.digital_maximum
    (ap (λ r. l.digital_maximum ++ r) (sym (label-begins l.label x)) ∙ d.1 ∙ ap (λ r. m.digital_maximum ++ r) (label-begins m.label y)) in
    let g = label-cut (codes " label ") l.label m.label x y h.label k.label
    (label-begins l.label x ∙ ap (λ r. (32 ∷ codes "label ") ++ r) f.1 ∙ sym (label-begins m.label y)) in
    let made : List ℕ → List ℕ → List ℕ → List ℕ → List ℕ → List ℕ → SignalLayout =
    λ q r t u v w. record { label = q; samples = r; physical_minimum = t; physical_maximum = u; digital_minimum = v; digital_maximum = w } in (
      ap (λ q. made q l.samples l.physical_minimum l.physical_maximum l.digital_minimum l.digital_maximum) g.0
          ∙ ap (λ r. made m.label r l.physical_minimum l.physical_maximum l.digital_minimum l.digital_maximum) a.0
          ∙ ap (λ t. made m.label m.samples t l.physical_maximum l.digital_minimum l.digital_maximum) b.0
          ∙ ap (λ u. made m.label m.samples m.physical_minimum u l.digital_minimum l.digital_maximum) c.0
          ∙ ap (λ v. made m.label m.samples m.physical_minimum m.physical_maximum v l.digital_maximum) d.0
          ∙ ap (λ w. made m.label m.samples m.physical_minimum m.physical_maximum m.digital_minimum w) f.0,
      g.1,
    )

-- signals together
abbrev AllWritten : List SignalLayout → Type 0
AllWritten [] = Unit {0}
AllWritten (l ∷ ls) = SignalWritten l × AllWritten ls

lines-cut : (s : ℕ) (ls ms : List SignalLayout) (x y : List ℕ) → length ls ≡ length ms → AllWritten ls → AllWritten ms → signal_lines s ls ++ x ≡ signal_lines s ms ++ y → (ls ≡ ms) × (x ≡ y)
lines-cut s [] [] x y long h k e = (refl, e)
lines-cut s [] (m ∷ ms) x y long h k e = absurd (omega arith)
lines-cut s (l ∷ ls) [] x y long h k e = absurd (omega arith)
lines-cut s (l ∷ ls) (m ∷ ms) x y long h k e =
    let one = signal-cut s l m (signal_lines (s + 1) ls ++ x) (signal_lines (s + 1) ms ++ y) h.0 k.0
    (sym (append_assoc (signal_line s l) (signal_lines (s + 1) ls) x) ∙ e ∙ append_assoc (signal_line s m) (signal_lines (s + 1) ms) y) in
    let rest = lines-cut (s + 1) ls ms x y (omega arith) h.1 k.1 one.1 in
    (ap (λ z. z ∷ ls) one.0 ∙ ap (λ r. m ∷ r) rest.0, rest.1)

-- the texts of a header that is in order
small-spaces : (t : List ℕ) → length t ≤ 80 → Small (spaces_of t)
small-spaces t long =
    let small = spaces-small t in
    let most : 82 ≤ 2 ^ 64 = lit≤ tt in
    (omega (arith, small.0), omega (arith, small.1))

text-short : (xs : List ℕ) (at n : ℕ) → length (text_of (part xs at n)) ≤ n
text-short xs at n = let a = length-text_of (part xs at n) in let b = length-take n (drop at xs) in omega (arith, a, b)

front-written : (file : List ℕ) (h : Head) → HeaderConforms file h → FrontWritten (front_layout (fixed_part file))
front-written file h c =
    let front = fixed_part file in
    let read = in_parts file h c in
    let text : (field : FixedField) → Shown (fixed_text front field) = λ field. shown-text (fixed_field front field) (shown-all (fixed_field front field) (read.front field)) in
    record {
      kind = shown-take 5 (fixed_field front fixed.Reserved) (shown-all (fixed_field front fixed.Reserved) (read.front fixed.Reserved));
      duration = text fixed.Duration;
      records = text fixed.Records;
      size = text fixed.HeaderBytes;
      count = text fixed.Signals;
      patient = small-spaces (fixed_text front fixed.Patient) (text-short front 8 80);
      recording = small-spaces (fixed_text front fixed.Recording) (text-short front 88 80);
    }

signal-written : (xs : List ℕ) (n s : ℕ) (a : SignalHead) → HasSignal (column_field xs n s) a → Shown (text_of (column_field xs n s signal.Label)) → SignalWritten (signal_layout xs n s)
signal-written xs n s a h label = record {
  label = label;
  samples = high-whole (column_field xs n s signal.Samples) (pos a.samples) h.samples;
  physical_minimum = high-number (column_field xs n s signal.PhysicalMinimum) a.calibration.physical_minimum h.physical_minimum;
  physical_maximum = high-number (column_field xs n s signal.PhysicalMaximum) a.calibration.physical_maximum h.physical_maximum;
  digital_minimum = high-whole (column_field xs n s signal.DigitalMinimum) a.calibration.digital_minimum h.digital_minimum;
  digital_maximum = high-whole (column_field xs n s signal.DigitalMaximum) a.calibration.digital_maximum h.digital_maximum;
}

all-written : (xs : List ℕ) (n s m : ℕ) → ((k : ℕ) → k < m → SignalWritten (signal_layout xs n (s + k))) → AllWritten (signal_layouts xs n s m)
all-written xs n s zero each = tt
all-written xs n s (suc m) each = (
  subst (λ k. SignalWritten (signal_layout xs n k)) (let e : s + 0 ≡ s = omega arith in e) (each 0 (omega arith)),
  all-written xs n (s + 1) m (λ k low. subst (λ j. SignalWritten (signal_layout xs n j)) (let e : s + suc k ≡ s + 1 + k = omega arith in e) (each (suc k) (omega arith))),
)

signals-written : (file : List ℕ) (h : Head) → HeaderConforms file h → AllWritten (signal_layouts (columns_part (length h.signals) file) (length h.signals) 0 (length h.signals))
signals-written file h c =
    let n = length h.signals in
    let xs = columns_part n file in
    all-written xs n 0 n (λ k low.
    let a = get-some h.signals k low in
    subst (λ j. SignalWritten (signal_layout xs n j)) (let e : k ≡ 0 + k = omega arith in e)
    (signal-written xs n k a.0 ((head_in_parts file h c.head).signals k a.0 a.1) (shown-text (column_field xs n k signal.Label) (shown-all (column_field xs n k signal.Label) ((in_parts file h c).columns k low signal.Label)))))

-- what is written begins with the lines of the layout
text-begins : (file : List ℕ) (h : Head) → HeaderConforms file h → (rest : List ℕ) × (head_layout_text file
    ≡ head_lines (layout_in (fixed_part file) (length h.signals) (columns_part (length h.signals) file)) ++ rest)
unfolding head_layout_text laid_out head_layout_of
text-begins file h c =
    let passed : header_fault file ≡ None = (passing_is_conforming file).1 (h, c) in
    let is : head_of file ≡ h = one_head file (head_of file) h (passing_has_head file passed) c.head in
    let layout : Head → HeadLayout = λ g. layout_in (fixed_part file) (length g.signals) (columns_part (length g.signals) file) in (
      place_lines (places_of (layout h) h) ++ last_line (length (places_of (layout h) h)),
      ap (text_or_fault (layout_report (layout (head_of file)) (head_of file))) passed ∙ ap (λ (g : Head). layout_report (layout g) g) is,
    )

counts-same : (file other : List ℕ) (h g : Head) → HeaderConforms file h → HeaderConforms other g → front_layout (fixed_part file) ≡ front_layout (fixed_part other) → length h.signals ≡ length g.signals
counts-same file other h g c d same =
    let xs = fixed_part file in
    let ys = fixed_part other in
    let long = front-long file h c in
    let less = front-long other g d in
    let field : fixed_field xs fixed.Signals ≡ fixed_field ys fixed.Signals = field-same xs ys 252 4 (omega arith) (omega arith) (ap (λ (l : FrontLayout). l.count) same) in
    let values : Some (pos (length h.signals)) ≡ Some (pos (length g.signals)) =
    sym (whole_number_of-spelled (fixed_field xs fixed.Signals) (pos (length h.signals)) (whole_in xs 252 4 (pos (length h.signals)) (omega arith) (head_in_parts file h c.head).count)) ∙ ap whole_number_of field
    ∙ whole_number_of-spelled (fixed_field ys fixed.Signals) (pos (length g.signals)) (whole_in ys 252 4 (pos (length g.signals)) (omega arith) (head_in_parts other g d.head).count) in
    let value : pos (length h.signals) ≡ pos (length g.signals) = cc in
    omega (arith, ints, value)

-- the lines of two headers, with what stands behind them
pub head-cut : (file other : List ℕ) (h g : Head) (x y : List ℕ) → HeaderConforms file h → HeaderConforms other g
    → head_lines (head_layout_of file h) ++ x ≡ head_lines (head_layout_of other g) ++ y → (head_layout_of file h ≡ head_layout_of other g) × (x ≡ y)
unfolding head_layout_of head_lines
head-cut file other h g x y c d same =
    let n = length h.signals in
    let m = length g.signals in
    let xs = columns_part n file in
    let ys = columns_part m other in
    let ls = signal_layouts xs n 0 n in
    let ms = signal_layouts ys m 0 m in
    let front = front-cut (front_layout (fixed_part file)) (front_layout (fixed_part other)) (signal_lines 0 ls ++ x) (signal_lines 0 ms ++ y) (front-written file h c) (front-written other g d)
    (sym (append_assoc (front_lines (front_layout (fixed_part file))) (signal_lines 0 ls) x) ∙ same
    ∙ append_assoc (front_lines (front_layout (fixed_part other))) (signal_lines 0 ms) y) in
    let count = counts-same file other h g c d front.0 in
    let long : length ls ≡ length ms = layouts-long xs n 0 n ∙ count ∙ sym (layouts-long ys m 0 m) in
    let signals = lines-cut 0 ls ms x y long (signals-written file h c) (signals-written other g d) front.1 in
    (ap (λ f. joined f ls) front.0 ∙ ap (λ s. joined (front_layout (fixed_part other)) s) signals.0, signals.1)
  where
    joined : FrontLayout → List SignalLayout → HeadLayout
    joined f s = record { front = f; signals = s }

pub text_tells_layout : TextTellsLayout
unfolding head_layout_of
text_tells_layout file other h g c d same =
    let one = text-begins file h c in
    let two = text-begins other g d in
    (head-cut file other h g one.0 two.0 c d (sym one.1 ∙ same ∙ two.1)).0
