-- What a file means and its layout are the file.
use Rattle.std.proofs.Common.{◌≡◌, inl, inr, ℕ, ℤ, zero, suc, ◌<◌, true, List, [], ◌∷◌, ◌++◌, length, slice_get, Some, None, refl, ap, ◌∙◌, sym, subst, arith}
use Rattle.std.specs.List.Sorted.{IsPermutation}
use Rattle.std.proofs.lemmas.List.Sorted.{IsPermutation-refl}
use Rattle.std.proofs.lemmas.Bool.{cases_lt}
use Rattle.edf_fields.specs.Lists.{Has}
use Rattle.edf_fields.proofs.ForCallers.{has-front, has-back}
use Rattle.edf_header.specs.Heads.{SignalHead, Head, is_annotations}
use Rattle.edf_header.proofs.ForCallers.{one_head, some_channel}
use Rattle.edf_tal.specs.Tals.{TalValue}
use Rattle.edf_stream.specs.Conforming.{Conforms}
use Rattle.edf_stream.specs.annotation.Notes.{NoteValue, SaysRecord, HasNotes, together, notes_of_tal, tal_with}
use Rattle.edf_stream.specs.records.Records.{lane_of, record_at, annotation_lanes}
use Rattle.edf_stream.specs.records.RecordsReading.{lane_at}
use Rattle.edf_stream.proofs.ForCallers.{notes_are_read}
use Rattle.edf_layout.specs.body.BodyLaws.{AreBytes, HaveSameSamples}
use Rattle.edf_layout.specs.body.BodyLayouts.{RecordLayout, BodyLayout, AreLaidLanes, spellings_in, record_contents, IsRecordLayout, HasBodyLayout}
use Rattle.edf_layout.specs.body.FileLaws.{AreLaidAlike, HaveSameTals}
use Rattle.edf_layout.specs.HeadLaws.{SayTheSame}
use Rattle.edf_layout.specs.HeadLayouts.{head_layout_of}
use Rattle.edf_layout.specs.body.LaneLayouts.{TalLayout}
use Rattle.edf_layout.specs.body.MeaningLaws.{HaveSameNotes, HaveSameBodyLayout, BodyHasOneLayout, LayoutAndMeaningAreTheFile}
use Rattle.edf_layout.proofs.body.BodyFacts.{lane-is, starts-equal, sound-at}
use Rattle.edf_layout.proofs.HeadFacts.{head-same, layout_is_the_rest}
use Rattle.edf_layout.proofs.body.LaneFacts.{bool-cases, lanes-first, lanes-other, file_is_its_parts}
use Rattle.edf_layout.proofs.body.ContentFacts.{AreAmong, said_in, record_told}
use Rattle.edf_layout.proofs.body.LayoutFacts.{lanes_one, lanes_hold, one_layout, some_layout}

-- ---- one layout

-- the annotations of a file that conforms
pub one-notes : (file : List ℕ) (h : Head) → Conforms file h → (ns ms : List NoteValue) → HasNotes file h ns → HasNotes file h ms → ns ≡ ms
one-notes file h c ns ms a b = let r = notes_are_read file h c in r.only ns a ∙ sym (r.only ms b)

-- two lists by their members
pub members-same : {X : Type 0} (xs ys : List X) → length xs ≡ length ys → ((k : ℕ) (x y : X) → slice_get xs k ≡ Some x → slice_get ys k ≡ Some y → x ≡ y) → xs ≡ ys
members-same [] [] long each = refl
members-same [] (y ∷ ys) long each = absurd (omega arith)
members-same (x ∷ xs) [] long each = absurd (omega arith)
members-same (x ∷ xs) (y ∷ ys) long each =
    ap (λ z. z ∷ xs) (each 0 x y refl refl) ∙ ap (λ zs. y ∷ zs) (members-same xs ys (omega arith) (λ k a b e f. each (suc k) a b e f))

some-same : {X : Type 0} (y x : X) → Some y ≡ Some x → y ≡ x
some-same y x e = cc

-- a list of members that there are
pub collected : {X : Type 0} (P : ℕ → X → Type 0) (n : ℕ) → ((k : ℕ) → k < n → (x : X) × P k x) → (xs : List X) × (length xs ≡ n) × ((k : ℕ) (x : X) → slice_get xs k ≡ Some x → P k x)
collected P zero each = ([], refl, λ k x e. absurd (let z : None ≡ Some x = e in cc))
collected {X} P (suc n) each =
    let rest = collected (λ k x. P (suc k) x) n (λ k low. each (suc k) (omega arith)) in
    let first = each 0 (omega arith) in
    (first.0 ∷ rest.0, ap suc rest.1, members first.0 rest.0 first.1 rest.2)
  where
    members : (y : X) (ys : List X) → P 0 y → ((k : ℕ) (x : X) → slice_get ys k ≡ Some x → P (suc k) x) → (k : ℕ) (x : X) → slice_get (y ∷ ys) k ≡ Some x → P k x
    members y ys here there zero x e = subst (P 0) (some-same y x e) here
    members y ys here there (suc k) x e = there k x e

records-one : (file : List ℕ) (h : Head) (c : Conforms file h) (ns ms : List NoteValue) → ns ≡ ms → (k : ℕ) (x y : RecordLayout)
    → IsRecordLayout h ns (record_at file h k) x → IsRecordLayout h ms (record_at file h k) y → x ≡ y
records-one file h c ns ms same k x y a b =
    one_layout ns (annotation_lanes h.signals (record_at file h k)) a.talss b.talss x y a.laid a.said b.laid
    (b.said ∙ ap (λ notes. record_contents notes b.talss) (sym same))

at-most : (file : List ℕ) (h : Head) → Conforms file h → (one two : BodyLayout) → HasBodyLayout file h one → HasBodyLayout file h two → one ≡ two
at-most file h c one two a b =
    members-same one two (a.count ∙ sym b.count)
    (λ k x y e f. records-one file h c a.notes b.notes (one-notes file h c a.notes b.notes a.has_notes b.has_notes) k x y (a.records k x e) (b.records k y f))

record-has : (h : Head) (notes : List NoteValue) (bytes : List ℕ) (start : ℤ) (said : List NoteValue) → SaysRecord h bytes start said → (layout : RecordLayout) × IsRecordLayout h notes bytes layout
record-has h notes bytes start said s =
    let r = some_layout notes (annotation_lanes h.signals bytes) _ s.lanes in
    (r.0, record { talss = _; laid = r.1; said = r.2 })

at-least : (file : List ℕ) (h : Head) → Conforms file h → (layout : BodyLayout) × HasBodyLayout file h layout
at-least file h c =
    let notes : List NoteValue = c.notes in
    let r = collected (λ k one. IsRecordLayout h notes (record_at file h k) one) h.records (λ k within. record-has h notes (record_at file h k) ((c.says).starts k) ((c.says).notes k) ((c.says).say k within)) in (
      r.0,
      record { notes = notes; has_notes = c.says; count = r.1; records = r.2 },
    )

pub body_has_one_layout : BodyHasOneLayout
body_has_one_layout file h c = let some = at-least file h c in (some.0, some.1, λ other has. at-most file h c other some.0 has some.1)

-- ---- the same TALs

-- what a data record says is among the annotations of its file
together-has : (notes : ℕ → List NoteValue) (n k : ℕ) (x : NoteValue) → k < n → Has (notes k) x → Has (together notes n) x
together-has notes zero k x low has = absurd (omega arith)
together-has notes (suc n) k x low has = elim (cases_lt k n) [
  | inl less ↦ has-front (together notes n) (notes n) x (together-has notes n k x less has)
  | inr le ↦ has-back (together notes n) (notes n) x (let e : k ≡ n = omega (arith, low, le) in subst (λ j. Has (notes j) x) e has)
]

-- the TALs of a data record that says something
abbrev begun : {h : Head} {bytes : List ℕ} {start : ℤ} {notes : List NoteValue} → SaysRecord h bytes start notes → List (List TalValue)
begun {start = start} s = (tal_with start s.duration ([] ∷ s.texts) ∷ s.beside) ∷ s.others

said-among : (h : Head) (bytes : List ℕ) (start : ℤ) (notes all : List NoteValue) → (s : SaysRecord h bytes start notes) → AreAmong all notes
    → AreAmong all (notes_of_tal (tal_with start s.duration s.texts) ++ said_in (s.beside ∷ s.others))
said-among h bytes start notes all s among n has = among n (subst (λ xs. Has xs n) (sym s.notes_are) has)

-- two data records that start together and have one layout have the same TALs
records-alike : (h : Head) (bytes other : List ℕ) (start : ℤ) (ns ms all more : List NoteValue) (layout : RecordLayout) → IsPermutation all more
    → (s : SaysRecord h bytes start ns) → (r : SaysRecord h other start ms) → AreAmong all ns → AreAmong more ms
    → IsRecordLayout h all bytes layout → IsRecordLayout h more other layout
    → (tss : List (List TalValue)) × AreLaidLanes (annotation_lanes h.signals bytes) tss (spellings_in layout) × AreLaidLanes (annotation_lanes h.signals other) tss (spellings_in layout)
records-alike h bytes other start ns ms all more layout p s r left right a b =
    let lanes = annotation_lanes h.signals bytes in
    let others = annotation_lanes h.signals other in
    let mine : a.talss ≡ begun s = lanes_one lanes a.talss (begun s) (lanes_hold lanes a.talss (spellings_in layout) a.laid) s.lanes in
    let theirs : b.talss ≡ begun r = lanes_one others b.talss (begun r) (lanes_hold others b.talss (spellings_in layout) b.laid) r.lanes in
    let said : record_contents all (begun s) ≡ record_contents more (begun r) =
    ap (record_contents all) (sym mine) ∙ sym a.said ∙ b.said ∙ ap (record_contents more) theirs in
    let same : begun s ≡ begun r = record_told all more p start s.duration r.duration s.texts r.texts s.beside r.beside s.others r.others
    (said-among h bytes start ns all s left) (said-among h other start ms more r right) said in (
      a.talss,
      a.laid,
      subst (λ tss. AreLaidLanes others tss (spellings_in layout)) (theirs ∙ sym same ∙ sym mine) b.laid,
    )

-- the lane of a signal among those of a data record
record RestAlike (lanes others : List (List ℕ)) : Type 0 where
  tss : List (List TalValue)
  spellings : List (List TalLayout)
  left : AreLaidLanes lanes tss spellings
  right : AreLaidLanes others tss spellings

both-first : (lane other : List ℕ) (lanes others : List (List ℕ)) (tss : List (List TalValue)) (spellings : List (List TalLayout))
    → AreLaidLanes (lane ∷ lanes) tss spellings → AreLaidLanes (other ∷ others) tss spellings → AreLaidAlike lane other × RestAlike lanes others
both-first lane other lanes others [] [] h k = absurd h
both-first lane other lanes others [] (s ∷ ss) h k = absurd h
both-first lane other lanes others (ts ∷ tss) [] h k = absurd h
both-first lane other lanes others (ts ∷ tss) (s ∷ ss) h k = ((ts, s, h.0, k.0), record { tss = tss; spellings = ss; left = h.1; right = k.1 })

lane-alike : (signals : List SignalHead) (bytes other : List ℕ) (tss : List (List TalValue)) (spellings : List (List TalLayout)) (s : ℕ) (signal : SignalHead)
    → AreLaidLanes (annotation_lanes signals bytes) tss spellings → AreLaidLanes (annotation_lanes signals other) tss spellings
    → slice_get signals s ≡ Some signal → is_annotations signal.label ≡ true → AreLaidAlike (lane_of signal bytes) (lane_of signal other)
lane-alike [] bytes other tss spellings s signal h k e notes = absurd (let z : None ≡ Some signal = e in cc)
lane-alike (x ∷ xs) bytes other tss spellings zero signal h k e notes =
    let is : x ≡ signal = cc in
    let own : is_annotations x.label ≡ true = ap (λ (z : SignalHead). is_annotations z.label) is ∙ notes in
    let left = subst (λ ls. AreLaidLanes ls tss spellings) (lanes-first x xs bytes own) h in
    let right = subst (λ ls. AreLaidLanes ls tss spellings) (lanes-first x xs other own) k in
    let both = both-first (lane_of x bytes) (lane_of x other) (annotation_lanes xs bytes) (annotation_lanes xs other) tss spellings left right in
    subst (λ (z : SignalHead). AreLaidAlike (lane_of z bytes) (lane_of z other)) is both.0
lane-alike (x ∷ xs) bytes other tss spellings (suc s) signal h k e notes = elim (bool-cases (is_annotations x.label)) [
  | inl own ↦
      let left = subst (λ ls. AreLaidLanes ls tss spellings) (lanes-first x xs bytes own) h in
      let right = subst (λ ls. AreLaidLanes ls tss spellings) (lanes-first x xs other own) k in
      let both = both-first (lane_of x bytes) (lane_of x other) (annotation_lanes xs bytes) (annotation_lanes xs other) tss spellings left right in
      lane-alike xs bytes other (both.1).tss (both.1).spellings s signal (both.1).left (both.1).right e notes
  | inr none ↦
      lane-alike xs bytes other tss spellings s signal
      (subst (λ ls. AreLaidLanes ls tss spellings) (lanes-other x xs bytes none) h)
      (subst (λ ls. AreLaidLanes ls tss spellings) (lanes-other x xs other none) k) e notes
]

-- there is a member at each place
member-there : {X : Type 0} (xs : List X) (k : ℕ) → k < length xs → (x : X) × (slice_get xs k ≡ Some x)
member-there [] k low = absurd (omega arith)
member-there (x ∷ xs) zero low = (x, refl)
member-there (x ∷ xs) (suc k) low = member-there xs k (omega arith)

-- the starts of the data records
pub starts-same : (file other : List ℕ) (h : Head) (c : Conforms file h) (d : Conforms other h) → HaveSameSamples file h other h → (k : ℕ) → k < h.records → (c.says).starts k ≡ (d.says).starts k
starts-same file other h c d same k within =
    let channel = some_channel h.signals ((c.header).standard).channel in
    let there = channel.2 in
    let signal : SignalHead = there.0 in
    starts-equal file other h c d same channel.0 signal there.1 (let e = (there.2).0 in ap is_annotations e ∙ (there.2).1)
    (let some = sound-at h.signals channel.0 signal ((c.header).standard).signals there.1 in omega (arith, some)) (suc k) k (omega arith) within

-- the annotations of a data record stand among those of the file
among-all : (file : List ℕ) (h : Head) (c : Conforms file h) (all : List NoteValue) → HasNotes file h all → (k : ℕ) → k < h.records → AreAmong all ((c.says).notes k)
among-all file h c all has k within n there =
    let own : HasNotes file h (together (c.says).notes h.records) = record { starts = (c.says).starts; notes = (c.says).notes; say = (c.says).say; all_are = refl } in
    subst (λ ns. Has ns n) (one-notes file h c (together (c.says).notes h.records) all own has) (together-has (c.says).notes h.records k n within there)

tals-same : (file other : List ℕ) (h : Head) → Conforms file h → Conforms other h → HaveSameSamples file h other h → HaveSameNotes file h other h → HaveSameBodyLayout file h other h → HaveSameTals file h other h
tals-same file other h c d samples (ns, ms, hasn, hasm, permuted) (layout, left, right) k s signal within get notes =
    let one = member-there layout k (let count = left.count in omega (arith, count, within)) in
    let first : left.notes ≡ ns = one-notes file h c left.notes ns left.has_notes hasn in
    let second : right.notes ≡ ms = one-notes other h d right.notes ms right.has_notes hasm in
    let a : IsRecordLayout h ns (record_at file h k) one.0 = subst (λ all. IsRecordLayout h all (record_at file h k) one.0) first (left.records k one.0 one.1) in
    let b : IsRecordLayout h ms (record_at other h k) one.0 = subst (λ all. IsRecordLayout h all (record_at other h k) one.0) second (right.records k one.0 one.1) in
    let start : (d.says).starts k ≡ (c.says).starts k = sym (starts-same file other h c d samples k within) in
    let says : SaysRecord h (record_at other h k) ((c.says).starts k) ((d.says).notes k) = subst (λ z. SaysRecord h (record_at other h k) z ((d.says).notes k)) start ((d.says).say k within) in
    let r = records-alike h (record_at file h k) (record_at other h k) ((c.says).starts k) ((c.says).notes k) ((d.says).notes k) ns ms one.0 permuted ((c.says).say k within) says
    (among-all file h c ns hasn k within) (among-all other h d ms hasm k within) a b in
    let both = lane-alike h.signals (record_at file h k) (record_at other h k) r.0 (spellings_in one.0) s signal r.1 r.2 get notes in
    subst (λ lane. AreLaidAlike lane (lane_at other h k s)) (sym (lane-is file h k s signal get))
    (subst (λ lane. AreLaidAlike (lane_of signal (record_at file h k)) lane) (sym (lane-is other h k s signal get)) both)

-- ---- together

parts-give : (file other : List ℕ) (h g : Head) → AreBytes file → AreBytes other → Conforms file h → Conforms other g → SayTheSame h g → head_layout_of file h ≡ head_layout_of other g
    → HaveSameSamples file h other g → HaveSameNotes file h other g → HaveSameBodyLayout file h other g → file ≡ other
parts-give file other h g bytes more c d said layout samples notes body =
    let front = (layout_is_the_rest file other h g c.header d.header).1 (said, layout) in
    let is : g ≡ h = sym (head-same file other h g c.header d.header front) in
    let tals : HaveSameTals file h other h =
    tals-same file other h c (subst (λ (k : Head). Conforms other k) is d) (subst (λ (k : Head). HaveSameSamples file h other k) is samples)
    (subst (λ (k : Head). HaveSameNotes file h other k) is notes) (subst (λ (k : Head). HaveSameBodyLayout file h other k) is body) in
    (file_is_its_parts file other h g bytes more c d).1 (said, layout, samples, subst (λ (k : Head). HaveSameTals file h other k) (sym is) tals)

same-bytes-give : (file other : List ℕ) (h g : Head) → AreBytes file → AreBytes other → Conforms file h → Conforms other g → file ≡ other
    → SayTheSame h g × (head_layout_of file h ≡ head_layout_of other g) × HaveSameSamples file h other g × HaveSameNotes file h other g × HaveSameBodyLayout file h other g
same-bytes-give file other h g bytes more c d same =
    let parts = (file_is_its_parts file other h g bytes more c d).0 same in
    let again : Conforms file g = subst (λ f. Conforms f g) (sym same) d in
    let is : h ≡ g = one_head file h g (c.header).head (again.header).head in
    let notes = notes_are_read file h c in
    let body = at-least file h c in
    let own : HaveSameNotes file h file h = (notes.notes, notes.notes, notes.there, notes.there, IsPermutation-refl notes.notes) in
    let laid : HaveSameBodyLayout file h file h = (body.0, body.1, body.1) in (
      parts.0,
      parts.1,
      parts.2,
      subst (λ (k : Head). HaveSameNotes file h other k) is (subst (λ f. HaveSameNotes file h f h) same own),
      subst (λ (k : Head). HaveSameBodyLayout file h other k) is (subst (λ f. HaveSameBodyLayout file h f h) same laid),
    )

pub layout_and_meaning_are_the_file : LayoutAndMeaningAreTheFile
layout_and_meaning_are_the_file file other h g bytes more c d =
    (same-bytes-give file other h g bytes more c d, λ all. parts-give file other h g bytes more c d all.0 all.1 all.2 all.3 all.4)
