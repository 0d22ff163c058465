-- One step of a walk over two files from a time on, and where it ends.
use Rattle.std.proofs.Common.{◌≡◌, ℕ, zero, suc, ◌<◌, ◌≤◌, ℤ, ◌+ℤ◌, ◌<ℤ◌, ◌≤ℤ◌, Bool, true, false, inl, inr, List, map, Option, None, Some, is_some, refl, sym, ap, ◌∙◌, arith, subst}
use Rattle.std.proofs.lemmas.Bool.{cases_lt}
use Rattle.std.proofs.lemmas.Int.{ints}
use Rattle.std.specs.Option.{option_or}
use Rattle.edf_claim.specs.ClaimValues.{ClaimValue}
use Rattle.edf_header.specs.Heads.{Head}
use Rattle.edf_stream.specs.declared.records.status.Status.{Status}
use Rattle.edf_stream.specs.declared.records.status.Status.TheVariants.{Current}
use Rattle.edf_stream.specs.Conforming.{Conforms}
use Rattle.edf_stream.specs.annotation.Notes.{NoteValue}
use Rattle.edf_stream.specs.records.Readers.{Reader, is_current}
use Rattle.edf_stream.specs.records.Records.{record_at}
use Rattle.edf_stream.specs.times.Starts.{file_start}
use Rattle.edf_stream.specs.times.StartsReading.{start_at, end_at, end_before, start_in}
use Rattle.edf_stream.proofs.ForCallers.{starts-behind}
use Rattle.edf_samples.specs.declared.earliest.Found.{Found}
use Rattle.edf_pace.specs.declared.walk.lockstep.ReadOn.{ReadOn}
use Rattle.edf_pace.specs.declared.walk.frame.Frame.{Frame}
use Rattle.edf_samples.specs.declared.times.Window.{Window}
use Rattle.edf_pace.specs.declared.walk.turn.Turn.{Turn}
use Rattle.edf_pace.specs.walk.Windows.{IsDifferenceBy, sampled, rest_difference, window_difference, span_difference}
use Rattle.edf_pace.specs.walk.Pairs.{IsFrame, Places, places_of, places_in}
use Rattle.edf_pace.specs.walk.Shown.{Shows, ArePast, Reaches, IsGoing, Covers, ends_at, begin_by, last_end_by}
use Rattle.edf_pace.specs.walk.Readings.{IsAt}
use Rattle.edf_pace.specs.walk.Ends.{IsMatched, IsWalked}
use Rattle.edf_pace.specs.walk.Watching.{HasSeen, TwoFiles, first_between, moved_export, moved_original, two_files}
use Rattle.edf_pace.proofs.walk.LockstepFacts.{HasEnded, are_places, covers_at, has_ended}
use Rattle.edf_pace.proofs.walk.PassFacts.{current_is}
use Rattle.edf_pace.proofs.walk.RecordFacts.{lasts}
use Rattle.edf_pace.proofs.walk.SplitFacts.{ArePlaces, at_end}
use Rattle.edf_pace.proofs.walk.WindowFacts.{window_none, window_parts, rest_parts}

-- ---- where a file ends

-- a data record ends where the last one of the first r does, or before
ends_within : (file : List ℕ) (h : Head) (k r : ℕ) → Conforms file h → k < r → r ≤ h.records → end_at file h k ≤ℤ end_before file h r
ends_within file h k zero c lt le = absurd (omega (arith, lt))
ends_within file h k (suc r) c lt le =
    elim (cases_lt k r) [
      | inl less ↦
          let next : end_at file h k ≤ℤ start_at file h r = starts-behind file h k r c less le in
          let p = lasts file h c in
          omega (arith, ints, next, p)
      | inr few ↦ let same : k ≡ r = omega (arith, lt, few) in let P : ℕ → Type 0 = λ j. end_at file h k ≤ℤ end_at file h j in subst P same (let z : end_at file h k ≤ℤ end_at file h k = omega (arith, ints) in z)
    ]

-- a file ends behind its begin
pub ends_behind : (file : List ℕ) (h : Head) (ps : ℤ) → Conforms file h → begin_by file h ps 0 ≤ℤ last_end_by file h ps
ends_behind file h ps c =
    let some = (c.header).standard.some_records in
    let within : end_at file h 0 ≤ℤ end_before file h h.records = ends_within file h 0 h.records c (omega (arith, some)) (omega arith) in
    let p = lasts file h c in
    omega (arith, ints, within, p)

-- where the last data record ends all are past
pub past_all : (file : List ℕ) (h : Head) (ps t : ℤ) → Conforms file h → t ≡ last_end_by file h ps → ArePast file h ps h.records t
past_all file h ps t c end k lt = let within = ends_within file h k h.records c lt (omega arith) in omega (arith, ints, within, end)

last_past : (file : List ℕ) (h : Head) (ps u : ℤ) (k n : ℕ) → k < n → ArePast file h ps n u → ((file_start h +ℤ ps) +ℤ end_before file h n) ≤ℤ u
last_past file h ps u k zero lt past = absurd (omega (arith, lt))
last_past file h ps u k (suc n) lt past = past n (omega arith)

pub shown_current : (r : Reader) (file : List ℕ) (ps t : ℤ) → is_current r.status ≡ true → Shows r.status r file ps t → Shows Current r file ps t
shown_current r file ps t current shows = let P : Status → Type 0 = λ s. Shows s r file ps t in subst P (current_is r.status current) shows

-- the data record at hand ends where its file does, or before
pub within_file : (r : Reader) (left : List ℕ) (ns : List NoteValue) (file : List ℕ) (claim : Option ClaimValue) (ps t : ℤ) → is_current r.status ≡ true → Conforms file r.head → IsAt r left ns file claim ps t → ends_at r ps ≤ℤ last_end_by file r.head ps
within_file r left ns file claim ps t current c at =
    let shown = shown_current r file ps t current at.shows in
    let end = shown.4 in
    let within = ends_within file r.head shown.0 (r.head).records c shown.2 (omega arith) in
    omega (arith, ints, end, within)

-- the first data record at hand begins where its file does
pub begin_is : (first now : Reader) (left : List ℕ) (ns : List NoteValue) (file : List ℕ) (claim : Option ClaimValue) (ps t : ℤ) → now.head ≡ first.head → is_current now.status ≡ true → now.read ≡ 1 → IsAt now left ns file claim ps t
    → (file_start now.head +ℤ ps) +ℤ start_in now.head now.current ≡ begin_by file first.head ps 0
begin_is first now left ns file claim ps t head current read at =
    let shown = shown_current now file ps t current at.shows in
    let one = shown.1 in
    let zero : shown.0 ≡ 0 = omega (arith, one, read) in
    ap (λ bytes. (file_start now.head +ℤ ps) +ℤ start_in now.head bytes) (shown.3 ∙ ap (record_at file now.head) zero) ∙ ap (λ h. begin_by file h ps 0) head

-- a reader whose data record ended at u or later, and that has none left at u, is at the end of its file
pub ends_there : (first old new : Reader) (left left' : List ℕ) (ns ms : List NoteValue) (file : List ℕ) (claim : Option ClaimValue) (ps t u : ℤ) → old.head ≡ first.head → new.head ≡ first.head → is_current old.status ≡ true → IsGoing new.status
    → is_current new.status ≡ false → Reaches old ps u → IsAt old left ns file claim ps t → IsAt new left' ms file claim ps u → u ≡ last_end_by file first.head ps
ends_there first old new left left' ns ms file claim ps t u ho hn current going none reaches before now =
    let done = has_ended first new left' ms file claim ps u hn going none now in
    let C : Head → Type 0 = λ h. Conforms file h in
    let conforms : Conforms file old.head = subst C (sym ho) (done.through).conforms in
    let within = within_file old left ns file claim ps t current conforms before in
    let same : last_end_by file old.head ps ≡ last_end_by file first.head ps = ap (λ h. last_end_by file h ps) ho in
    let shown = shown_current old file ps t current before.shows in
    let some : shown.0 < (first.head).records = (let e : (old.head).records ≡ (first.head).records = ap (λ (h : Head). h.records) ho in let l = shown.2 in omega (arith, e, l)) in
    let past = last_past file first.head ps u shown.0 (first.head).records some done.past in
    let reached = reaches current in
    omega (arith, ints, within, same, past, reached)

-- ---- a step

-- who held what there is before t, holds what there is before u once it has seen what two readers show
pub seen_next : (Held Holds : TwoFiles → ℤ → ℤ → Type 0) (frame : Frame) (fo fe ro re : Reader) (lo le : List ℕ) (ns ms : List NoteValue) (x y : List ℕ) (s t u end : ℤ)
    → ro.head ≡ fo.head → re.head ≡ fe.head → Conforms x fo.head → Conforms y fe.head → s ≤ℤ t → t <ℤ u → u ≤ℤ end
    → Reaches ro (moved_original frame.turn) end → Reaches re (moved_export frame.turn) end
    → IsAt ro lo ns x (Some ((frame.turn).setting.claim).now) (moved_original frame.turn) t → IsAt re le ms y None (moved_export frame.turn) t
    → HasSeen Held Holds frame ro re t u
    → Held (two_files x fo.head y fe.head) s t → Holds (two_files x fo.head y fe.head) s u
seen_next Held Holds frame fo fe ro re lo le ns ms x y s t u end ho he co ce from later within oo ee ao ae seen =
    let a = moved_original frame.turn in
    let b = moved_export frame.turn in
    let P : Head → Type 0 = λ h. Held (two_files x h y re.head) s t → Holds (two_files x h y re.head) s u in
    let Q : Head → Type 0 = λ g. Held (two_files x fo.head y g) s t → Holds (two_files x fo.head y g) s u in
    subst Q he (subst P ho (seen x y (covers_at fo ro lo ns x (Some ((frame.turn).setting.claim).now) a t u end ho co ao oo within) (covers_at fe re le ms y None b t u end he ce ae ee within) s from))

pub nothing_yet : (held : Option Found) → is_some held ≡ false → held ≡ None
nothing_yet None p = refl
nothing_yet (Some f) p = absurd (let z : true ≡ false = p in cc)

-- the first difference between s and u, where there is none before t
pub first_next : (frame : Frame) (r q : Reader) (w : Window) (x y : List ℕ) (s : ℤ) (held now : Option Found) → IsFrame r.head q.head frame → (w.from).ps ≤ℤ (w.to).ps → held ≡ None → IsDifferenceBy frame r q w now
    → Covers r x (moved_original frame.turn) (w.from).ps (w.to).ps → Covers q y (moved_export frame.turn) (w.from).ps (w.to).ps → s ≤ℤ (w.from).ps
    → held ≡ first_between frame (two_files x r.head y q.head) s (w.from).ps → now ≡ first_between frame (two_files x r.head y q.head) s (w.to).ps
first_next frame r q w x y s held now is order none value cx cy from before =
    let a = moved_original frame.turn in
    let b = moved_export frame.turn in
    let claim = ((frame.turn).setting.claim).now in
    let ps = map places_of (frame.pairs).now in
    value x y cx cy
    ∙ ap (λ z. option_or z (window_difference claim (sampled x r.head a) (sampled y q.head b) ps (w.from).ps (w.to).ps)) (sym none ∙ before)
    ∙ sym (window_parts claim x y r.head q.head a b ps s (w.from).ps (w.to).ps cx.conforms cy.conforms (are_places r.head q.head (frame.pairs).now is.0) from order)

-- what was found before t stays the first difference
pub first_stays : (frame : Frame) (r q : Reader) (w : Window) (x y : List ℕ) (s : ℤ) (held : Option Found) (f : Found) → IsFrame r.head q.head frame → (w.from).ps ≤ℤ (w.to).ps → held ≡ Some f
    → Covers r x (moved_original frame.turn) (w.from).ps (w.to).ps → Covers q y (moved_export frame.turn) (w.from).ps (w.to).ps → s ≤ℤ (w.from).ps
    → held ≡ first_between frame (two_files x r.head y q.head) s (w.from).ps → held ≡ first_between frame (two_files x r.head y q.head) s (w.to).ps
first_stays frame r q w x y s held f is order some cx cy from before =
    let a = moved_original frame.turn in
    let b = moved_export frame.turn in
    let claim = ((frame.turn).setting.claim).now in
    let ps = map places_of (frame.pairs).now in
    some
    ∙ ap (λ z. option_or z (window_difference claim (sampled x r.head a) (sampled y q.head b) ps (w.from).ps (w.to).ps)) (sym some ∙ before)
    ∙ sym (window_parts claim x y r.head q.head a b ps s (w.from).ps (w.to).ps cx.conforms cy.conforms (are_places r.head q.head (frame.pairs).now is.0) from order)

-- ---- the end

pub other_way : (b : Bool) → b ≡ true → b ≡ false → ⊥
other_way b p q = let z : true ≡ false = sym p ∙ q in cc

-- what was found is the first difference from the turn's time on, and no difference before a time that all of both is past
module _ (frame : Frame) (x : List ℕ) (h : Head) (ns : List NoteValue) (y : List ℕ) (g : Head) (ms : List NoteValue) (w : ReadOn) (found : Option Found) (same : map places_of (frame.pairs).now ≡ places_in h g (((frame.turn).setting).labels).now)
    (places : ArePlaces h g (map places_of (frame.pairs).now)) (from : ((frame.turn).from).ps ≤ℤ (w.seen).ps)
    (is : IsWalked frame.turn (two_files x h y g) (λ files t u. None ≡ first_between frame files t u) (λ files t u. found ≡ first_between frame files t u) (is_some found) w) where
  abbrev turn : Turn
  turn = frame.turn

  abbrev ps : List Places
  ps = map places_of (frame.pairs).now

  abbrev claim : ClaimValue
  claim = ((turn.setting).claim).now

  abbrev a : ℤ
  a = moved_original turn

  abbrev b : ℤ
  b = moved_export turn

  abbrev s : ℤ
  s = (turn.from).ps

  abbrev v : ℤ
  v = last_end_by y g b

  abbrev Spans : Bool → List Places → Type 0
  Spans last places' = found ≡ span_difference last claim (sampled x h a) (sampled y g b) places' s v

  seen : Conforms x h → Conforms y g → window_difference claim (sampled x h a) (sampled y g b) ps s (w.seen).ps ≡ found
  seen co ce = sym (is.holds co ce (sym (window_none claim (sampled x h a) (sampled y g b) ps s)))

  over : (last : Bool) → turn.is_last ≡ last → Spans last ps → Spans turn.is_last (places_in h g ((turn.setting).labels).now)
  over last e p = let P : Bool → Type 0 = λ l. Spans l (places_in h g ((turn.setting).labels).now) in subst P (sym e) (subst (Spans last) same p)

  pub matched_end : {lo le : List ℕ} → turn.is_last ≡ true → found ≡ None → (w.seen).ps ≡ (w.reached).ps → HasEnded lo ns x h (Some claim) a (w.reached).ps → HasEnded le ms y g None b (w.reached).ps → IsMatched turn x h ns y g ms found
  matched_end last none at o e =
      let t = (w.reached).ps in
      let ce = (e.through).conforms in
      let P : ℤ → Type 0 = λ u. window_difference claim (sampled x h a) (sampled y g b) ps s u ≡ found in
      let rest : ℤ → Option Found = rest_difference claim (sampled x h a) (sampled y g b) ps in
      record {
        first = λ co. over true last
            (none
            ∙ at_end claim x y h g a b ps t None (rest s) co ce places o.past e.past
            (rest_parts claim x y h g a b ps s t co ce places (let le : s ≤ℤ t = omega (arith, ints, from, at) in le) ∙ ap (λ z. option_or z (rest t)) (subst P at (seen co ce) ∙ none)));
        gathered = λ z. record { exported = e.gathered; kept = λ l. o.gathered };
      }

  pub matched_on : {le : List ℕ} → turn.is_last ≡ false → found ≡ None → (w.seen).ps ≡ (w.reached).ps → HasEnded le ms y g None b (w.reached).ps → IsMatched turn x h ns y g ms found
  matched_on last none at e =
      let P : ℤ → Type 0 = λ u. window_difference claim (sampled x h a) (sampled y g b) ps s u ≡ found in
      record {
        first = λ co. over false last (sym (subst P (at ∙ is.ends (ap is_some none) last) (seen co (e.through).conforms)));
        gathered = λ z. record { exported = e.gathered; kept = λ l. absurd (other_way turn.is_last l last) };
      }

  pub matched_behind : (first : Found) → found ≡ Some first → Conforms y g → IsMatched turn x h ns y g ms found
  matched_behind first some ce = record {
    first = λ co. by turn.is_last refl co;
    gathered = λ z. absurd (let e : Some first ≡ None = sym some ∙ z in cc);
  }
    where
      by : (last : Bool) → turn.is_last ≡ last → Conforms x h → Spans turn.is_last (places_in h g ((turn.setting).labels).now)
      by true last co = over true last
          (some
          ∙ sym (rest_parts claim x y h g a b ps s (w.seen).ps co ce places from ∙ ap (λ z. option_or z (rest_difference claim (sampled x h a) (sampled y g b) ps (w.seen).ps)) (seen co ce ∙ some)))
      by false last co = over false last
          (some
          ∙ sym (window_parts claim x y h g a b ps s (w.seen).ps v co ce places from (is.within last ce)
          ∙ ap (λ z. option_or z (window_difference claim (sampled x h a) (sampled y g b) ps (w.seen).ps v)) (seen co ce ∙ some)))
