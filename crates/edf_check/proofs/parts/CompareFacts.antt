-- A part that is read beside the original: what goes on behind it, and what it came to.
use Rattle.std.proofs.Common.{◌≡◌, ◌↔◌, ℕ, ℤ, Bool, true, false, not, ◌&&◌, ◌||◌, is_some, List, Option, None, Some, Result, Ok, Err, IfSome, MatchOption, refl, ◌∙◌, ap, subst}
use Rattle.edf_claim.specs.ClaimValues.{ClaimValue}
use Rattle.edf_fields.specs.in_out.Sources.{Reads}
use Rattle.edf_header.specs.Heads.{Head}
use Rattle.edf_heads.specs.HeadVerdicts.{HeadsAgree, IsHeadVerdict}
use Rattle.edf_stream.specs.annotation.Notes.{NoteValue}
use Rattle.edf_stream.specs.records.Readers.{Reader}
use Rattle.edf_verdict.specs.declared.verdict.Verdict.{Verdict}
use Rattle.edf_check.specs.declared.parts.part.Course.{Course}
use Rattle.edf_samples.specs.declared.earliest.Found.{Found}
use Rattle.edf_samples.specs.declared.times.Time.{Time}
use Rattle.edf_pace.specs.declared.walk.turn.Turn.{Turn}
use Rattle.edf_pace.specs.Premises.{IfFaulty, IfRead}
use Rattle.edf_check.specs.parts.Ends.{IsBeside, IsPassed, Passes}
use Rattle.edf_pace.specs.declared.walk.lockstep.ReadOn.{ReadOn}
use Rattle.edf_pace.specs.walk.Ends.{AreGathered, IsMatched, IsWalked, moved_original}
use Rattle.edf_pace.specs.walk.Watching.{TwoFiles}
use Rattle.edf_pace.specs.walk.Readings.{GoesOn, Moves, gathered_so_far}
use Rattle.edf_pace.specs.declared.walk.reading.Reading.{Reading}
use Rattle.edf_pace.specs.declared.walk.watchers.found_in.ChannelCount.{ChannelCount}
use Rattle.edf_check.specs.parts.Counted.{IsShown}
use Rattle.edf_pace.proofs.ForCallers.{other_way}

-- ---- what goes on behind a part

-- nobody reads on at a time where nothing more is compared
pub none_at : (P : Type 0) (flag : Bool) → flag ≡ false → flag ≡ true → P
none_at P flag nay yea = absurd (other_way flag yea nay)

-- the original has moved to the end of a part that is the same
pub passes_moved : (turn : Turn) (old new : Reader) (x y : Bool) (f g : Reads) (left left' : List ℕ) (notes notes' : List NoteValue) (flag : Bool) (end : Time) → turn.is_compared ≡ true
    → Moves old new x y f g left left' notes notes' (Some ((turn.setting).claim).now) (moved_original turn) (turn.from).ps end.ps → Passes turn old new x y left left' notes notes' flag end
passes_moved turn old new x y f g left left' notes notes' flag end is m = record {
  head = m.head;
  going = m.going;
  ahead = λ e. m.ahead;
  honesty = m.honesty;
  comes = λ h file b. (let at = m.comes h file (b.at is) in record { there = at.there; at = λ e. at });
}

-- it has gone on to its end, behind a part that is compared
pub passes_on : (turn : Turn) (old mid new : Reader) (x y z : Bool) (f g : Reads) (left mid-left left' : List ℕ) (notes notes' : List NoteValue) (flag : Bool) (t : ℤ) (end : Time) → turn.is_compared ≡ true → flag ≡ false
    → Moves old mid x y f g left mid-left notes notes' (Some ((turn.setting).claim).now) (moved_original turn) (turn.from).ps t → GoesOn mid new y z mid-left left' → Passes turn old new x z left left' notes notes' flag end
passes_on turn old mid new x y z f g left mid-left left' notes notes' flag t end is nay m goes = record {
  head = goes.head ∙ m.head;
  going = goes.going;
  ahead = λ e. none_at _ flag nay e;
  honesty = λ h. goes.honesty (m.honesty h);
  comes = λ h file b. record { there = goes.comes (m.honesty h) file (m.comes h file (b.at is)).there; at = λ e. none_at _ flag nay e };
}

-- a turn in which less is compared
pub beside_less : (r : Reader) (left : List ℕ) (notes : List NoteValue) (file : List ℕ) (claim : ClaimValue) (ps t : ℤ) (more less : Bool) → (less ≡ true → more ≡ true) → IsBeside more r left notes file claim ps t → IsBeside less r left notes file claim ps t
beside_less r left notes file claim ps t more less is b = record { there = b.there; at = λ e. b.at (is e) }

pub passes_less : (turn : Turn) (less : Bool) (old new : Reader) (x z : Bool) (left left' : List ℕ) (notes notes' : List NoteValue) (flag other : Bool) (end : Time) → (less ≡ true → turn.is_compared ≡ true) → (other ≡ true → flag ≡ true)
    → Passes (record turn { is_compared = less }) old new x z left left' notes notes' flag end → Passes turn old new x z left left' notes notes' other end
passes_less turn less old new x z left left' notes notes' flag other end is so p = record {
  head = p.head;
  going = p.going;
  ahead = λ e. p.ahead (so e);
  honesty = p.honesty;
  comes = λ h file b.
      beside_less new left' notes' file ((turn.setting).claim).now (moved_original turn) end.ps flag other so
      (p.comes h file (beside_less old left notes file ((turn.setting).claim).now (moved_original turn) (turn.from).ps turn.is_compared less is b));
}

pub passed_less : (turn : Turn) (less : Bool) (e : List ℕ) (g g' : Head) (left : List ℕ) (course : Course) → g ≡ g' → IsPassed (record turn { is_compared = less }) e g left course → IsPassed turn e g' left course
passed_less turn less e g g' left course same p =
    let P : Head → Type 0 = λ k. IsPassed turn e k left course in
    subst P same (record { ended = record { through = (p.ended).through; end_is = (p.ended).end_is }; early = p.early; later = p.later })

gathered_less : (turn : Turn) (less : Bool) (o : List ℕ) (h : Head) (notes : List NoteValue) (e : List ℕ) (g : Head) (notes' : List NoteValue) → AreGathered (record turn { is_compared = less }) o h notes e g notes'
    → AreGathered turn o h notes e g notes'
gathered_less turn less o h notes e g notes' m = record { exported = m.exported; kept = m.kept }

pub shown_less : (turn : Turn) (less : Bool) (o : List ℕ) (h : Head) (r : Reading) (e : List ℕ) (g g' : Head) (notes : List NoteValue) (tallies : List ChannelCount) → g ≡ g' → IsShown (record turn { is_compared = less }) o h r e g notes tallies
    → IsShown turn o h r e g' notes tallies
shown_less turn less o h r e g g' notes tallies same m =
    let P : Head → Type 0 = λ k. IsShown turn o h r e k notes tallies in
    subst P same (record { counted = m.counted; gathered = gathered_less turn less o h (gathered_so_far r) e g notes m.gathered; head = m.head })

pub matched_less : (turn : Turn) (less : Bool) (o : List ℕ) (h : Head) (notes : List NoteValue) (e : List ℕ) (g g' : Head) (notes' : List NoteValue) (found : Option Found) → g ≡ g' → IsMatched (record turn { is_compared = less }) o h notes e g notes' found
    → IsMatched turn o h notes e g' notes' found
matched_less turn less o h notes e g g' notes' found same m =
    let P : Head → Type 0 = λ k. IsMatched turn o h notes e k notes' found in
    subst P same (record { first = m.first; gathered = λ none. gathered_less turn less o h notes e g notes' (m.gathered none) })

-- the headers agree, or differ so
pub heads_match : (heads : Option Verdict) (h h' g g' : Head) (claim : ClaimValue) → h' ≡ h → g' ≡ g → ((heads ≡ None) ↔ HeadsAgree h' g' claim) → IfSome heads (IsHeadVerdict h' g' claim) → MatchOption heads (HeadsAgree h g claim) (IsHeadVerdict h g claim)
heads_match None h h' g g' claim eh eg none least = let P : Head → Type 0 = λ x. HeadsAgree x g claim in let Q : Head → Type 0 = λ y. HeadsAgree h' y claim in subst P eh (subst Q eg (none.0 refl))
heads_match (Some v) h h' g g' claim eh eg none least = let P : Head → Type 0 = λ x. IsHeadVerdict x g claim v in let Q : Head → Type 0 = λ y. IsHeadVerdict h' y claim v in subst P eh (subst Q eg least)

-- ---- what is said of an answer

pub if_read : {X F E : Type 0} (r : Result (Result X F) E) (P Q : X → Type 0) → ((x : X) → P x → Q x) → IfRead r P → IfRead r Q
if_read (Ok (Ok x)) P Q f h = f x h
if_read (Ok (Err e)) P Q f h = tt
if_read (Err e) P Q f h = tt

pub if_faulty : {X F E : Type 0} (r : Result (Result X F) E) (P Q : F → Type 0) → ((x : F) → P x → Q x) → IfFaulty r P → IfFaulty r Q
if_faulty (Ok (Ok x)) P Q f h = tt
if_faulty (Ok (Err e)) P Q f h = f e h
if_faulty (Err e) P Q f h = tt

-- ---- whether more is compared behind a part

-- neither a difference ends the walk, nor is the part the last one
pub not-over : (p last : Bool) → (p || last) ≡ false → (p ≡ false) × (last ≡ false)
not-over true last e = absurd (let z : true ≡ false = e in cc)
not-over false last e = (refl, e)

pub last-over : (found : Option Found) (quiet last : Bool) → found ≡ None → ((is_some found && quiet) || last) ≡ true → last ≡ true
last-over None quiet last none e = e
last-over (Some f) quiet last none e = absurd (let z : Some f ≡ None = none in cc)

-- a part whose header agrees is compared, where those before it don't differ
pub compared-so : (p looks : Bool) (heads : Option Verdict) → p ≡ true → heads ≡ None → (p && (not (is_some heads) || looks)) ≡ true
compared-so p looks heads a b = rw (a, b) refl

-- the samples of a part are compared, too, where its header differs and somebody looks on
pub compared-beside : (p q looks : Bool) → p ≡ true → looks ≡ true → (p && (q || looks)) ≡ true
compared-beside p true looks a b = rw a refl
compared-beside p false looks a b = rw (a, b) refl

-- where somebody looks on, a header that differs changes nothing
pub compared-alike : (p q looks : Bool) → looks ≡ true → (p && (q || looks)) ≡ p
compared-alike true true looks a = refl
compared-alike true false looks a = a
compared-alike false q looks a = refl

-- a part was compared where its turn says so and it didn't begin early
pub compared-later : (p early : Bool) → p ≡ true → early ≡ false → (p && not early) ≡ true
compared-later p early a b = rw (a, b) refl

pub compared-early : (p early : Bool) → early ≡ true → (p && not early) ≡ false
compared-early true early a = rw a refl
compared-early false early a = refl

pub not-compared : (p early : Bool) → p ≡ false → (p && not early) ≡ false
not-compared p early a = rw a refl

-- ---- who looks on

-- a walk never ends at a difference where somebody looks on
pub never-enough : (found looks : Bool) → looks ≡ true → (found && not looks) ≡ false
never-enough true looks l = rw l refl
never-enough false looks l = refl

-- who has seen enough where nobody looks on, may look further where somebody does
pub is_alone : (turn : Turn) (files : TwoFiles) (Held Holds : TwoFiles → ℤ → ℤ → Type 0) (some quiet : Bool) (walked : ReadOn) → IsWalked turn files Held Holds (some && quiet) walked → IsWalked turn files Held Holds some walked
is_alone turn files Held Holds some quiet walked is = record { holds = is.holds; within = is.within; ends = λ e. is.ends (ap (λ z. z && quiet) e) }

-- ---- tests

pub and-left : (p q : Bool) → (p && q) ≡ true → p ≡ true
and-left true q e = refl
and-left false q e = e

pub and-right : (p q : Bool) → (p && q) ≡ true → q ≡ true
and-right true q e = e
and-right false q e = absurd (let z : false ≡ true = e in cc)

pub and-turned : (p q r : Bool) → ((p && q) && r) ≡ (p && (q && r))
and-turned true q r = refl
and-turned false q r = refl

pub not-true : (b : Bool) → not b ≡ true → b ≡ false
not-true true e = absurd (let z : false ≡ true = e in cc)
not-true false e = refl

pub not-false : (b : Bool) → not b ≡ false → b ≡ true
not-false true e = refl
not-false false e = absurd (let z : true ≡ false = e in cc)
