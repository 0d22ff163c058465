-- One step of a walk over two files, and its end.
use Rattle.std.proofs.Common.{◌≡◌, ℕ, ℤ, ◌≤ℤ◌, false, List, [], ◌∷◌, map, Option, None, Some, option_map, IfSome, refl, sym, ap, ◌∙◌, arith, subst}
use Rattle.std.proofs.lemmas.Int.{ints}
use Rattle.std.proofs.lemmas.List.Elements.{All-head, All-tail}
use Rattle.edf_claim.specs.ClaimValues.{ClaimValue}
use Rattle.edf_fields.specs.declared.faults.fault.Fault.{Fault}
use Rattle.edf_header.specs.Heads.{Head}
use Rattle.edf_stream.specs.declared.records.status.Status.{Status}
use Rattle.edf_stream.specs.declared.records.status.Status.TheVariants.{Ended}
use Rattle.edf_stream.specs.Conforming.{Conforms}
use Rattle.edf_stream.specs.Faults.{body_fault, file_fault}
use Rattle.edf_stream.specs.annotation.Notes.{NoteValue}
use Rattle.edf_stream.specs.annotation.NotesReading.{moved_notes_before, notes_of}
use Rattle.edf_stream.specs.records.Readers.{Reader, StandsIn, is_current}
use Rattle.edf_pace.specs.declared.walk.fault_of.FaultOf.{FaultOf}
use Rattle.edf_pace.specs.declared.walk.fault_of.FaultOf.TheVariants as faults
use Rattle.edf_pace.specs.declared.walk.track.Pair.{Pair}
use Rattle.edf_pace.specs.declared.walk.track.Track.{Track}
use Rattle.edf_pace.specs.walk.Pairs.{places_of, ArePairs, IsTrack, IsPlaceIn}
use Rattle.edf_pace.specs.walk.Shown.{Shows, ArePast, Reaches, IsGoing, Covers}
use Rattle.edf_pace.specs.walk.Readings.{IsAt}
use Rattle.edf_pace.specs.walk.Gathered.{gathered_of}
use Rattle.edf_pace.specs.walk.Ends.{first_fault_of, IsFaultBy, IsFaultOf, IsReadThrough}
use Rattle.edf_pace.proofs.walk.PassFacts.{ended_is}
use Rattle.edf_pace.proofs.walk.SplitFacts.{ArePlaces}
use Rattle.edf_pace.proofs.walk.FileFacts.{fault_is}

-- ---- the channels of pairs

place-of-track : (h : Head) (o : Option Track) → IfSome o (IsTrack h) → IfSome (option_map (λ (track : Track). track.place) o) (IsPlaceIn h)
place-of-track h None t = tt
place-of-track h (Some track) t = t.place

pub are_places : (h g : Head) (pairs : List Pair) → ArePairs h g pairs → ArePlaces h g (map places_of pairs)
unfolding ArePlaces
are_places h g [] all = tt
are_places h g (p ∷ ps) all =
    let P : Pair → Type 0 = λ q. IfSome q.original (IsTrack h) × IfSome q.export (IsTrack g) in
    let here = All-head P p ps all in
    (place-of-track h p.original here.0, place-of-track g p.export here.1, are_places h g ps (All-tail P p ps all))

-- ---- a step

pub covers_at : (first now : Reader) (left : List ℕ) (notes : List NoteValue) (file : List ℕ) (claim : Option ClaimValue) (ps t u end : ℤ) → now.head ≡ first.head → Conforms file first.head → IsAt now left notes file claim ps t → Reaches now ps end → u ≤ℤ end → Covers now file ps t u
covers_at first now left notes file claim ps t u end head conforms at reaches l =
    let P : Head → Type 0 = λ h. Conforms file h in
    record { conforms = subst P (sym head) conforms; shows = at.shows; reaches = λ e. (let r = reaches e in omega (arith, ints, r, l)) }

-- ---- the end

-- a reader that has no data record at hand has gone through a file that conforms, and gathered its annotations
pub record HasEnded (left : List ℕ) (notes : List NoteValue) (file : List ℕ) (h : Head) (claim : Option ClaimValue) (ps t : ℤ) : Type 0 where
  pub through : IsReadThrough file h left
  pub gathered : notes ≡ gathered_of claim ps (notes_of file h)
  pub past : ArePast file h ps h.records t

all-gathered : (claim : Option ClaimValue) (ps : ℤ) (file : List ℕ) (h : Head) (k : ℕ) (notes : List NoteValue) → notes ≡ gathered_of claim ps (moved_notes_before file h k) → k ≡ h.records → notes ≡ gathered_of claim ps (notes_of file h)
unfolding notes_of
all-gathered claim ps file h k notes e read = e ∙ ap (λ j. gathered_of claim ps (moved_notes_before file h j)) read

pub has_ended : (first now : Reader) (left : List ℕ) (notes : List NoteValue) (file : List ℕ) (claim : Option ClaimValue) (ps t : ℤ) → now.head ≡ first.head → IsGoing now.status → is_current now.status ≡ false → IsAt now left notes file claim ps t → HasEnded left notes file first.head claim ps t
has_ended first now left notes file claim ps t head going none at =
    let ended : now.status ≡ Ended = ended_is now.status going none in
    let P : Status → Type 0 = λ s. Shows s now file ps t in
    let past : ArePast file now.head ps (now.head).records t = subst P ended at.shows in
    let both = (at.there).ended ended in
    let Q : Head → Type 0 = λ h. HasEnded left notes file h claim ps t in
    subst Q head (record {
      through = record { fault = both.0; conforms = both.1; gone = both.2 };
      gathered = all-gathered claim ps file now.head now.read notes at.gathered both.3;
      past = past;
    })

-- ---- faults

-- the original's fault, or else that of the part
pub fault_after : (o : List ℕ) (h : Head) (left e : List ℕ) (g : Head) (part : ℕ) (f : Fault) (w : FaultOf) → body_fault e g ≡ Some f → w ≡ first_fault_of (body_fault o h) part f → (body_fault o h ≡ None → left ≡ [])
    → IsFaultOf o h left e g part w
fault_after o h left e g part f w fault is gone = subst (IsFaultOf o h left e g part) (sym is) (cases (body_fault o h) refl)
  where
    cases : (x : Option Fault) → body_fault o h ≡ x → IsFaultOf o h left e g part (first_fault_of x part f)
    cases None p = (refl, p, fault, gone p)
    cases (Some first) p = p

-- the same where the part's header may have the fault
pub fault_by_header : (o : List ℕ) (h : Head) (left e : List ℕ) (part : ℕ) (f : Fault) (w : FaultOf) → file_fault e ≡ Some f → w ≡ first_fault_of (body_fault o h) part f → (body_fault o h ≡ None → left ≡ [])
    → IsFaultBy o h left e part w
fault_by_header o h left e part f w fault is gone = subst (IsFaultBy o h left e part) (sym is) (cases (body_fault o h) refl)
  where
    cases : (x : Option Fault) → body_fault o h ≡ x → IsFaultBy o h left e part (first_fault_of x part f)
    cases None p = (refl, p, fault, gone p)
    cases (Some first) p = p

-- the fault of a part in which a reader stands
pub fault_by : (o : List ℕ) (h : Head) (left : List ℕ) (r : Reader) (left' e : List ℕ) (part : ℕ) (w : FaultOf) → StandsIn r left' e → IsFaultOf o h left e r.head part w → IsFaultBy o h left e part w
fault_by o h left r left' e part (faults.Original fault) s p = p
fault_by o h left r left' e part (faults.Part other fault) s p = (p.0, p.1, fault_is r left' e s ∙ p.2, p.3)

pub fault_of_heads : (o left e : List ℕ) (h h' g g' : Head) (part : ℕ) (w : FaultOf) → h ≡ h' → g ≡ g' → IsFaultOf o h left e g part w → IsFaultOf o h' left e g' part w
fault_of_heads o left e h h' g g' part w p q is =
    let P : Head → Type 0 = λ x. IsFaultOf o x left e g part w in
    let Q : Head → Type 0 = λ x. IsFaultOf o h' left e x part w in
    subst Q q (subst P p is)
