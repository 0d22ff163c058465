-- Where the lanes of signals stand in a data record.
use Rattle.std.proofs.Common.{◌≡◌, ℕ, zero, suc, ◌+◌, ◌*◌, ◌≤◌, ◌<◌, ◌++◌, ℤ, Ok, Option, None, Some, IfSome, get_or, subst, ◌∙◌, Bool, true, false, cond, List, [], ◌∷◌, length, drop, map, filter, slice_get, refl, ap, arith, length-take, length-drop}
use Rattle.std.specs.Option.{option_map_or}
use Rattle.edf_fields.specs.Tests.{first}
use Rattle.edf_header.specs.declared.signals.lane_place.LanePlace.{LanePlace}
use Rattle.edf_tal.specs.Reading.{items_of}
use Rattle.edf_tal.specs.Timekeeping.{time_tal}
use Rattle.edf_tal.specs.Views.{start_of}
use Rattle.edf_header.specs.Heads.{SignalHead, Head, AreSideBySide, samples_together, record_bytes, is_annotations}
use Rattle.edf_header.specs.signals.Lanes.{place_of, annotation_places}
use Rattle.edf_header.specs.Sound.{IsSound}
use Rattle.edf_stream.specs.records.Records.{lane_of, annotation_lanes}
use Rattle.edf_stream.specs.records.RecordsReading.{lane_bytes, lane_in}
use Rattle.edf_stream.specs.Faults.{cause_of}
use Rattle.edf_stream.specs.annotation.NotesReading.{notes_of_items}
use Rattle.edf_stream.specs.Views.{placed_lane, placed_lanes, IsTimedAlone}

long : (signals : List SignalHead) (before s : ℕ) (bytes : List ℕ) → AreSideBySide before signals → before + 2 * samples_together signals ≤ length bytes
    → length (option_map_or (λ signal. lane_of signal bytes) (slice_get signals s) []) ≡ 2 * option_map_or (λ signal. signal.samples) (slice_get signals s) 0
long [] before s bytes beside le = refl
long (signal ∷ signals) before zero bytes beside le =
    let at : signal.offset ≡ before = beside.0 in
    omega (arith, at, le, length-take (2 * signal.samples) (drop signal.offset bytes), length-drop signal.offset bytes)
long (signal ∷ signals) before (suc s) bytes beside le = long signals (before + 2 * signal.samples) s bytes beside.1 (omega (arith, le))

-- a lane in the bytes of a whole data record has two bytes for each sample
pub lane_long : (h : Head) (bytes : List ℕ) (s : ℕ) → IsSound h → length bytes ≡ record_bytes h → length (lane_in h bytes s) ≡ lane_bytes h s
lane_long h bytes s sound e = long h.signals 0 s bytes sound.offsets (omega (arith, e))

-- the lanes at the places of the annotation signals are those of these signals
pub lanes_placed : (signals : List SignalHead) (bytes : List ℕ) → placed_lanes (annotation_places signals) bytes ≡ annotation_lanes signals bytes
lanes_placed [] bytes = refl
lanes_placed (signal ∷ signals) bytes = placed-case (is_annotations signal.label) (lanes_placed signals bytes)
  where
    rest : List SignalHead
    rest = filter (λ other. is_annotations other.label) signals

    placed-case : (b : Bool) → placed_lanes (annotation_places signals) bytes ≡ map (λ other. lane_of other bytes) rest
        → placed_lanes (cond b (place_of signal ∷ annotation_places signals) (annotation_places signals)) bytes ≡ map (λ other. lane_of other bytes) (cond b (signal ∷ rest) rest)
    placed-case true h = ap (λ lanes. lane_of signal bytes ∷ lanes) h
    placed-case false h = h

-- one lane that has nothing but the TAL that keeps the time
timed-alone : (place : LanePlace) (signals : List SignalHead) (bytes lane : List ℕ) (v : ℤ) → place ∷ [] ≡ annotation_places signals
    → lane ≡ placed_lane place bytes → items_of lane ≡ Ok (time_tal v) ∷ [] → IsTimedAlone (annotation_lanes signals bytes) v
timed-alone place signals bytes lane v are here items =
    let listed : lane ∷ [] ≡ annotation_lanes signals bytes =
    ap (λ l. l ∷ []) here ∙ ap (λ ps. placed_lanes ps bytes) are ∙ lanes_placed signals bytes in
    let alone : IsTimedAlone (lane ∷ []) v = record {
      fine = ap (λ xs. first (cause_of xs ∷ [])) items;
      said = ap start_of items;
      texts = ap (λ xs. length (notes_of_items xs ++ [])) items;
    } in
    subst (λ lanes. IsTimedAlone lanes v) listed alone

-- so it is where there is one place of an annotation lane
pub lone-lane : (places : List LanePlace) (other : LanePlace) (signals : List SignalHead) (bytes lane : List ℕ) (found : Option ℤ) → places ≡ annotation_places signals
    → 1 ≤ length places → length places < 2 → lane ≡ placed_lane (get_or places 0 other) bytes
    → IfSome found (λ v. items_of lane ≡ Ok (time_tal v) ∷ []) → IfSome found (λ v. IsTimedAlone (annotation_lanes signals bytes) v)
lone-lane [] other signals bytes lane found are some one here items = absurd (omega (arith, some))
lone-lane (place ∷ next ∷ more) other signals bytes lane found are some one here items = absurd (omega (arith, one))
lone-lane (place ∷ []) other signals bytes lane None are some one here items = tt
lone-lane (place ∷ []) other signals bytes lane (Some v) are some one here items = timed-alone place signals bytes lane v are here items
