-- Where both plain orders put each annotation into the same data record, they fill the lanes alike.
use Rattle.std.proofs.Common.{◌≡◌, ℕ, ℤ, zero, suc, cond, ◌+◌, ◌*◌, ◌<◌, ◌≤◌, List, [], ◌∷◌, length, drop, get_or, map, arith, refl, ap, ◌∙◌, sym, subst, le-ltb}
use Rattle.std.proofs.Math.Seq.{drop-cons}
use Rattle.std.proofs.lemmas.List.{length-map}
use Rattle.edf_stream.specs.Views.{note_value}
use Rattle.edf_stream.specs.annotation.Notes.{NoteValue}
use Rattle.edf_stream.specs.declared.annotation.notes.Note.{Note}
use Rattle.edf_layout.specs.body.BodyLayouts.{BodyLayout}
use Rattle.edf_layout.specs.body.OddLanes.{OddLane, base_order, odd_from, odd_lanes}
use Rattle.edf_layout.specs.body.PlainLanes.{DoAgree}
use Rattle.edf_layout.specs.body.PlainOrders.{FilledLane, OneByOne, ByTime, bare_record, filled, parts_of, plain_lanes, plain_record, put_from, record_for, tal_of_note}
use Rattle.edf_layout.specs.whole.LaneRows.{AreFirst, IsLaidBody}
use Rattle.edf_layout.proofs.lanes.BestOrderFacts.{are-all}
use Rattle.std.specs.List.{flat_map}

-- ---- one by one

pub agree-more : (starts : List ℤ) (number : ℕ) (notes : List Note) (note : Note) → number < length notes → note ≡ get_or notes number note
    → record_for OneByOne starts number (note_value note) ≡ record_for ByTime starts number (note_value note)
    → DoAgree starts (number + 1) (map note_value (drop (number + 1) notes)) → DoAgree starts number (map note_value (drop number notes))
agree-more starts number notes note low is here rest =
    let less : suc number ≡ number + 1 = omega arith in
    let cut : drop number notes ≡ note ∷ drop (number + 1) notes =
    drop-cons notes number note low ∙ ap (λ z. z ∷ drop (suc number) notes) (sym is) ∙ ap (λ k. note ∷ drop k notes) less in
    subst (λ ns. DoAgree starts number (map note_value ns)) (sym cut) (here, rest)

pub agree-none : (starts : List ℤ) (k i : ℕ) (notes : List Note) → length notes ≤ i → DoAgree starts k (map note_value (drop i notes))
agree-none starts k zero [] h = tt
agree-none starts k (suc i) [] h = tt
agree-none starts k zero (n ∷ ns) h = absurd (omega (arith, h))
agree-none starts k (suc i) (n ∷ ns) h = agree-none starts k i ns (omega (arith, h))

-- ---- all lanes

filled-alike : (starts : List ℤ) (width i : ℕ) (notes : List NoteValue) (lanes : List FilledLane) → DoAgree starts i notes → filled OneByOne starts width i notes lanes ≡ filled ByTime starts width i notes lanes
filled-alike starts width i [] lanes h = refl
filled-alike starts width i (note ∷ notes) lanes h =
    ap (λ r. filled OneByOne starts width (i + 1) notes (put_from (width * r) (tal_of_note note) lanes)) h.0
    ∙ filled-alike starts width (i + 1) notes (put_from (width * record_for ByTime starts i note) (tal_of_note note) lanes) h.1

odd-alike : (notes : List NoteValue) (sizes : List ℕ) (starts : List ℤ) (layout : BodyLayout) → DoAgree starts 0 notes → odd_lanes OneByOne notes sizes starts layout ≡ odd_lanes ByTime notes sizes starts layout
unfolding odd_lanes plain_lanes
odd-alike notes sizes starts layout h =
    ap (λ ls. odd_from 0 layout (map (plain_record notes) (parts_of (length sizes) (length starts) (map (λ (lane : FilledLane). lane.tals) ls))))
    (filled-alike starts (length sizes) 0 notes (flat_map (bare_record sizes) starts) h)

-- so the first order has the same lanes otherwise as the other, and goes before it
pub first-fits : {X : Type 0} (view : X → OddLane) (notes : List NoteValue) (sizes : List ℕ) (starts : List ℤ) (layout : BodyLayout) (most : ℕ) (by : List X)
    → length by ≤ most → AreFirst most (map view by) (odd_lanes ByTime notes sizes starts layout) → DoAgree starts 0 notes → IsLaidBody notes sizes starts layout OneByOne (map view by)
unfolding base_order
first-fits view notes sizes starts layout most by low f h =
    let those = odd_lanes ByTime notes sizes starts layout in
    let others = odd_lanes OneByOne notes sizes starts layout in
    let alike : others ≡ those = odd-alike notes sizes starts layout h in
    let same : length others ≡ length those = ap length alike in
    let here = length-map by view in
    let few : length (map view by) ≤ most = omega (arith, here, low) in
    record {
      order_is = sym (ap (λ b. cond b ByTime OneByOne) (le-ltb (length those) (length others) (omega (arith, same))));
      odd_is = are-all most (map view by) those few f ∙ sym alike;
    }
