-- The items of lanes.
use Rattle.std.proofs.Common.{◌≡◌, ℕ, List, [], ◌∷◌, map, Some, None, Ok, Err, refl, ap, ◌∙◌}
use Rattle.std.specs.List.{All}
use Rattle.std.proofs.lemmas.List.Elements.{All-nil, All-cons, All-head, All-tail}
use Rattle.edf_fields.proofs.ForCallers.{first-cons, pass-cons}
use Rattle.edf_tal.specs.Tals.{TalValue, IsLaneOf}
use Rattle.edf_tal.specs.Reading.{Item, items_of}
use Rattle.edf_tal.proofs.ForCallers.{lane-spelled, lane-read}
use Rattle.edf_stream.specs.Faults.{cause_of, cause_of_lanes}

-- the lane is one of some list of TALs
abbrev pub IsLane : List ℕ → Type 0
IsLane lane = (tals : List TalValue) × IsLaneOf lane tals

-- items without a cause
items-ok : (items : List Item) → cause_of items ≡ None → (tals : List TalValue) × (items ≡ map Ok tals)
items-ok [] e = ([], refl)
items-ok (Ok tal ∷ items) e = let r = items-ok items e in (tal ∷ r.0, ap (λ (xs : List Item). Ok tal ∷ xs) r.1)
items-ok (Err cause ∷ items) e = absurd (let z : Some cause ≡ None = e in cc)

ok-items : (tals : List TalValue) → cause_of (map Ok tals) ≡ None
ok-items [] = refl
ok-items (tal ∷ tals) = ok-items tals

lane-is : (lane : List ℕ) → cause_of (items_of lane) ≡ None → IsLane lane
lane-is lane e = let r = items-ok (items_of lane) e in (r.0, lane-spelled r.0 lane r.1)

lane-none : (lane : List ℕ) → IsLane lane → cause_of (items_of lane) ≡ None
lane-none lane is = ap cause_of (lane-read is.0 lane is.1) ∙ ok-items is.0

-- lanes without a cause are those of TALs
pub lanes-are : (lanes : List (List ℕ)) → cause_of_lanes lanes ≡ None → All IsLane lanes
lanes-are [] e = All-nil IsLane
lanes-are (lane ∷ lanes) e =
    let r = first-cons (cause_of (items_of lane)) (map (λ x. cause_of (items_of x)) lanes) e in
    All-cons IsLane lane lanes (lane-is lane r.0) (lanes-are lanes r.1)

pub lanes-none : (lanes : List (List ℕ)) → All IsLane lanes → cause_of_lanes lanes ≡ None
lanes-none [] all = refl
lanes-none (lane ∷ lanes) all =
    pass-cons (cause_of (items_of lane)) (map (λ x. cause_of (items_of x)) lanes) (lane-none lane (All-head IsLane lane lanes all)) (lanes-none lanes (All-tail IsLane lane lanes all))
