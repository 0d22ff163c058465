-- How many bytes annotation lanes have, by their places.
use Rattle.std.proofs.Common.{◌≡◌, ℕ, ◌*◌, ◌≤◌, Bool, true, false, cond, List, [], ◌∷◌, ◌++◌, length, drop, map, filter, refl, ap, ◌∙◌, sym}
use Rattle.std.proofs.lemmas.List.{append-nil, drop_all}
use Rattle.edf_header.specs.Heads.{SignalHead, Head, is_annotations}
use Rattle.edf_header.specs.declared.signals.lane_place.LanePlace.{LanePlace}
use Rattle.edf_header.specs.signals.Lanes.{place_of, annotation_places}
use Rattle.edf_layout.specs.body.PlainOrders.{lane_sizes}

sizes-placed : (signals : List SignalHead) → map (λ (place : LanePlace). 2 * place.samples) (annotation_places signals)
    ≡ map (λ (signal : SignalHead). 2 * signal.samples) (filter (λ (signal : SignalHead). is_annotations signal.label) signals)
sizes-placed [] = refl
sizes-placed (signal ∷ signals) = cases (is_annotations signal.label) (sizes-placed signals)
  where
    rest : List SignalHead
    rest = filter (λ (other : SignalHead). is_annotations other.label) signals

    cases : (b : Bool) → map (λ (place : LanePlace). 2 * place.samples) (annotation_places signals) ≡ map (λ (other : SignalHead). 2 * other.samples) rest
        → map (λ (place : LanePlace). 2 * place.samples) (cond b (place_of signal ∷ annotation_places signals) (annotation_places signals))
        ≡ map (λ (other : SignalHead). 2 * other.samples) (cond b (signal ∷ rest) rest)
    cases true same = ap (λ ns. 2 * signal.samples ∷ ns) same
    cases false same = same

-- all are counted
pub sizes-all : (sizes : List ℕ) (places : List LanePlace) (n : ℕ) (h : Head) → length places ≤ n → places ≡ annotation_places h.signals
    → sizes ++ map (λ (place : LanePlace). 2 * place.samples) (drop n places) ≡ map (λ (place : LanePlace). 2 * place.samples) places → sizes ≡ lane_sizes h
sizes-all sizes places n h low is e =
    sym (append-nil sizes) ∙ ap (λ (ps : List LanePlace). sizes ++ map (λ (place : LanePlace). 2 * place.samples) ps) (sym (drop_all n places low)) ∙ e
    ∙ ap (map (λ (place : LanePlace). 2 * place.samples)) is ∙ sizes-placed h.signals
