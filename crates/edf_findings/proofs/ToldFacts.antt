-- What is told of the claimed channels that both files have.
use Rattle.std.proofs.Math.Seq.{take-suc}
use Rattle.std.proofs.lemmas.List.{append-nil, map-append, length-take}
use Rattle.std.proofs.lemmas.Option.{get_or_from_slice_get, slice_get_within}
use Rattle.std.proofs.Common.{IfSome, take, ◌≡◌, ◌∙◌, ◌++◌, ◌+◌, ◌&&◌, ◌⊎◌, ℕ, zero, suc, Bor, Bool, true, false, List, [], ◌∷◌, Option, None, Some, is_some, option_map, map, length, slice_get, inl, inr, if◌then◌else◌, refl, sym, ap, arith, subst}
use Rattle.edf_claim.specs.ClaimValues.{ClaimValue}
use Rattle.edf_fields.specs.Lists.{Has}
use Rattle.edf_fields.proofs.ForCallers.{has-append}
use Rattle.edf_findings.specs.declared.samples.compared.ComparedChannel.{ComparedChannel}
use Rattle.edf_header.specs.Heads.{Head}
use Rattle.edf_heads.specs.Comparisons.{IsPlaceOf}
use Rattle.edf_pace.specs.declared.walk.track.Pair.{Pair}
use Rattle.edf_pace.specs.declared.walk.track.Track.{Track}
use Rattle.edf_pace.specs.walk.Columns.{channel_at}
use Rattle.edf_pace.specs.walk.Pairs.{Places, places_in, places_of}
use Rattle.edf_findings.specs.declared.part.PartFindings.{PartFindings}
use Rattle.edf_findings.specs.declared.part.ReadPart.{ReadPart}
use Rattle.edf_findings.specs.Found.{AreFoundIn, IsFoundIn}
use Rattle.edf_findings.specs.Told.{IsToldAt, IsToldOf, Seen, is_in_both, places_from, with_one}

-- the pair at the place of a label has the channels of this label
pub pair-at : (h g : Head) (labels : List (Bor (List ℕ))) (pairs : List Pair) (label : List ℕ) (at : ℕ) (pair : Pair) → map places_of pairs ≡ places_in h g labels → IsPlaceOf labels label at → slice_get pairs at ≡ Some pair
    → places_of pair ≡ (channel_at label h, channel_at label g)
pair-at h g [] pairs label at pair e p s = absurd (let z : None ≡ Some label = p in cc)
pair-at h g (l ∷ ls) [] label at pair e p s = absurd (let z : None ≡ Some pair = s in cc)
pair-at h g (l ∷ ls) (q ∷ qs) label zero pair e p s =
    let here : l.now ≡ label = cc in
    let this : q ≡ pair = cc in
    let same : places_of q ≡ (channel_at l.now h, channel_at l.now g) = cc in
    ap places_of (sym this) ∙ same ∙ ap (λ (t : List ℕ). (channel_at t h, channel_at t g)) here
pair-at h g (l ∷ ls) (q ∷ qs) label (suc at) pair e p s =
    let rest : map places_of qs ≡ places_in h g ls = cc in
    pair-at h g ls qs label at pair rest p s

some-mapped : {X Y : Type 0} (f : X → Y) (x : Option X) → is_some (option_map f x) ≡ is_some x
some-mapped f None = refl
some-mapped f (Some x) = refl

pub both-there : {X : Type 0} (x y : Option X) (a b : X) → x ≡ Some a → y ≡ Some b → true ≡ (is_some x && is_some y)
both-there x y a b p q = rw (p, q) refl

pub first-lacks : {X : Type 0} (x y : Option X) → x ≡ None → false ≡ (is_some x && is_some y)
first-lacks x y p = rw p refl

pub second-lacks : {X : Type 0} (x y : Option X) → y ≡ None → false ≡ (is_some x && is_some y)
second-lacks None y p = refl
second-lacks (Some x) y p = rw p refl

-- both files have channels of the label exactly where the pair has both
pub both-at : (h g : Head) (labels : List (Bor (List ℕ))) (pairs : List Pair) (label : List ℕ) (at : ℕ) (pair : Pair) → map places_of pairs ≡ places_in h g labels → IsPlaceOf labels label at → slice_get pairs at ≡ Some pair
    → (is_some pair.original && is_some pair.export) ≡ is_in_both h g label
both-at h g labels pairs label at pair e p s =
    let are = pair-at h g labels pairs label at pair e p s in
    let here : is_some pair.original ≡ is_some (channel_at label h) = sym (some-mapped (λ (track : Track). track.place) pair.original) ∙ ap (λ (x : Places). is_some x.0) are in
    let there : is_some pair.export ≡ is_some (channel_at label g) = sym (some-mapped (λ (track : Track). track.place) pair.export) ∙ ap (λ (x : Places). is_some x.1) are in
    ap (λ b. b && is_some pair.export) here ∙ ap (λ b. is_some (channel_at label h) && b) there

-- the place of a label is one of the places of as many things
pub place-within : {X : Type 0} (labels : List (Bor (List ℕ))) (xs : List X) (label : List ℕ) (at : ℕ) → length xs ≡ length labels → IsPlaceOf labels label at → slice_get xs at ≡ None → ⊥
place-within [] xs label at e p s = absurd (let z : None ≡ Some label = p in cc)
place-within (l ∷ ls) [] label at e p s = omega (arith, e)
place-within (l ∷ ls) (x ∷ xs) label zero e p s = absurd (let z : Some x ≡ None = s in cc)
place-within (l ∷ ls) (x ∷ xs) label (suc at) e p s = place-within ls xs label at (omega (arith, e)) p s

-- one label more
more-by : (h g : Head) (k : ℕ) (label : List ℕ) (b : Bool) → is_in_both h g label ≡ b → places_from h g k (label ∷ []) ≡ (if b then k ∷ [] else [])
more-by h g k label true e = rw e refl
more-by h g k label false e = rw e refl

on-by : (h g : Head) (k : ℕ) (l : List ℕ) (ls : List (List ℕ)) (b : Bool) → is_in_both h g l ≡ b → places_from h g k (l ∷ ls) ≡ (if b then k ∷ places_from h g (k + 1) ls else places_from h g (k + 1) ls)
on-by h g k l ls true e = rw e refl
on-by h g k l ls false e = rw e refl

-- the place of the label, if it is told
abbrev pub one-place : Head → Head → ℕ → List ℕ → List ℕ
one-place h g k label = if is_in_both h g label then k ∷ [] else []

front : (b : Bool) (k : ℕ) (xs ys more : List ℕ) → ys ≡ xs ++ more → (if b then k ∷ ys else ys) ≡ (if b then k ∷ xs else xs) ++ more
front true k xs ys more e = ap (λ zs. k ∷ zs) e
front false k xs ys more e = e

pub places-more : (h g : Head) (k : ℕ) (labels : List (List ℕ)) (label : List ℕ) → places_from h g k (labels ++ label ∷ []) ≡ places_from h g k labels ++ one-place h g (k + length labels) label
places-more h g k [] label = more-by h g k label (is_in_both h g label) refl ∙ ap (λ n. one-place h g n label) (omega arith)
places-more h g k (l ∷ ls) label =
    let b = is_in_both h g l in
    let next : places_from h g (k + 1) (ls ++ label ∷ []) ≡ places_from h g (k + 1) ls ++ one-place h g (k + length (l ∷ ls)) label =
    places-more h g (k + 1) ls label ∙ ap (λ n. places_from h g (k + 1) ls ++ one-place h g n label) (omega arith)
    in
    on-by h g k l (ls ++ label ∷ []) b refl ∙ front b k (places_from h g (k + 1) ls) (places_from h g (k + 1) (ls ++ label ∷ [])) (one-place h g (k + length (l ∷ ls)) label) next
    ∙ ap (λ xs. xs ++ one-place h g (k + length (l ∷ ls)) label) (sym (on-by h g k l ls b refl))

abbrev pub place_of : ComparedChannel → ℕ
place_of channel = channel.place

take-more : (claimed : List (List ℕ)) (k : ℕ) (label : List ℕ) → slice_get claimed k ≡ Some label → take (k + 1) claimed ≡ take k claimed ++ label ∷ []
take-more claimed k label at =
    let next : k + 1 ≡ suc k = omega arith in
    ap (λ n. take n claimed) next ∙ take-suc claimed k label (slice_get_within claimed k label at) ∙ ap (λ l. take k claimed ++ l ∷ []) (get_or_from_slice_get claimed k label label at)

place-of-pushed : (k : ℕ) (channels : List ComparedChannel) (r : Option ComparedChannel) (b : Bool) → is_some r ≡ b → IfSome r (λ (channel : ComparedChannel). channel.place ≡ k) → map place_of (with_one channels r) ≡ map place_of channels ++ (if b then k ∷ [] else [])
place-of-pushed k channels None true e is = absurd (let z : false ≡ true = e in cc)
place-of-pushed k channels None false e is = sym (append-nil (map place_of channels))
place-of-pushed k channels (Some channel) true e is = map-append place_of channels (channel ∷ []) ∙ ap (λ n. map place_of channels ++ n ∷ []) is
place-of-pushed k channels (Some channel) false e is = absurd (let z : true ≡ false = e in cc)

pub which-more : (h g : Head) (claimed : List (List ℕ)) (k : ℕ) (label : List ℕ) (r : Option ComparedChannel) (channels : List ComparedChannel) → slice_get claimed k ≡ Some label → is_some r ≡ is_in_both h g label
    → IfSome r (λ (channel : ComparedChannel). channel.place ≡ k) → map place_of channels ≡ places_from h g 0 (take k claimed) → map place_of (with_one channels r) ≡ places_from h g 0 (take (k + 1) claimed)
which-more h g claimed k label r channels at both place before =
    let lt = slice_get_within claimed k label at in
    let so-many : 0 + length (take k claimed) ≡ k = (let n = length-take k claimed in omega (arith, lt, n)) in
    place-of-pushed k channels r (is_in_both h g label) both place
    ∙ ap (λ xs. xs ++ one-place h g k label) before
    ∙ ap (λ n. places_from h g 0 (take k claimed) ++ one-place h g n label) (sym so-many)
    ∙ sym (places-more h g 0 (take k claimed) label)
    ∙ ap (places_from h g 0) (sym (take-more claimed k label at))

pub each-more : (claimed : List (List ℕ)) (labels : List (Bor (List ℕ))) (seen : Seen) (k : ℕ) (label : List ℕ) (r : Option ComparedChannel) (channels : List ComparedChannel) → slice_get claimed k ≡ Some label
    → IfSome r (λ (channel : ComparedChannel). channel.place ≡ k) → IfSome r (IsToldAt labels seen label) → ((channel : ComparedChannel) → Has channels channel → IsToldOf claimed labels seen channel)
    → (channel : ComparedChannel) → Has (with_one channels r) channel → IsToldOf claimed labels seen channel
each-more claimed labels seen k label None channels at place told before channel has = before channel has
each-more claimed labels seen k label (Some one) channels at place told before channel has = by (has-append channels (one ∷ []) channel has)
  where
    stands : slice_get claimed one.place ≡ Some label
    stands = ap (slice_get claimed) place ∙ at

    by : Has channels channel ⊎ Has (one ∷ []) channel → IsToldOf claimed labels seen channel
    by (inl there) = before channel there
    by (inr (inl same)) = subst (IsToldOf claimed labels seen) same (label, stands, told)
    by (inr (inr none)) = absurd none

-- one export more
pub found-more : (claim : ClaimValue) (labels : List (Bor (List ℕ))) (h : Head) (parts : List ReadPart) (found : List PartFindings) (part : ReadPart) (more : PartFindings) → AreFoundIn claim labels h parts found → IsFoundIn claim labels h part more
    → AreFoundIn claim labels h (parts ++ part ∷ []) (found ++ more ∷ [])
found-more claim labels h [] [] part more are is = (is, tt)
found-more claim labels h [] (f ∷ fs) part more are is = absurd are
found-more claim labels h (p ∷ ps) [] part more are is = absurd are
found-more claim labels h (p ∷ ps) (f ∷ fs) part more are is = (are.0, found-more claim labels h ps fs part more are.1 is)

-- as many are told of as were read
pub as-many : (claim : ClaimValue) (labels : List (Bor (List ℕ))) (h : Head) (parts : List ReadPart) (found : List PartFindings) → AreFoundIn claim labels h parts found → length found ≡ length parts
as-many claim labels h [] [] are = refl
as-many claim labels h [] (f ∷ fs) are = absurd are
as-many claim labels h (p ∷ ps) [] are = absurd are
as-many claim labels h (p ∷ ps) (f ∷ fs) are = ap suc (as-many claim labels h ps fs are.1)

pub if-some : {A : Type 0} {P Q : A → Type 0} (x : Option A) → ((a : A) → P a → Q a) → IfSome x P → IfSome x Q
if-some None f h = h
if-some (Some a) f h = f a h
