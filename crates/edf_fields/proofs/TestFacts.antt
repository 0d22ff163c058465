-- Lists of tests, and the first that fails.
use Rattle.std.proofs.Common.{◌≡◌, Bool, true, false, List, [], ◌∷◌, ◌++◌, Option, Some, None, refl, ◌∙◌}
use Rattle.edf_fields.specs.Tests.{first, unless}

-- tests that pass, before others
pub first-passed : {X : Type 0} (tests more : List (Option X)) → first tests ≡ None → first (tests ++ more) ≡ first more
first-passed [] more h = refl
first-passed (None ∷ tests) more h = first-passed tests more h
first-passed (Some x ∷ tests) more h = absurd (let e : Some x ≡ None = h in cc)

-- what is found, whatever follows
pub first-found : {X : Type 0} (tests more : List (Option X)) (x : X) → first tests ≡ Some x → first (tests ++ more) ≡ Some x
first-found [] more x h = absurd (let e : None ≡ Some x = h in cc)
first-found (None ∷ tests) more x h = first-found tests more x h
first-found (Some y ∷ tests) more x h = h

-- one test
pub alone : {X : Type 0} (o : Option X) → first (o ∷ []) ≡ o
alone None = refl
alone (Some x) = refl

-- tests that all pass, in two parts
pub first-none : {X : Type 0} (tests more : List (Option X)) → first (tests ++ more) ≡ None → (first tests ≡ None) × (first more ≡ None)
first-none [] more h = (refl, h)
first-none (None ∷ tests) more h = first-none tests more h
first-none (Some x ∷ tests) more h = absurd (let e : Some x ≡ None = h in cc)

pub pass-append : {X : Type 0} (tests more : List (Option X)) → first tests ≡ None → first more ≡ None → first (tests ++ more) ≡ None
pass-append tests more a b = first-passed tests more a ∙ b

-- tests that all pass, the first of them and the others
pub first-cons : {X : Type 0} (test : Option X) (more : List (Option X)) → first (test ∷ more) ≡ None → (test ≡ None) × (first more ≡ None)
first-cons None more h = (refl, h)
first-cons (Some x) more h = absurd (let e : Some x ≡ None = h in cc)

pub pass-cons : {X : Type 0} (test : Option X) (more : List (Option X)) → test ≡ None → first more ≡ None → first (test ∷ more) ≡ None
pass-cons None more e h = h
pass-cons (Some x) more e h = absurd (let z : Some x ≡ None = e in cc)

-- a test that passes where the answer is yes
pub unless-passed : {X : Type 0} (b : Bool) (x : X) → unless b x ≡ None → b ≡ true
unless-passed true x h = refl
unless-passed false x h = absurd (let e : Some x ≡ None = h in cc)

pub unless-true : {X : Type 0} (b : Bool) (x : X) → b ≡ true → unless b x ≡ None
unless-true true x h = refl
unless-true false x h = absurd (let z : false ≡ true = h in cc)

-- such a test in front of others
pub first-passes : {X : Type 0} (b : Bool) (x : X) (rest : List (Option X)) → first (unless b x ∷ rest) ≡ None → (b ≡ true) × (first rest ≡ None)
first-passes true x rest h = (refl, h)
first-passes false x rest h = absurd (let e : Some x ≡ None = h in cc)

pub passes-first : {X : Type 0} (b : Bool) (x : X) (rest : List (Option X)) → b ≡ true → first rest ≡ None → first (unless b x ∷ rest) ≡ None
passes-first true x rest h k = k
passes-first false x rest h k = absurd (let z : false ≡ true = h in cc)
