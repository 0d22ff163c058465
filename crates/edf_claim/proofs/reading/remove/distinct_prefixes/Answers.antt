use Rattle.std.proofs.Common.{◌∙◌, sym, ap, map, option_map, nat_lt, length, List, ℕ, Bor}
use Rattle.std.specs.Global.{Vec}
use Rattle.std.specs.List.{list_all}
use Rattle.toml.specs.View.{view}
use Rattle.edf_claim.proofs.ReadingFacts.{prefixes-none, prefixes-some}
use Rattle.edf_claim.proofs.reading.remove.distinct_prefixes.Goals as goal

pub returns-then-not-are_some : goal.returns-then-not-are_some
returns-then-not-are_some c =
    let texts = map (λ (t : Bor (List ℕ)). t.now) c.in-Some.texts.items in
    let read = ap (option_map (λ (v : Vec (Bor (List ℕ))). map (λ (t : Bor (List ℕ)). t.now) v.items)) (sym c.in-Some.is) ∙ c.in_ok-texts.ensures in
    let tested = sym c.if-not-are_some.true ∙ c.are_some.ensures ∙ ap (λ ts. list_all (λ t. nat_lt 0 (length t)) (map (λ (t : Bor (List ℕ)). t.now) ts)) c.deref.ensures.value in
    prefixes-none (view c.args.value.now) texts read tested

pub returns : goal.returns
returns c =
    let texts = map (λ (t : Bor (List ℕ)). t.now) c.in-Some.texts.items in
    let read = ap (option_map (λ (v : Vec (Bor (List ℕ))). map (λ (t : Bor (List ℕ)). t.now) v.items)) (sym c.in-Some.is) ∙ c.in_ok-texts.ensures in
    let tested = sym c.if-not-are_some.false ∙ c.are_some.ensures ∙ ap (λ ts. list_all (λ t. nat_lt 0 (length t)) (map (λ (t : Bor (List ℕ)). t.now) ts)) c.deref.ensures.value in
    prefixes-some (view c.args.value.now) texts read tested
