use Rattle.std.proofs.Common.{◌≡◌, ◌<◌, ℕ, List, [], IsTrue, map, true, refl, subst, sym}
use Rattle.std.proofs.lemmas.List.{length-map}
use Rattle.edf_check.specs.parts.Counted.{AreCountedOfAll, looked_on}
use Rattle.edf_claim.specs.ClaimValues.{ClaimValue}
use Rattle.edf_pace.specs.walk.Watching.{ExportCount}
use Rattle.edf_findings.specs.Found.{counted_by, shown_by}
use Rattle.edf_findings.proofs.ClaimFacts.{one_claim}
use Rattle.edf_findings.proofs.SeenFacts.{has-some}
use Rattle.edf_findings.proofs.ToldFacts.{if-some}
use Rattle.edf_findings.proofs.of_files.findings_of_parts.Goals as goal

pub returns-clause-found : goal.returns-clause-found
returns-clause-found g c =
    let looker = c.judge_parts_beside.new.onlooker in
    let claim = c.args.wanted.claim.now in
    let under = c.in_ok-verdict.ensures.counted in
    let same : under.0 ≡ claim = one_claim c.args.wanted.claim_text.now under.0 claim under.1 c.args.wanted.says in
    let counted = subst
    (λ (t : ClaimValue). AreCountedOfAll g.O.Source g.E.Source c.args.original.now c.args.parts.now t true (looked_on [] (counted_by looker) (shown_by looker))) same
    (subst (λ (before : List ExportCount). AreCountedOfAll g.O.Source g.E.Source c.args.original.now c.args.parts.now under.0 true (looked_on before (counted_by looker) (shown_by looker))) c.of_parts-looker.ensures.counted under.2)
    in
    if-some c.in_ok-found.found (λ found are. (looker, counted, are)) c.in_ok-found.ensures.found

pub returns-clause-some : goal.returns-clause-some
returns-clause-some g c = λ ho he all.
    let looker = c.judge_parts_beside.new.onlooker in
    let under = c.in_ok-verdict.ensures.counted in
    let counted = subst (λ (before : List ExportCount). AreCountedOfAll g.O.Source g.E.Source c.args.original.now c.args.parts.now under.0 true (looked_on before (counted_by looker) (shown_by looker))) c.of_parts-looker.ensures.counted under.2 in
    let some = subst (λ (n : ℕ). 0 < n) (sym (length-map c.args.parts.now g.E.Source.left)) c.requires.some in
    let there = has-some looker (g.O.Source.left c.args.original.now) (map g.E.Source.left c.args.parts.now) under.0 some (counted refl ho he all) in
    subst IsTrue (sym c.in_ok-found.ensures.some) there
