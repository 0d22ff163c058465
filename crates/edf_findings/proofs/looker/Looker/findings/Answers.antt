use Rattle.std.proofs.Common.{◌≡◌, ◌∙◌, ◌&&◌, ℕ, Option, is_some, length, nat_lt, ap, sym}
use Rattle.edf_header.specs.Heads.{Head}
use Rattle.edf_findings.proofs.ToldFacts.{as-many}
use Rattle.edf_findings.proofs.looker.Looker.findings.Goals as goal

pub returns-clause-some : goal.returns-clause-some
returns-clause-some c =
    let parts = c.args.self.parts.items in
    let many : length c.in_ok-found.found.items ≡ length parts = as-many c.args.claim.now c.deref.result.now _ parts c.in_ok-found.found.items c.in_ok-found.ensures in
    c.of.ensures.some ∙ ap (λ (n : ℕ). nat_lt 0 n) many ∙ ap (λ (o : Option Head). is_some o && nat_lt 0 (length parts)) (sym c.in-Some.is)
