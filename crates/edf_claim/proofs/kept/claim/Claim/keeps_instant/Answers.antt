use Rattle.std.proofs.Common.{rules, ◌≡◌}
use Rattle.edf_claim.specs.Keeps.{keeps_instant}
use Rattle.edf_claim.proofs.KeepsFacts.{instant_kept}
use Rattle.edf_claim.proofs.kept.claim.Claim.keeps_instant.Goals as goal

pub returns-clause-keeps : goal.returns-clause-keeps
returns-clause-keeps c =
    let same : c.is_in_one.result ≡ keeps_instant c.args.self.now c.args.num c.args.den = search rules in
    instant_kept c.args.self.now c.args.num c.args.den c.is_in_one.result same
