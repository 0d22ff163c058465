use Rattle.std.proofs.Common.{rules, ◌≡◌, not}
use Rattle.edf_claim.specs.Keeps.{keeps_annotation}
use Rattle.edf_claim.proofs.KeepsFacts.{annotation_kept}
use Rattle.edf_claim.proofs.kept.claim.Claim.keeps_annotation.Goals as goal

pub returns-then-keeps_instant-clause-keeps : goal.returns-then-keeps_instant-clause-keeps
returns-then-keeps_instant-clause-keeps c =
    let same : not c.is_removed.result ≡ keeps_annotation c.args.self.now c.args.onset c.args.text.now = search rules in
    annotation_kept c.args.self.now c.args.onset c.args.text.now (not c.is_removed.result) same
