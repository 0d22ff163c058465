use Rattle.std.proofs.Common.{arith, ◌≤◌, length}
use Rattle.std.proofs.lemmas.Grind.{common_steps}
use Rattle.edf_fields.proofs.ReadFacts.{takes_some}
use Rattle.edf_fields.proofs.in_out.source.skip_rest.Goals as goal

pub reads-preserved : goal.reads-preserved
reads-preserved g c =
    let inv = c.reads.invariant in
    let got = c.in_ok-read.ensures in
    let fits : c.in_ok-read.field-0 ≤ length c.read.new.buf = grind (arith, common_steps) in
    record {
      room = grind (arith, common_steps);
      failures = cc;
      honesty = λ h. got.honesty (inv.honesty h);
      shorter = λ h. let less = takes_some _ _ _ c.in_ok-read.field-0 fits c.if-branch-eq0.false (got.bytes (inv.honesty h)) in let before = inv.shorter h in omega (arith, less, before);
    }
