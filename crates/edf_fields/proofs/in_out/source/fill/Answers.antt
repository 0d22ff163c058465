use Rattle.std.proofs.Common.{arith, ◌≤◌, length}
use Rattle.std.proofs.lemmas.Grind.{common_steps}
use Rattle.edf_fields.proofs.ReadFacts.{takes_twice}
use Rattle.edf_fields.proofs.in_out.source.fill.Goals as goal

pub loop-done-preserved : goal.loop-done-preserved
loop-done-preserved g c =
    let inv = c.loop-done.invariant in
    let got = c.in_ok-got.ensures in
    let fits : c.in_ok-got.got ≤ length c.read.new.buf = grind (arith, common_steps) in
    record {
      within = grind (arith, common_steps);
      failures = cc;
      empty = λ none. absurd (omega arith);
      honesty = λ h. got.honesty (inv.honesty h);
      bytes = λ h. takes_twice _ _ _ _ _ _ _ c.in_ok-got.got inv.within fits (inv.bytes h) (got.bytes (inv.honesty h));
    }
