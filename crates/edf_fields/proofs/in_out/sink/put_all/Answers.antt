use Rattle.std.proofs.Common.{arith, ◌++◌, ◌∙◌, ap, take, drop, sym, append_assoc}
use Rattle.std.proofs.lemmas.Grind.{common_steps}
use Rattle.edf_fields.proofs.ReadFacts.{take_in_two, rest_whole}
use Rattle.edf_fields.proofs.in_out.sink.put_all.Goals as goal

pub loop-done-preserved : goal.loop-done-preserved
loop-done-preserved g c =
    let inv = c.loop-done.invariant in
    let put = c.in_ok-done.ensures in
    let held = g.K.Sink.held in
    let more = take c.in_ok-done.field-0 (drop c.loop-done.done c.args.bytes.now) in
    record {
      within = grind (arith, common_steps);
      failures = cc;
      empty = λ none. absurd (omega arith);
      honesty = λ h. put.honesty (inv.honesty h);
      bytes = λ h. put.bytes (inv.honesty h)
          ∙ ap (λ r. held c.loop-done.sink ++ take c.in_ok-done.field-0 r) (rest_whole c.loop-done.done c.args.bytes.now)
          ∙ ap (λ r. r ++ more) (inv.bytes h)
          ∙ append_assoc (held c.args.sink.now) (take c.loop-done.done c.args.bytes.now) more
          ∙ ap (λ r. held c.args.sink.now ++ r) (sym (take_in_two c.loop-done.done c.in_ok-done.field-0 c.args.bytes.now));
    }
