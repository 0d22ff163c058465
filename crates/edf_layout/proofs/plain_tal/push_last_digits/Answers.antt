use Rattle.std.proofs.Common.{arith}
use Rattle.edf_layout.proofs.lanes.PlainLaneFacts.{digits-step, rest-below}
use Rattle.edf_layout.proofs.plain_tal.push_last_digits.Goals as goal

pub loop-places-preserved : goal.loop-places-preserved
loop-places-preserved c =
    let before = c.loop-places.invariant in
    record {
      few = (let h = before.few in omega (arith, h));
      below = rest-below c.loop-places.rest c.pow-unit.result c.loop-places.places c.pow-unit.ensures;
      text = digits-step c.loop-places.places c.loop-places.rest c.pow-unit.result c.loop-places.text.items c.push.new.self.items _ c.loop-places-test.true c.if-rest-gt0.true c.pow-unit.ensures c.in_ok-push.ensures.items before.text;
    }
