use Rattle.std.proofs.Common.{arith, ◌∙◌, ◌≡◌, ◌<◌, length}
use Rattle.edf_pace.proofs.notes.OnlyInOneFacts.{rest_end, rest_step}
use Rattle.edf_pace.proofs.notes.only_in_one.push_rest.Goals as goal

pub loop-place-preserved : goal.loop-place-preserved
loop-place-preserved c =
    let lt : c.loop-place.place < length c.args.notes.now = (let a = c.loop-place-test.true in omega (arith, a)) in
    rest_step c.args.notes.now c.loop-place.places.items c.push.new.self.items c.loop-place.place lt c.in_ok-push.ensures.items ∙ c.loop-place.invariant

pub returns : goal.returns
returns c =
    let ended : c.loop-place.place ≡ length c.args.notes.now = (let a = c.loop-place-test.false in let b = c.loop-place.auto.place-end in omega (arith, a, b)) in
    rest_end c.args.notes.now c.loop-place.places.items c.loop-place.place ended ∙ c.loop-place.invariant
