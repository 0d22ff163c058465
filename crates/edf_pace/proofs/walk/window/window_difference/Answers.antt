use Rattle.std.proofs.Common.{◌≡◌, ◌+◌, ◌-◌, ◌<◌, ◌∙◌, length, arith, Option, option_map, refl}
use Rattle.edf_samples.specs.Differences.{found}
use Rattle.edf_samples.specs.declared.difference.PointDifference.{PointDifference}
use Rattle.edf_pace.specs.declared.walk.track.Pair.{Pair}
use Rattle.edf_pace.specs.walk.Windows.{sampled, window_of}
use Rattle.edf_pace.specs.walk.Pairs.{places_of}
use Rattle.edf_samples.proofs.ForCallers.{earliest-step}
use Rattle.edf_pace.proofs.walk.ShownFacts.{windows_are, channel_more, both_some}
use Rattle.edf_pace.proofs.walk.window.window_difference.Goals as goal

pub loop-i-preserved : goal.loop-i-preserved
loop-i-preserved c =
    let inv = c.loop-i.invariant in
    let k = c.loop-i.i - 1 in
    let next : c.loop-i.i ≡ k + 1 = omega (arith, c.loop-i-test.true) in
    let lt : k < length c.args.frame.pairs.now = omega (arith, inv.within, next) in
    record {
      within = omega (arith, inv.within);
      held = c.keep_shares.ensures.held;
      kept = c.keep_shares.ensures.kept ∙ inv.kept;
      value = λ o e ho he.
          let of : Pair → Option PointDifference = λ p. window_of c.args.frame.turn.setting.claim.now (sampled o c.args.original.now.head (c.args.frame.turn.setting.clock.original).ps) (sampled e c.args.export.now.head (c.args.frame.turn.setting.clock.export).ps) (c.args.within.from).ps (c.args.within.to).ps (places_of p).0 (places_of p).1 in
          earliest-step of c.args.frame.pairs.now c.loop-i.i k _ c.pair_difference-next.result (option_map (found k) c.pair_difference-next.result) c.loop-i.held c.keep_earlier.new.held
          next lt (c.pair_difference-next.ensures.value c.args.frame.turn.setting.claim.now c.args.frame.turn.setting.clock c.args.within c.keep_shares.ensures.held.0 c.keep_shares.ensures.held.1 c.requires.uncut (c.keep_shares.ensures.kept ∙ inv.kept) o e ho he) refl c.keep_earlier.ensures.value (inv.value o e ho he);
      modest = c.keep_earlier.ensures.modest;
      channel = channel_more k (length c.args.frame.pairs.now) c.pair_difference-next.result (option_map (found k) c.pair_difference-next.result) c.loop-i.held c.keep_earlier.new.held lt refl c.keep_earlier.ensures.value inv.channel;
    }

pub returns-clause-value : goal.returns-clause-value
returns-clause-value c = λ o e ho he.
    let z : c.loop-i.i ≡ 0 = omega (arith, c.loop-i-test.false) in
    windows_are c.args.frame.turn.setting.claim.now (sampled o c.args.original.now.head (c.args.frame.turn.setting.clock.original).ps) (sampled e c.args.export.now.head (c.args.frame.turn.setting.clock.export).ps) (c.args.within.from).ps (c.args.within.to).ps c.args.frame.pairs.now c.loop-i.i c.loop-i.held z
    (c.loop-i.invariant.value o e ho he)

pub returns-clause-modest : goal.returns-clause-modest
returns-clause-modest c = both_some (length c.args.frame.pairs.now) c.loop-i.held c.loop-i.invariant.modest c.loop-i.invariant.channel
