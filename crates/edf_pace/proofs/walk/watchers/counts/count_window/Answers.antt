use Rattle.std.proofs.Common.{◌≡◌, ℕ, suc, ◌-◌, ◌<◌, ◌∙◌, length, arith, refl, rules, sym}
use Rattle.edf_pace.specs.declared.walk.track.Pair.{Pair}
use Rattle.edf_pace.specs.walk.Counting.{differences_in}
use Rattle.edf_pace.specs.walk.Pairs.{places_of}
use Rattle.edf_pace.specs.walk.Watching.{moved_export, moved_original}
use Rattle.edf_pace.specs.walk.Windows.{sampled}
use Rattle.edf_pace.proofs.walk.watchers.CountFacts.{all_left, count_step, none_left, note_step}
use Rattle.edf_pace.proofs.walk.watchers.counts.count_window.Goals as goal

none_yet : {n : ℕ} {P : Type 0} → n ≡ 0 → 0 < n → P
none_yet e p = absurd (omega (arith, e, p))

pub loop-i-init : goal.loop-i-init
loop-i-init c = record {
  within = omega arith;
  each = refl;
  held = (none_yet c.no_shares.ensures.original, none_yet c.no_shares.ensures.export);
  met = tt;
  kept = c.no_shares.ensures.kept;
  value = λ o e ho he. all_left c.of-hands.result (c.args.within.from).ps _ c.args.counts.now _ (sym c.requires.each);
}

pub loop-i-preserved : goal.loop-i-preserved
loop-i-preserved c =
    let inv = c.loop-i.invariant in
    let k = c.loop-i.i - 1 in
    let frame = c.args.frame in
    let next : c.loop-i.i ≡ suc k = omega (arith, c.loop-i-test.true) in
    let lt : k < length frame.pairs.now = omega (arith, inv.within, next) in
    record {
      within = omega (arith, inv.within);
      each = (let l = inv.each in search rules);
      held = c.keep_common.ensures.held;
      met = c.keep_common.ensures.met;
      kept = c.keep_common.ensures.kept ∙ inv.kept;
      value = λ o e ho he.
          count_step c.of-hands.result (c.args.within.from).ps (λ (pair : Pair). differences_in frame.turn.setting.claim.now (sampled o c.args.original.now.head (moved_original frame.turn)) (sampled e c.args.export.now.head (moved_export frame.turn)) (c.args.within.from).ps (c.args.within.to).ps (places_of pair).0 (places_of pair).1)
          c.args.counts.now c.loop-i.counts frame.pairs.now c.loop-i.i k _ _ c.note.new.self next lt c.requires.each
          (inv.value o e ho he)
          (note_step c.of-hands.result (c.args.within.from).ps _ _ _ _ (c.count_pair.ensures frame.turn.setting.claim.now frame.turn.setting.clock c.args.within c.keep_common.ensures.held.0 c.keep_common.ensures.held.1 c.requires.uncut (c.keep_common.ensures.kept ∙ inv.kept) o e ho he) c.note.ensures);
    }

pub returns-clause-value : goal.returns-clause-value
returns-clause-value c =
    let z : c.loop-i.i ≡ 0 = omega (arith, c.loop-i-test.false) in
    (c.of-hands.result, c.of-hands.ensures, λ o e ho he. c.loop-i.invariant.value o e ho he ∙ none_left c.of-hands.result (c.args.within.from).ps c.loop-i.i c.args.counts.now _ z)
