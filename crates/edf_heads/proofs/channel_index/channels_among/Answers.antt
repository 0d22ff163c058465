use Rattle.std.proofs.Common.{◌≡◌, ◌+◌, suc, not, List, length, refl, sym, ap, ◌∙◌, subst, arith}
use Rattle.std.proofs.lemmas.Option.{slice_get_read}
use Rattle.edf_heads.specs.declared.channel_index.Channel.{Channel}
use Rattle.edf_heads.proofs.AmongFacts.{AreTo, to-next, to-skipped}
use Rattle.edf_heads.proofs.channel_index.channels_among.Goals as goal
use Rattle.edf_heads.proofs.channel_index.channels_among.Goals.{then-not-is_annotations+in_ok-push, else-not-is_annotations}

pub loop-i-preserved : goal.loop-i-preserved
loop-i-preserved c =
    let signals = c.args.signals.now in
    let i = c.loop-i.i in
    let before = c.loop-i.invariant in
    let one : i + 1 ≡ suc i = omega arith in
    let here = slice_get_read signals _ i c.index-signals-i.result refl c.loop-i-test.true c.index-signals-i.is in
    rw one (elim c.if-not-is_annotations.branch [
      | then-not-is_annotations+in_ok-push w ↦
          let P : List Channel → Type 0 = AreTo signals (suc i) in
          subst P (sym (ap (λ v. v.items) w.channels-is ∙ w.in_ok-push.ensures.items)) (to-next signals i c.loop-i.channels.items _ here (ap not (sym w.if-not-is_annotations.ensures)) refl (let z : w.len.result ≡ length c.loop-i.channels.items = omega (arith, w.len.ensures) in z) before)
      | else-not-is_annotations w ↦
          let P : List Channel → Type 0 = AreTo signals (suc i) in
          subst P (sym (ap (λ v. v.items) w.channels-is)) (to-skipped signals i c.loop-i.channels.items c.index-signals-i.result here (ap not (sym w.if-not-is_annotations.ensures)) before)
    ])
