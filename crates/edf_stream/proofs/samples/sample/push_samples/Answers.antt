use Rattle.std.proofs.Common.{◌≡◌, ◌<◌, ◌+◌, ◌∷◌, suc, List, length, drop, get_or, ap, sym, ◌∙◌, subst, arith}
use Rattle.std.proofs.Math.Seq.{drop-cons}
use Rattle.edf_header.specs.Heads.{SignalHead, samples_together}
use Rattle.edf_stream.proofs.samples.SampleFacts.{signal-more, one-at-most}
use Rattle.edf_stream.proofs.samples.sample.push_samples.Goals as goal

pub loop-signal-preserved : goal.loop-signal-preserved
loop-signal-preserved c =
    let before = c.loop-signal.invariant in
    let signals = c.args.header.now.signals in
    let i = c.loop-signal.signal-index in
    let x = c.signal-item.result in
    let same = c.signals-signal-items.ensures.signals in
    let is : x ≡ get_or signals i x = c.signal-item.is ∙ ap (λ (xs : List SignalHead). get_or xs i x) same in
    let there : i < length signals = subst (λ (xs : List SignalHead). i < length xs) same c.loop-signal-test.true in
    let e : suc i ≡ i + 1 = omega arith in
    let split : drop i signals ≡ x ∷ drop (i + 1) signals = drop-cons signals i x there ∙ ap (λ y. y ∷ drop (suc i) signals) (sym is) ∙ ap (λ k. x ∷ drop k signals) e in
    let next = c.in_ok-channel.ensures.next in
    record {
      value = signal-more c.args.samples.now.items c.loop-signal.samples.items c.push_signal.new.samples.items c.loop-signal.channel c.in_ok-channel.channel c.args.time.start_ps c.args.time.duration_ps
          x (drop i signals) signals (drop (i + 1) signals) c.args.bytes.now split c.in_ok-channel.ensures.value next before.value;
      small = c.in_ok-channel.ensures.small;
      few = (let here = ap samples_together split in omega (arith, here, before.few));
      places = omega (arith, next, one-at-most x, before.places);
    }
