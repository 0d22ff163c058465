use Rattle.std.proofs.Common.{◌≡◌, ◌+◌, List, ℕ, sym, ap, ◌∙◌, subst}
use Rattle.std.specs.Global.{Vec}
use Rattle.edf_claim.specs.KeepsReading.{begins_with_last}
use Rattle.edf_claim.proofs.PrefixFacts.{AreShortest, shortest-none, shortest-skipped, shortest-pushed, shortest-all}
use Rattle.edf_claim.proofs.kept.prefixes.shortest_of.Goals as goal
use Rattle.edf_claim.proofs.kept.prefixes.shortest_of.Goals.{then-not-is_behind_last+in_ok-from_slice+in_ok-push, else-not-is_behind_last}

pub loop-text-init : goal.loop-text-init
loop-text-init c =
    let P : List (Vec ℕ) → Type 0 = AreShortest c.args.sorted.now 0 in
    subst P (sym c.new-shortest.ensures.items) (shortest-none c.args.sorted.now)

pub loop-text-preserved : goal.loop-text-preserved
loop-text-preserved c =
    let sorted = c.args.sorted.now in
    let i = c.loop-text.text-index in
    let held = c.loop-text.shortest.items in
    let x = c.text-item.result in
    let before = c.loop-text.invariant in
    let P : List (Vec ℕ) → Type 0 = AreShortest sorted (i + 1) in
    let tested : c.is_behind_last.result ≡ begins_with_last held x.items =
    c.is_behind_last.ensures ∙ ap (λ ss. begins_with_last ss c.deref-in-loop-text.result.now) c.deref.ensures.value ∙ ap (begins_with_last held) c.deref-in-loop-text.ensures.value in
    elim c.if-not-is_behind_last.branch [
      | then-not-is_behind_last+in_ok-from_slice+in_ok-push w ↦
          subst P (sym (ap (λ v. v.items) w.shortest-is ∙ w.in_ok-push.ensures.items))
          (shortest-pushed sorted i held x _ c.requires c.loop-text-test.true c.text-item.is (sym tested ∙ w.if-not-is_behind_last.true) (w.in_ok-from_slice.ensures.items ∙ w.deref-then-not-is_behind_last.ensures.value) before)
      | else-not-is_behind_last w ↦
          subst P (sym (ap (λ v. v.items) w.shortest-is)) (shortest-skipped sorted i held x c.loop-text-test.true c.text-item.is (sym tested ∙ w.if-not-is_behind_last.false) before)
    ]

pub returns : goal.returns
returns c = shortest-all c.args.sorted.now c.loop-text.text-index c.loop-text.shortest.items c.loop-text-test.false c.loop-text.invariant
