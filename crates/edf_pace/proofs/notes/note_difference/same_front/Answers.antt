use Rattle.std.proofs.Common.{◌≡◌, ◌<◌, length, get_or, Equal, sym, ap, ◌∙◌, arith}
use Rattle.edf_stream.specs.declared.annotation.notes.Note.{Note}
use Rattle.edf_stream.specs.Views.{note_value}
use Rattle.edf_pace.specs.Annotations.{note_cmp}
use Rattle.edf_pace.proofs.notes.NoteOrderFacts.{same-more, not-apart}
use Rattle.edf_pace.proofs.notes.note_difference.same_front.Goals as goal

pub loop-i-preserved : goal.loop-i-preserved
loop-i-preserved c =
    let kept = c.args.kept.now in
    let exported = c.args.exported.now in
    let i = c.loop-i.i in
    let x = c.index-kept-i.result in
    let y = c.index-exported-i.result in
    let most = c.min-most.ensures in
    let lt = c.loop-i-test.true in
    let low : i < length kept = omega (arith, most, lt) in
    let high : i < length exported = omega (arith, most, lt) in
    let equal : note_cmp (note_value (get_or kept i x)) (note_value (get_or exported i y)) ≡ Equal =
    ap (λ (n : Note). note_cmp (note_value n) (note_value (get_or exported i y))) (sym c.index-kept-i.is) ∙ ap (λ (n : Note). note_cmp (note_value x) (note_value n)) (sym c.index-exported-i.is)
    ∙ sym c.order.ensures ∙ not-apart c.order.result (sym c.if-is_ne.ensures) in
    same-more kept exported i x y low high c.loop-i.invariant equal
