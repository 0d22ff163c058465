use Rattle.std.proofs.Common.{◌≡◌, ℕ, Some, ◌∙◌, ◌+◌, ◌/◌, List, ap, sym, subst, arith, IsTrue, length, refl}
use Rattle.edf_header.specs.Narrow.{WideColumn}
use Rattle.edf_header.proofs.in_columns.ReadColumnsFacts.{HasRead, read-next, read-short}
use Rattle.edf_header.proofs.read.read_each.Goals as goal

pub returns-then-len-width-clause-stop : goal.returns-then-len-width-clause-stop
returns-then-len-width-clause-stop g c =
    let honest = IsTrue (g.S.Source.is_honest c.args.source.now) in
    let inv = c.loop-field.invariant in
    let w = c.width-width.result in
    let m = c.from-count.result in
    let long : c.len.result ≡ length c.in_ok-bytes.bytes.items = omega (arith, c.len.ensures) in
    let again : c.len-then-len-width.result ≡ length c.in_ok-bytes.bytes.items = omega (arith, c.len-then-len-width.ensures) in (
      (λ h.
          read-short honest c.args.fields.now c.loop-field.field-index c.args.signals (g.S.Source.left c.args.source.now) (g.S.Source.left c.loop-field.source)
          c.in_ok-bytes.bytes.items c.loop-field.columns.items _ w m _ c.loop-field-test.true inv.read
          refl c.width-width.ensures.width c.from-count.ensures
          (λ o. c.in_ok-bytes.ensures.front (inv.honesty o)) (omega (arith, c.if-len-width.true, long)) (ap (λ k. k / w) again) h ∙ ap Some (sym c.cut_short.ensures)),
      c.in_ok-bytes.ensures.failures ∙ inv.failures,
    )

pub loop-field-preserved : goal.loop-field-preserved
loop-field-preserved g c =
    let honest = IsTrue (g.S.Source.is_honest c.args.source.now) in
    let inv = c.loop-field.invariant in
    let w = c.width-width.result in
    let m = c.from-count.result in
    let long : c.len.result ≡ length c.in_ok-bytes.bytes.items = omega (arith, c.len.ensures) in
    let made : c.in_ok-new.field-0 ≡ record { width = w; count = m; bytes = c.in_ok-bytes.bytes.items } =
    c.in_ok-new.ensures ∙ ap (λ (xs : List ℕ). (let column : WideColumn = record { width = w; count = m; bytes = xs } in column)) c.deref.ensures.value in
    record {
      honesty = λ h. c.in_ok-bytes.ensures.honesty (inv.honesty h);
      failures = c.in_ok-bytes.ensures.failures ∙ inv.failures;
      read =
          subst (λ (cs : List WideColumn). HasRead honest c.args.fields.now (c.loop-field.field-index + 1) c.args.signals (g.S.Source.left c.args.source.now) (g.S.Source.left c.next_bytes.new.source) cs)
          (sym c.in_ok-push.ensures.items)
          (read-next honest c.args.fields.now c.loop-field.field-index c.args.signals (g.S.Source.left c.args.source.now) (g.S.Source.left c.loop-field.source) (g.S.Source.left c.next_bytes.new.source)
          c.in_ok-bytes.bytes.items c.loop-field.columns.items c.in_ok-new.field-0 _ w m c.loop-field-test.true inv.read
          refl c.width-width.ensures.width c.from-count.ensures
          (λ o. c.in_ok-bytes.ensures.front (inv.honesty o)) (λ o. c.in_ok-bytes.ensures.behind (inv.honesty o))
          (omega (arith, c.if-len-width.false, long)) c.in_ok-bytes.ensures.within made);
    }
