use Rattle.std.proofs.Common.{◌≡◌, ◌+◌, ◌-◌, ◌++◌, ◌∙◌, drop, replicate, arith, sym, ap, subst}
use Rattle.edf_layout.specs.Spaces.{spaces_of}
use Rattle.edf_layout.proofs.SpacesFacts.{space-step, other-step, begin-run, end-run}
use Rattle.edf_layout.proofs.spaces.spaces_of.Goals as goal
use Rattle.edf_layout.proofs.spaces.spaces_of.Goals.{then-byte-ne32+in_ok-push_stretch, else-byte-ne32}

pub loop-at-preserved : goal.loop-at-preserved
loop-at-preserved c =
    let text = c.args.text.now in
    let at = c.loop-at.at in
    let i = c.loop-at.invariant in
    let low = c.loop-at-test.true in
    elim c.if-byte-ne32.branch [
      | then-byte-ne32+in_ok-push_stretch w ↦ record {
        within = omega (arith, w.from-is);
        run = subst (λ n. drop n text ≡ replicate (at + 1 - n) 32 ++ drop (at + 1) text) (sym w.from-is) (begin-run text (at + 1));
        found = ap (λ v. v.items ++ spaces_of (drop c.if-byte-ne32.from text)) w.counts-is
            ∙ ap (λ n. w.push_stretch.new.counts.items ++ spaces_of (drop n text)) w.from-is
            ∙ other-step text c.loop-at.from at c.loop-at.counts.items w.push_stretch.new.counts.items low w.if-byte-ne32.true i.run w.in_ok-push_stretch.ensures i.found;
      }
      | else-byte-ne32 w ↦ record {
        within = omega (arith, w.from-is, i.within);
        run = subst (λ n. drop n text ≡ replicate (at + 1 - n) 32 ++ drop (at + 1) text) (sym w.from-is) (space-step text c.loop-at.from at i.within low w.if-byte-ne32.false i.run);
        found = ap (λ v. v.items ++ spaces_of (drop c.if-byte-ne32.from text)) w.counts-is
            ∙ ap (λ n. c.loop-at.counts.items ++ spaces_of (drop n text)) w.from-is
            ∙ i.found;
      }
    ]

pub returns : goal.returns
returns c =
    let i = c.loop-at.invariant in
    end-run c.args.text.now c.loop-at.from c.loop-at.at c.loop-at.counts.items c.push_stretch-2.new.counts.items c.loop-at-test.false c.loop-at.auto.at-end i.run c.in_ok-push_stretch-2.ensures i.found
