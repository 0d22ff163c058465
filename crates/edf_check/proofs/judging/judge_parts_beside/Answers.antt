use Rattle.std.proofs.Common.{rules, ◌≡◌, List, MatchOption, Option, map, subst}
use Rattle.edf_pace.specs.walk.Watching.{ExportCount, WholeShown}
use Rattle.edf_check.specs.parts.Counted.{AreCounted, AreCountedOfAll, IsWhole, looked_on}
use Rattle.edf_check.specs.parts.Parts.{FollowOneAnother}
use Rattle.edf_check.proofs.judging.judge_parts_beside.Goals as goal

pub returns-in_ok-check_parts_beside-in-Ok-clause-counted : goal.returns-in_ok-check_parts_beside-in-Ok-clause-counted
returns-in_ok-check_parts_beside-in-Ok-clause-counted g c =
    let o = c.args.original.now in
    let parts = c.args.parts.now in
    let claim = c.in-Ok.claim in
    let before = g.L.Onlooker.counted c.args.onlooker.now in
    let there : (ts : List ExportCount) (shown : Option WholeShown) → g.L.Onlooker.counted c.check_parts_beside.new.asked.onlooker.now ≡ ts → g.L.Onlooker.shown c.check_parts_beside.new.asked.onlooker.now ≡ shown
    → AreCountedOfAll g.O.Source g.E.Source o parts claim (g.L.Onlooker.looks c.args.onlooker.now) (looked_on before ts shown) = λ ts shown is same looks ho he all-so.
    let all = c.in_ok-check_parts_beside-in-Ok.ensures.counted looks ho he all-so in
    record {
      counted = subst (AreCounted (g.O.Source.left o) (map g.E.Source.left parts) claim before) is all.counted;
      whole = subst (λ (w : Option WholeShown). MatchOption w ⊥ (λ shown. FollowOneAnother (map g.E.Source.left parts) → IsWhole (g.O.Source.left o) (map g.E.Source.left parts) claim shown)) same all.whole;
    }
    in
    (claim, c.in-Ok.ensures.says, there _ _ (search rules) (search rules))
