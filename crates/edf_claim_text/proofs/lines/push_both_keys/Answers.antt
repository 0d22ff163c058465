use Rattle.std.proofs.Common.{map}
use Rattle.std.proofs.lemmas.Result.{on_ok_weaker}
use Rattle.edf_claim_text.proofs.KeyFacts.{both_said}
use Rattle.edf_claim_text.proofs.lines.push_both_keys.Goals as goal

pub returns : goal.returns
returns c =
    on_ok_weaker c.push_texts-2.result
    (both_said c.args.text.now.items c.push_texts.new.text.items c.push_texts-2.new.text.items c.args.claim.now
    (map (λ t. t.items) c.removed_by_begin.result.now) (map (λ t. t.items) c.blanked.result.now)
    c.removed_by_begin.ensures c.blanked.ensures c.in_ok-push_texts.ensures) c.push_texts-2.ensures
