use Rattle.std.proofs.Common.{subst}
use Rattle.edf_claim.specs.Claims.{SaysClaimText}
use Rattle.edf_draft.proofs.FirstLineFacts.{first_is_true, said_of_whole}
use Rattle.edf_draft.proofs.tries.tried.Tried.new.Goals as goal

pub returns-then-branch : goal.returns-then-branch
returns-then-branch g c =
    let again = g.T.Trial.files c.args.trial.now in
    let whole = c.extend_from_slice.new.self.items in
    let says = subst (λ t. SaysClaimText t c.args.draft.now) c.deref.ensures.value (c.in_ok-is_said_by.ensures c.if-branch.true) in
    record {
      says = says;
      first = first_is_true again c.args.draft.now c.in_ok-whole.whole.items c.args.text.now whole c.in_ok-said.said c.tables_say_one_claim.ensures
          c.requires says c.in_ok-said.ensures c.in_ok-whole.ensures c.in_ok-extend_from_slice.ensures.items;
      said = said_of_whole again c.args.draft.now c.args.text.now whole c.in_ok-said.said c.verdict_of.result c.tables_say_one_claim.ensures
          c.requires says c.verdict_of.ensures c.in_ok-said.ensures;
    }
