use Rattle.std.proofs.Common.{IfSome, subst}
use Rattle.edf_draft.specs.Choices.{IsGiven}
use Rattle.edf_draft.specs.Exported.{heads_of}
use Rattle.edf_draft.proofs.ChoiceFacts.{given_is_text, given_is_true}
use Rattle.edf_draft.proofs.tries.chosen.draft_text.Goals as goal

pub returns-in-Some-clause-text : goal.returns-in-Some-clause-text
returns-in-Some-clause-text g c =
    let again = g.T.Trial.files c.args.trial.now in
    let given = subst (λ t. IfSome t (IsGiven again ((c.args.original.now).reader).head (heads_of c.args.export.now) c.shift_of-shift.result.seconds))
    c.in-Some.is c.in_ok-given.ensures in
    given_is_text again c.args.original.now c.args.export.now c.shift_of-shift.result.seconds c.in-Some.tried c.into_text.result.items c.into_text.ensures
    (c.shift_of-shift.result.is_told, c.shift_of-shift.ensures) given

pub returns-in-Some-clause-first : goal.returns-in-Some-clause-first
returns-in-Some-clause-first g c =
    let again = g.T.Trial.files c.args.trial.now in
    let given = subst (λ t. IfSome t (IsGiven again ((c.args.original.now).reader).head (heads_of c.args.export.now) c.shift_of-shift.result.seconds))
    c.in-Some.is c.in_ok-given.ensures in
    given_is_true again ((c.args.original.now).reader).head (heads_of c.args.export.now) c.shift_of-shift.result.seconds c.in-Some.tried
    c.into_text.result.items c.into_text.ensures given
