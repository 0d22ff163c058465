use Rattle.edf_draft.proofs.SaidFacts.{said_of_several}
use Rattle.edf_draft.proofs.tries.trial.SeveralExportsTrial.said_of.Goals as goal

pub returns-in_ok-line-in-Ok : goal.returns-in_ok-line-in-Ok
returns-in_ok-line-in-Ok g c =
    let again = c.args.self.now.again.now in
    said_of_several (g.R.PartsRecordings.are_honest again) (g.R.PartsRecordings.original again) (g.R.PartsRecordings.exports again) c.args.text.now
    c.in-Ok.answer c.in_ok-line-in-Ok.line.items c.said_with.result c.in-Ok.ensures c.in_ok-line-in-Ok.ensures c.said_with.ensures
