use Rattle.edf_pace.proofs.walk.watchers.HandFacts.{records_begun}
use Rattle.edf_pace.proofs.walk.watchers.at_hand.Hands.records_since.Goals as goal

pub returns-then-has_begun_by-2 : goal.returns-then-has_begun_by-2
returns-then-has_begun_by-2 c =
    records_begun c.args.self.now c.args.at c.args.since.ps c.requires (c.has_begun_by.ensures c.if-has_begun_by.true) (c.has_begun_by-then-has_begun_by.ensures c.if-has_begun_by-2.true)
