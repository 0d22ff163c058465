use Rattle.toml.specs.View.{table_view}
use Rattle.edf_claim.proofs.TextFacts.{claim-said, claim-refused}
use Rattle.edf_claim.proofs.kept.claim.Claim.read.Goals as goal

pub returns-clause-says : goal.returns-clause-says
returns-clause-says c =
    claim-said c.claim_in.result c.args.text.now (table_view c.in_ok-table.table) c.if-text-gt-MOST_CLAIM_BYTES.false c.in_ok-table.ensures.ok.0 c.in_ok-table.ensures.ok.1 c.claim_in.ensures.passed c.claim_in.ensures.value

pub returns-clause-fault : goal.returns-clause-fault
returns-clause-fault c =
    claim-refused c.claim_in.result c.args.text.now (table_view c.in_ok-table.table) c.if-text-gt-MOST_CLAIM_BYTES.false c.in_ok-table.ensures.ok.0 c.in_ok-table.ensures.ok.1 c.claim_in.ensures.stop
