use Rattle.toml.specs.View.{table_view}
use Rattle.edf_claim.proofs.AnyLengthFacts.{read_says, refused_says_none}
use Rattle.edf_claim.proofs.kept.claim.Claim.read_at_any_length.Goals as goal

pub returns-clause-says : goal.returns-clause-says
returns-clause-says c =
    read_says c.claim_in.result c.args.text.now (table_view c.in_ok-said.said) c.in_ok-said.ensures.ok.0 c.in_ok-said.ensures.ok.1 c.claim_in.ensures.passed c.claim_in.ensures.value

pub returns-clause-none : goal.returns-clause-none
returns-clause-none c =
    refused_says_none c.claim_in.result c.args.text.now (table_view c.in_ok-said.said) c.in_ok-said.ensures.ok.1 c.claim_in.ensures.stop
