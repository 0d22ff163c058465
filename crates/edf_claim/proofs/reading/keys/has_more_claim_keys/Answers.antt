use Rattle.std.proofs.Common.{◌∙◌, sym}
use Rattle.edf_claim.specs.Claims.{more_claim_keys}
use Rattle.edf_claim.proofs.TableFacts.{keys_known}
use Rattle.edf_claim.proofs.reading.keys.has_more_claim_keys.Goals as goal

pub returns : goal.returns
returns c = c.more_claim_keys_alone.ensures ∙ sym (keys_known more_claim_keys c.args.table.now.entries)
