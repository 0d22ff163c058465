use Rattle.std.proofs.Common.{◌∙◌, sym}
use Rattle.edf_claim.specs.Claims.{claim_keys}
use Rattle.edf_claim.proofs.TableFacts.{keys_known}
use Rattle.edf_claim.proofs.reading.keys.has_claim_keys.Goals as goal

pub returns : goal.returns
returns c = c.claim_keys_alone.ensures ∙ sym (keys_known claim_keys c.args.table.now.entries)
