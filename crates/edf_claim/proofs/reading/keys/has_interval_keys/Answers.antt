use Rattle.std.proofs.Common.{◌∙◌, sym}
use Rattle.edf_claim.specs.Claims.{interval_keys}
use Rattle.edf_claim.proofs.TableFacts.{keys_known}
use Rattle.edf_claim.proofs.reading.keys.has_interval_keys.Goals as goal

pub returns : goal.returns
returns c = c.interval_keys_alone.ensures ∙ sym (keys_known interval_keys c.args.table.now.entries)
