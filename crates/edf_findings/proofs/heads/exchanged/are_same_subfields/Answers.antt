use Rattle.std.proofs.Common.{◌↔◌, IsTrue, List, subst}
use Rattle.edf_fields.specs.declared.fields.which.Which.{Which}
use Rattle.edf_fields.specs.fields.SubfieldNamesReading.{all_subfields}
use Rattle.edf_heads.proofs.ForCallers.{has-all}
use Rattle.edf_findings.specs.Likeness.{AreUnchanged}
use Rattle.edf_findings.proofs.LikenessFacts.{all_unchanged}
use Rattle.edf_findings.proofs.heads.exchanged.are_same_subfields.Goals as goal

pub returns : goal.returns
returns c = all_unchanged c.args.one.now c.args.other.now c.are_unchanged.result all_subfields has-all
    (subst (λ (whiches : List Which). IsTrue c.are_unchanged.result ↔ AreUnchanged c.args.one.now c.args.other.now whiches) c.all.ensures c.are_unchanged.ensures)
