use Rattle.std.proofs.Common.{refl}
use Rattle.edf_heads.proofs.KindFacts.{heads_agree}
use Rattle.edf_heads.proofs.comparison.Comparison.remaining_difference.Goals as goal

pub returns : goal.returns
returns c = λ agree.
    heads_agree c.args.self.now.original c.args.self.now.export c.args.self.now.claim agree c.in_default.ensures (c.if-not-is_header_blank.ensures.0 refl) c.in_default-first_breaking.ensures
