use Rattle.std.proofs.Common.{Fits, rules, w64}
use Rattle.edf_samples.proofs.FrontFacts.{range_counted}
use Rattle.edf_samples.proofs.counts.alone.alone_among.Goals as goal

pub returns : goal.returns
returns c =
    let fits : Fits w64 c.args.places.count = search rules in
    λ place f l. range_counted c.args.mismatch c.args.x c.args.places c.alone_at.result c.alone_at-2.result place fits c.requires.some c.alone_at.ensures c.alone_at-2.ensures f l
