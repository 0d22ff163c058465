use Rattle.std.proofs.Common.{◌≡◌, ◌∙◌, [], ◌∷◌, ◌++◌, ap, length, replicate, rules}
use Rattle.edf_pace.specs.walk.Spots.{no_count}
use Rattle.edf_pace.proofs.walk.watchers.CountFacts.{each_none, replicate-length, replicate-more}
use Rattle.edf_pace.proofs.walk.watchers.counts.Counts.new.Goals as goal

pub loop-preserved : goal.loop-preserved
loop-preserved c =
    c.in_ok-push.ensures.items ∙ ap (λ ts. ts ++ (c.none.result ∷ [])) c.loop.invariant ∙ ap (λ t. replicate c.loop.index no_count ++ (t ∷ [])) c.none.ensures
    ∙ replicate-more c.loop.index no_count

pub returns-clause-each : goal.returns-clause-each
returns-clause-each c =
    let ended : c.loop.index ≡ length c.args.frame.pairs.now = search rules in
    ap length c.loop.invariant ∙ replicate-length c.loop.index no_count ∙ ended

pub returns-clause-none : goal.returns-clause-none
returns-clause-none c = λ files t.
    let ended : c.loop.index ≡ length c.args.frame.pairs.now = search rules in
    c.loop.invariant ∙ ap (λ k. replicate k no_count) ended ∙ each_none c.args.frame files t
