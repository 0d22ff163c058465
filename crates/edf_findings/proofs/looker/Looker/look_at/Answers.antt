use Rattle.std.proofs.Common.{rules, ◌≡◌, ◌∙◌, List, sym}
use Rattle.edf_pace.specs.declared.walk.watchers.found_in.ChannelCount.{ChannelCount}
use Rattle.edf_pace.specs.walk.Counting.{AreCounts}
use Rattle.edf_pace.specs.walk.Watching.{HasSeenIn}
use Rattle.edf_findings.proofs.looker.Looker.look_at.Goals as goal

pub returns-in-Ok-clause-holds : goal.returns-in-Ok-clause-holds
returns-in-Ok-clause-holds c =
    let there : (ts : List ChannelCount) → c.see.new.self.channels.items ≡ ts → HasSeenIn (AreCounts c.args.self.now.counts.channels.items) (AreCounts ts) c.args.frame c.args.original.now c.args.export.now c.args.within =
    λ ts is o e ho he t from held. sym is ∙ c.see.ensures.holds o e ho he t from held
    in
    there _ (search rules)

pub returns-in-Err-clause-holds : goal.returns-in-Err-clause-holds
returns-in-Err-clause-holds c =
    let there : (ts : List ChannelCount) → c.see.new.self.channels.items ≡ ts → HasSeenIn (AreCounts c.args.self.now.counts.channels.items) (AreCounts ts) c.args.frame c.args.original.now c.args.export.now c.args.within =
    λ ts is o e ho he t from held. sym is ∙ c.see.ensures.holds o e ho he t from held
    in
    there _ (search rules)
