use Rattle.std.proofs.Common.{rules, option_map}
use Rattle.edf_stream.specs.Views.{note_view}
use Rattle.edf_pace.proofs.walk.PassFacts.{pushed_one}
use Rattle.edf_pace.proofs.walk.gather.push_counted.Goals as goal

pub returns-in_ok-push : goal.returns-in_ok-push
returns-in_ok-push c =
    pushed_one c.args.notes.now.items c.push.new.self.items c.in_ok-note_at.field-0 (option_map (λ x. x.now) c.args.claim) c.args.by.ps (note_view c.args.note) c.in-Some.text.now c.in_ok-push.ensures.items (search rules) (search rules)
