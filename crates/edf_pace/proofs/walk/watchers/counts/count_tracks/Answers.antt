use Rattle.std.proofs.Common.{◌∙◌, sym, subst, Option, IfSome}
use Rattle.edf_samples.specs.Stretches.{points_in}
use Rattle.edf_samples.specs.declared.counts.meeting.Meeting.{Meeting}
use Rattle.edf_pace.specs.walk.Meetings.{AreMet}
use Rattle.edf_pace.specs.walk.Windows.{sampled}
use Rattle.edf_pace.proofs.walk.ShownFacts.{kept_all}
use Rattle.edf_pace.proofs.walk.watchers.CountFacts.{pair_counted}
use Rattle.edf_pace.proofs.walk.watchers.counts.count_tracks.Goals as goal

pub returns-in-Some : goal.returns-in-Some
returns-in-Some c = λ claim clock w so se uncut kept o e ho he.
    let r = c.args.files.original.now in
    let s = c.args.files.export.now in
    let here = c.args.tracks.0 in
    let there = c.args.tracks.1 in
    let met : AreMet r s c.args.common.now.shares c.in-Some.meeting = subst (λ (m : Option Meeting). IfSome m (AreMet r s c.args.common.now.shares)) c.in-Some.is c.requires.met in
    pair_counted claim (sampled o r.head (clock.original).ps) (sampled e s.head (clock.export).ps) (w.from).ps (w.to).ps here.place there.place
    _ _ (points_in c.shown-x.result) (points_in c.shown-y.result) c.args.tally.now c.count_differences.new.tally c.shown-x.ensures.den c.shown-y.ensures.den
    (c.shown-x.ensures.value (clock.original).ps w so o ho
    ∙ sym (kept_all claim o r here.place (clock.original).ps (w.from).ps (w.to).ps ho.conforms (c.requires.original).place uncut (sym kept ∙ met.kept)))
    (c.shown-y.ensures.value (clock.export).ps w se e he) c.count_differences.ensures
