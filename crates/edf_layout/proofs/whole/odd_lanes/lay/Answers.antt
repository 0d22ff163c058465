use Rattle.std.proofs.Common.{◌==◌, Vec, Global, map}
use Rattle.edf_stream.specs.Views.{note_value}
use Rattle.edf_layout.specs.body.LaidTals.{laid_view}
use Rattle.edf_layout.specs.declared.laid_tal.LaidTal.{LaidTal}
use Rattle.edf_layout.proofs.lanes.BareLaneFacts.{lay_some, lay_none}
use Rattle.edf_layout.proofs.whole.odd_lanes.lay.Goals as goal

pub returns-in-Some : goal.returns-in-Some
returns-in-Some c =
    lay_some (λ bytes. bytes.now) (λ (v : Vec LaidTal Global). map laid_view v.items) (map note_value c.args.notes.now) (c.args.lane.number == 0) c.args.lane.bytes c.in-Some.bytes c.lay_lane.result
    c.in-Some.is c.lay_lane.ensures

pub returns : goal.returns
returns c =
    lay_none (λ bytes. bytes.now) (λ (v : Vec LaidTal Global). map laid_view v.items) (map note_value c.args.notes.now) (c.args.lane.number == 0) c.args.lane.bytes c.lay_bare.result
    c.in_default.is c.lay_bare.ensures
