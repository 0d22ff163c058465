use Rattle.std.proofs.Common.{◌≡◌, ◌++◌, drop, map}
use Rattle.edf_stream.specs.Views.{note_value}
use Rattle.edf_layout.specs.body.LaidTals.{laid_view}
use Rattle.edf_layout.specs.body.LaneReading.{keeps_now}
use Rattle.edf_layout.specs.body.PlainLanes.{plain_view, tals_in}
use Rattle.edf_layout.specs.declared.plain_lanes.PlainTal.TheVariants as tals
use Rattle.edf_layout.specs.whole.LaneRows.{plainly_laid}
use Rattle.edf_layout.proofs.whole.odd_lanes.lay_plain.Given as goal

abbrev pub invariant-loop-number : goal.invariant-loop-number
invariant-loop-number l =
    map laid_view l.laid.items
    ++ plainly_laid (map note_value l.notes) (keeps_now l.keeps_time (map laid_view l.laid.items))
    (map (plain_view (map note_value l.notes)) (map tals.Annotates (drop l.number-index l.plain.notes.items)))
    ≡ plainly_laid (map note_value l.notes) l.keeps_time (map (plain_view (map note_value l.notes)) (tals_in l.plain))
