use Rattle.std.proofs.Common.{drop, map}
use Rattle.edf_stream.specs.Views.{note_value}
use Rattle.edf_layout.specs.body.PlainLanes.{DoAgree}
use Rattle.edf_layout.proofs.plain_lanes.do_orders_agree.Given as goal

abbrev pub invariant-loop-number : goal.invariant-loop-number
invariant-loop-number l = DoAgree l.starts l.number (map note_value (drop l.number l.notes)) → DoAgree l.starts 0 (map note_value l.notes)
