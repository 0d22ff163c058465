use Rattle.std.proofs.Common.{◌∙◌, map}
use Rattle.edf_layout.specs.body.PlainLanes.{order_view}
use Rattle.edf_layout.specs.whole.LaneRows.{odd_view}
use Rattle.edf_layout.proofs.lanes.ReportMadeFacts.{all-kept}
use Rattle.edf_layout.proofs.whole.layout.laid_out.Goals as goal

pub returns : goal.returns
returns c =
    let file = c.args.file.now in
    all-kept file.head.front.items file.head.columns.items file.head.header file.body c.deref.result.now (order_view c.in_ok-laid.laid.order) (map odd_view c.in_ok-laid.laid.odd.items) c.report_on.result
    (c.deref.ensures.value ∙ c.in_ok-sizes.ensures) c.in_ok-laid.ensures c.report_on.ensures
