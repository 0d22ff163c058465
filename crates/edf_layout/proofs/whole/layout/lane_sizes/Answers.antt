use Rattle.edf_layout.proofs.lanes.SizeFacts.{sizes-all}
use Rattle.edf_layout.proofs.whole.layout.lane_sizes.Goals as goal

pub returns : goal.returns
returns c =
    sizes-all c.loop-place.sizes.items c.annotation_places-place-items.result.now c.loop-place.place-index c.args.header.now c.loop-place-test.false c.annotation_places-place-items.ensures
    c.loop-place.invariant
