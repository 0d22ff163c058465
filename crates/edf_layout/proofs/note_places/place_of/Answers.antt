use Rattle.std.proofs.Common.{rules}
use Rattle.std.proofs.lemmas.List.Sorted.{IsPartitionPoint-from_clause}
use Rattle.edf_layout.specs.body.LaidNotes.{laid_note}
use Rattle.edf_layout.proofs.lanes.PlaceFacts.{comes-before, parted, place-found}
use Rattle.edf_layout.proofs.note_places.place_of.Goals as goal

pub returns : goal.returns
returns c =
    let key = laid_note c.args.note in
    let point = IsPartitionPoint-from_clause (comes-before key) _ _ c.partition_point.ensures.partitioned (parted key c.args.notes.now c.requires) (λ a r q k. search rules) in
    place-found key c.args.notes.now c.partition_point.result c.partition_point.ensures.bound point
