use Rattle.std.proofs.Common.{int_le, rules}
use Rattle.std.proofs.lemmas.List.Sorted.{IsPartitionPoint-from_clause}
use Rattle.edf_layout.proofs.lanes.PlaceFacts.{starts-parted, record-found}
use Rattle.edf_layout.proofs.plain_lanes.record_of_onset.Goals as goal

pub returns-clause-place : goal.returns-clause-place
returns-clause-place c =
    let parted = starts-parted c.args.onset c.args.starts.now c.requires in
    let point = IsPartitionPoint-from_clause (λ start. int_le start c.args.onset) _ _ c.partition_point-count.ensures.partitioned parted (λ a r q k. search rules) in
    record-found c.args.onset c.args.starts.now c.partition_point-count.result c.saturating_sub.result c.partition_point-count.ensures.bound point c.saturating_sub.ensures
