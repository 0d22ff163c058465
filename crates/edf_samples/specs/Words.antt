-- The words of lower crates, and the types of the code, that most definitions here name.
pub use Rattle.std.specs.Option.{option_map, option_or}
pub use Rattle.std.specs.Ordering.{int_eq}
pub use Rattle.edf_stream.specs.declared.times.instant.Instant.{Instant}
pub use Rattle.edf_samples.specs.declared.difference.PointDifference.{PointDifference}
pub use Rattle.edf_samples.specs.declared.earliest.Found.{Found}
pub use Rattle.edf_samples.specs.declared.point.Point.{Point}
