-- What the crates above cite of this crate's proofs; they cite nothing else of it.
pub use Rattle.edf_fields.proofs.BlockFacts.{same-lanes}
pub use Rattle.edf_fields.proofs.BoolFacts.{and-true, both-true, not-true, not-is, le-tested, lt-tested, le-passes, lt-passes}
pub use Rattle.edf_fields.proofs.texts.DateFacts.{le_decided, dotted_day_read, day_month_read, dashed_day_read, clock_time_read, dotted_day-some, day_month-some, dashed_day-some, clock_time-some, dotted-no_letters, dotted_day_is_named, day_month_is_named, dashed_day_is_named, clock_time_is_named}
pub use Rattle.edf_fields.proofs.HasFacts.{has-append, has-front, has-back, has-filtered, filtered-has, has-at, at-has, find-none, find-some, find-first, or-cases, or-true, get-within, has-map, map-has, map-get, get-map, get-index, has-permutation}
pub use Rattle.edf_fields.proofs.texts.FieldNumberFacts.{whole_in, decimal_in, to_picoseconds, from_picoseconds}
pub use Rattle.edf_fields.proofs.texts.IdentificationFacts.{patient_or_cause, recording_or_cause}
pub use Rattle.edf_fields.proofs.ListFacts.{has-one_of, one_of-has, distinct-tested, distinct-passes}
pub use Rattle.edf_fields.proofs.texts.NumberFacts.{whole_number_of-spelled, header_number_of-spelled, whole_number_of-some, header_number_of-some, whole_number_is_spelled, header_number_is_spelled}
pub use Rattle.edf_fields.proofs.texts.OnsetByteFacts.{onset_bytes_from, span_bytes_from}
pub use Rattle.edf_fields.proofs.texts.TimeFacts.{onset_is_read, span_is_read, onset_of_spelled, onset_of_some, onset_of_none, span_of_spelled, span_of_some, span_of_none, span_small, onset_small, onset_is_spelled, span_is_spelled}
pub use Rattle.edf_fields.proofs.PartFacts.{part-append}
pub use Rattle.edf_fields.proofs.PlaceFacts.{before_at, behind_at, before_none, behind_none}
pub use Rattle.edf_fields.proofs.texts.PrintableFacts.{printable_decided}
pub use Rattle.edf_fields.proofs.ReadFacts.{take_behind}
pub use Rattle.edf_fields.proofs.texts.SubfieldLawFacts.{joined_found}
pub use Rattle.edf_fields.proofs.SubfieldNameFacts.{which-read, same-name}
pub use Rattle.edf_fields.proofs.TestFacts.{first-passed, first-found, alone, first-none, pass-append, first-cons, pass-cons, unless-passed, unless-true}
pub use Rattle.edf_fields.proofs.texts.ValueFacts.{whole_number-below, header_number-below}
