-- What the crates above cite of this crate's proofs; they cite nothing else of it.
pub use Rattle.edf_header.proofs.signals.CalibrationFitFacts.{calibrations_fit}
pub use Rattle.edf_header.proofs.ConformingFacts.{passing-conforms, passing_is_conforming, conforming_is_sound}
pub use Rattle.edf_header.proofs.signals.ChannelFacts.{some_channel, channels_distinct}
pub use Rattle.edf_header.proofs.PartsFacts.{HeadInParts, HeaderInParts, head_in_parts, head_from_parts, in_parts}
pub use Rattle.edf_header.proofs.HeadFacts.{one_head, passing_has_head}
pub use Rattle.edf_header.proofs.signals.CalibrationFacts.{same_line_is_equivalence}
