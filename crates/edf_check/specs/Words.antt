-- The words of lower crates, and the types of the code, that most definitions here name.
pub use Rattle.edf_pace.specs.Words.{Bor, option_or, ClaimValue, Fails, Reads, Fault, Ghosts, channels_among, Head, SignalHead, Conforms, body_fault, file_fault, NoteValue, notes_of, Reader, note_value}
pub use Rattle.edf_pace.specs.declared.walk.fault_of.FaultOf.{FaultOf}
pub use Rattle.edf_samples.specs.declared.earliest.Found.{Found}
pub use Rattle.edf_pace.specs.declared.walk.reading.Reading.{Reading}
pub use Rattle.edf_samples.specs.declared.times.Time.{Time}
pub use Rattle.edf_pace.specs.declared.walk.turn.Setting.{Setting}
pub use Rattle.edf_pace.specs.declared.walk.turn.Turn.{Turn}
pub use Rattle.std.specs.List.{AllByRecursion}
pub use Rattle.std.specs.List.Sorted.{IsPermutation}
pub use Rattle.edf_claim.specs.Claims.{IsClaim, SaysClaimText}
pub use Rattle.edf_claim.specs.Faults.{FirstClaimFault}
pub use Rattle.edf_claim.specs.declared.stop.ClaimStop.{ClaimStop}
pub use Rattle.edf_fields.specs.Lists.{Has}
pub use Rattle.edf_header.specs.Heads.{samples_together}
pub use Rattle.edf_header.specs.HeadsReading.{head_of, start_second}
pub use Rattle.edf_heads.specs.HeadVerdicts.{HeadsAgree, IsHeadVerdict}
pub use Rattle.edf_heads.specs.SameHeads.{AreBlankAlike, AreSameHeads}
pub use Rattle.edf_verdict.specs.Outcomes.{outcome_of}
pub use Rattle.edf_verdict.specs.declared.outcome.Outcome.{Outcome}
pub use Rattle.edf_verdict.specs.declared.parts_verdict.PartsVerdict.{PartsVerdict}
pub use Rattle.edf_stop.specs.declared.parts_stops.PartsStop.{PartsStop}
pub use Rattle.edf_verdict.specs.declared.verdict.Verdict.{Verdict}
pub use Rattle.edf_check.specs.declared.finding.Finding.{Finding}
pub use Rattle.edf_check.specs.declared.parts.found.PartVerdict.{PartVerdict}
pub use Rattle.edf_check.specs.declared.parts.found.PartsFound.{PartsFound}
pub use Rattle.edf_check.specs.declared.parts.part.Course.{Course}
pub use Rattle.edf_check.specs.declared.parts.series.Exported.{Exported}
pub use Rattle.edf_check.specs.declared.parts.series.ReadSoFar.{ReadSoFar}
