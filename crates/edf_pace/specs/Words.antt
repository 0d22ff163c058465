-- The words of lower crates, and the types of the code, that most definitions here name.
pub use Rattle.std.specs.Borrow.{Bor}
pub use Rattle.std.specs.List.{All}
pub use Rattle.std.specs.Option.{option_map, option_or}
pub use Rattle.std.specs.Ordering.{int_eq}
pub use Rattle.edf_claim.specs.Keeps.{keeps_annotation, keeps_instant, kept_text}
pub use Rattle.edf_claim.specs.ClaimValues.{ClaimValue}
pub use Rattle.edf_fields.specs.in_out.Sources.{Fails, Reads}
pub use Rattle.edf_fields.specs.declared.faults.fault.Fault.{Fault}
pub use Rattle.edf_fields.specs.declared.in_out.source.Source.{Ghosts}
pub use Rattle.edf_header.specs.signals.Channels.{channels_among}
pub use Rattle.edf_header.specs.Heads.{Head, SignalHead}
pub use Rattle.edf_stream.specs.Conforming.{Conforms}
pub use Rattle.edf_stream.specs.Faults.{body_fault, file_fault}
pub use Rattle.edf_stream.specs.annotation.Notes.{NoteValue, moved_by}
pub use Rattle.edf_stream.specs.annotation.NotesReading.{moved_notes_before, moved_notes_in, notes_of}
pub use Rattle.edf_stream.specs.records.Readers.{Comes, IsOpen, Reader, StandsIn, is_current}
pub use Rattle.edf_stream.specs.times.Starts.{file_start}
pub use Rattle.edf_stream.specs.times.StartsReading.{end_at, end_before, start_at, start_in}
pub use Rattle.edf_stream.specs.Views.{note_value}
pub use Rattle.edf_stream.specs.declared.times.instant.Instant.{Instant}
pub use Rattle.edf_stream.specs.declared.annotation.notes.Note.{Note}
pub use Rattle.edf_pace.specs.declared.walk.fault_of.FaultOf.{FaultOf}
pub use Rattle.edf_samples.specs.declared.difference.PointDifference.{PointDifference}
pub use Rattle.edf_samples.specs.declared.earliest.Found.{Found}
pub use Rattle.edf_samples.specs.declared.point.Point.{Point}
pub use Rattle.edf_samples.specs.declared.share.Share.{Share}
pub use Rattle.edf_pace.specs.declared.walk.channel_place.ChannelPlace.{ChannelPlace}
pub use Rattle.edf_pace.specs.declared.walk.clock.Clock.{Clock}
pub use Rattle.edf_pace.specs.declared.walk.gather.View.{View}
pub use Rattle.edf_pace.specs.declared.walk.frame.Frame.{Frame}
pub use Rattle.edf_pace.specs.declared.walk.reading.Reading.{Reading}
pub use Rattle.edf_samples.specs.declared.times.Time.{Time}
pub use Rattle.edf_samples.specs.declared.times.Window.{Window}
pub use Rattle.edf_pace.specs.declared.walk.track.Pair.{Pair}
pub use Rattle.edf_pace.specs.declared.walk.track.Track.{Track}
pub use Rattle.edf_pace.specs.declared.walk.turn.Setting.{Setting}
pub use Rattle.edf_pace.specs.declared.walk.turn.Turn.{Turn}
