-- What the crates above cite of this crate's proofs; they cite nothing else of it.
pub use Rattle.edf_pace.proofs.notes.NoteFacts.{note-apart, note-total, one-note}
pub use Rattle.edf_pace.proofs.notes.NoteOrderFacts.{Answer, AreInOrder, counted, more-with, once, turn, unequal-exact}
pub use Rattle.edf_pace.proofs.notes.OnlyInOneFacts.{first_is_first, none_is_found}
pub use Rattle.edf_pace.proofs.notes.RearrangedFacts.{notes_in_words}
pub use Rattle.edf_pace.proofs.walk.ChannelFacts.{ascending, difference_at}
pub use Rattle.edf_pace.proofs.walk.watchers.CountedFacts.{counted_end, counted_in_part, first_walked, found_among, none_in_span, tallies_walked}
pub use Rattle.edf_pace.proofs.walk.watchers.SpotFacts.{none_of_each, tallies_of}
pub use Rattle.edf_pace.proofs.walk.FileFacts.{fault_is}
pub use Rattle.edf_pace.proofs.walk.LockstepFacts.{are_places, fault_after, fault_by, fault_by_header, fault_of_heads, has_ended}
pub use Rattle.edf_pace.proofs.walk.OnwardFacts.{begin_is, ends_behind, matched_behind, matched_end, matched_on, other_way, past_all}
pub use Rattle.edf_pace.proofs.walk.PassFacts.{at_first, at_later, begins_with_one, there_next}
pub use Rattle.edf_pace.proofs.walk.PlaceFacts.{at-found, at-there, channel-bounds, channels-distinct, one-number}
pub use Rattle.edf_pace.proofs.walk.RecordFacts.{before-past-all, from-first, points-are-kept}
pub use Rattle.edf_pace.proofs.walk.SpanFacts.{claim_within, rest-kept, span_is_whole, until-all, window-kept, within-from, within-keeps, within-until}
unfoldable pub use Rattle.edf_pace.proofs.walk.SplitFacts.{ArePlaces}
unfoldable pub use Rattle.edf_pace.proofs.walk.SpanFacts.{whole_difference}
