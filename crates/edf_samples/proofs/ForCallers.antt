-- What the crates above cite of this crate's proofs; they cite nothing else of it.
pub use Rattle.edf_samples.proofs.CutFacts.{earlier_from, filter-ascending, later, since-from, since_all, since_none, since_split, until-before, until_none}
pub use Rattle.edf_samples.proofs.DifferenceFacts.{After, AreBefore, AreFrom, Differ, HasValue, IsAscending, IsLeastDifference, Match, after_head, apart, differ_after, difference-before, difference-from, difference_splits, exact, match_not_differ, none_at, none_rest, none_with_head, or_assoc, partner_at, rest_after, rest_differ, tested, value_cases, weaker_value, whole_differ}
pub use Rattle.edf_samples.proofs.EarliestFacts.{AreInstants, IsEarliest, earliest-is-least, earliest-step}
pub use Rattle.edf_samples.proofs.FilterFacts.{by_test, filter_all, filter_implied, filter_none, filters_swap}
pub use Rattle.edf_samples.proofs.FloorFacts.{floor-same}
pub use Rattle.edf_samples.proofs.FractionFacts.{before-not_before, before_below, before_not, both_same, by_before, false-is_before, from_below, is_before-false, is_before-true, not_before-before, same_above, same_back, same_before, same_below, same_through, scaled, true-is_before}
pub use Rattle.edf_samples.proofs.StretchFacts.{alike-heads}
pub use Rattle.edf_samples.proofs.TallyFacts.{differences_split, first_is_first, joined_none, tally_append}
