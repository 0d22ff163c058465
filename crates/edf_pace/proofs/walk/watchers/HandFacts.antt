-- Data records that have begun by a time from which on an instant lies.
use Rattle.std.proofs.Common.{◌≡◌, ℕ, ℤ, ◌≤ℤ◌, cond, false, Option, None, sym, ap, ◌∙◌, arith, lit<}
use Rattle.std.proofs.lemmas.Int.{ints}
use Rattle.edf_stream.specs.declared.times.instant.Instant.{Instant}
use Rattle.edf_samples.specs.InstantOrder.{is_before}
use Rattle.edf_samples.specs.Stretches.{whole}
use Rattle.edf_samples.proofs.ForCallers.{false-is_before, from_below, is_before-false}
use Rattle.edf_pace.specs.declared.walk.watchers.at_hand.Hands.{Hands}
use Rattle.edf_pace.specs.declared.walk.watchers.found_in.RecordsAt.{RecordsAt}
use Rattle.edf_pace.specs.walk.Hands.{number_in, records_at}

-- an instant that isn't before a time isn't before an earlier one
since_begun : (at : Instant) (t from : ℤ) → is_before at (whole t) ≡ false → from ≤ℤ t → is_before at (whole from) ≡ false
since_begun at t from since begun =
    false-is_before at (whole from) (from_below at (whole t) (whole from) (lit< tt) (is_before-false at (whole t) since) (omega (arith, ints, begun)))

abbrev both : Option ℕ → Option ℕ → RecordsAt
both a b = record { original = a; export = b }

-- where both have begun by then it lies in both
pub records_begun : (hands : Hands) (at : Instant) (t : ℤ) → is_before at (whole t) ≡ false → ((hands.original).from).ps ≤ℤ t → ((hands.export).from).ps ≤ℤ t
    → record { original = (hands.original).number; export = (hands.export).number } ≡ records_at hands at
records_begun hands at t since here there =
    sym
    (ap (λ b. both (cond b None (hands.original).number) (number_in hands.export at)) (since_begun at t ((hands.original).from).ps since here)
    ∙ ap (λ b. both (hands.original).number (cond b None (hands.export).number)) (since_begun at t ((hands.export).from).ps since there))
