use Rattle.std.proofs.Common.{◌≡◌, ◌+◌, cond}
use Rattle.edf_fields.specs.texts.SubfieldsReading.{subfields_left}
use Rattle.edf_layout.specs.OddPlaces.{untold}
use Rattle.edf_layout.proofs.odd_places.are_untold.Given as goal

abbrev pub invariant-loop-extra : goal.invariant-loop-extra
invariant-loop-extra l = cond l.seen 1 0 + untold (subfields_left l.extra-iterator) ≡ untold (subfields_left l.extras)
