use Rattle.std.proofs.Common.{◌≡◌, ◌++◌}
use Rattle.edf_fields.specs.texts.SubfieldsReading.{subfields_left}
use Rattle.edf_report.specs.ShowTexts.{extras_text}
use Rattle.edf_report.proofs.show.push_extras.Given as goal

abbrev pub invariant-loop-extra : goal.invariant-loop-extra
invariant-loop-extra l =
    l.text.items ++ extras_text l.word (subfields_left l.extra-iterator) ≡ l.initial.text.items ++ extras_text l.word (subfields_left (l.fn).extras)
