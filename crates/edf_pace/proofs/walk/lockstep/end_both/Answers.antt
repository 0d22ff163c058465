use Rattle.std.proofs.Common.{◌∙◌, ◌+ℤ◌, refl, ap}
use Rattle.edf_stream.specs.times.Starts.{file_start}
use Rattle.edf_pace.proofs.walk.lockstep.end_both.Goals as goal

pub returns-in-Ok-None-finish-clause-through : goal.returns-in-Ok-None-finish-clause-through
returns-in-Ok-None-finish-clause-through g c = λ ho he a b ato ate.
    let o = rw c.in-Ok-None.field-0-is at c.in-Ok-None.ensures.read in
    let e = rw c.in-Ok-None-finish.field-0-is at c.in-Ok-None-finish.ensures.read in
    let goes = rw c.in-Ok-None-finish.field-0-is at c.in-Ok-None-finish.ensures.goes in
    let by = (c.args.turn.setting.clock.export).ps in
    let there = e he b ate in (
      (o ho a ato).0,
      there.0,
      c.last_end.ensures.value ∙ ap (λ (h : _). (file_start h +ℤ by) +ℤ c.finish-in-Ok-None.new.reader.ended) goes.head ∙ ap (λ z. (file_start c.args.export.now.head +ℤ by) +ℤ z) there.1,
    )

pub returns-in-Ok-Some-finish-clause-fault : goal.returns-in-Ok-Some-finish-clause-fault
returns-in-Ok-Some-finish-clause-fault g c = λ ho he a b ato ate.
    let o = rw c.in-Ok-None.field-0-is at c.in-Ok-None.ensures.read in
    let e = rw c.in-Ok-Some-finish.field-0-is at c.in-Ok-Some-finish.ensures.read in
    let there = (o ho a ato).0 in
    (refl, there.fault, e he b ate, there.gone)
