use Rattle.std.proofs.Common.{Bool, sym, subst, ap, ◌∙◌}
use Rattle.edf_stream.specs.records.Readers.{Comes, status_after}
use Rattle.edf_pace.proofs.walk.PassFacts.{answered_current}
use Rattle.edf_pace.proofs.walk.reading.go_on.Goals as goal

pub returns-in-Ok-clause-comes : goal.returns-in-Ok-clause-comes
returns-in-Ok-clause-comes g c = λ h file s.
    let more = c.in-Ok.field-0 in
    let e = answered_current (c.next_with.new.self).status more (c.next_with.ensures.status ∙ ap status_after c.in-Ok.is) in
    let P : Bool → Type 0 = λ b. Comes b c.args.reader.now c.next_with.new.self (g.S.Source.left c.next_with.new.source) file in
    subst P (sym e) (c.in-Ok.ensures.comes c.requires.open h file s)
