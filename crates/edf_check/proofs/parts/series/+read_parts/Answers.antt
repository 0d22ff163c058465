use Rattle.std.proofs.Common.{rules, ◌≡◌, ◌++◌, ◌+◌, ◌&&◌, ◌∷◌, [], true, false, List, IsTrue, map, length, arith, refl, sym, ap, ◌∙◌, subst}
use Rattle.std.specs.List.{AllByRecursion}
use Rattle.edf_stream.specs.Views.{note_value}
use Rattle.edf_check.specs.declared.parts.found.PartsFound.{PartsFound}
use Rattle.edf_check.specs.parts.Together.{AreRead, HaveFault, held_notes}
use Rattle.edf_pace.specs.walk.Windows.{is_last}
use Rattle.edf_check.specs.parts.Counted.{turn_counts}
use Rattle.edf_stream.specs.Conforming.{Conforms}
use Rattle.edf_check.specs.parts.Ends.{is_same}
use Rattle.edf_check.proofs.parts.CompareFacts.{and-left, and-right, compared-later}
use Rattle.edf_check.proofs.parts.SerialFacts.{counted_last, counted_more, fault_behind, fault_first, gathered_last, gathered_more, next_turn, none-early, read_more, read_none}
use Rattle.edf_check.proofs.parts.series.+read_parts.Goals as goal

none-of : {X : Type 0} (xs : List X) → length xs ≡ 0 → xs ≡ []
none-of [] e = refl
none-of (x ∷ xs) e = absurd (omega (arith, e))

pub returns-in-Ok-Err-clause-fault : goal.returns-in-Ok-Err-clause-fault
returns-in-Ok-Err-clause-fault g t c = λ ho a bo he.
    let fault = (rw c.in-Ok-Err.field-0-is at c.in-Ok-Err.ensures.fault) ho a bo he.0 in
    fault_first a (c.args.so_far.now.original.reader).head _ c.args.shown.now.turn.part (g.E.Source.left c.args.part.now) (map g.E.Source.left c.args.others.now) c.in-Ok-Err.fault fault

pub returns-in-None-clause-read : goal.returns-in-None-clause-read
returns-in-None-clause-read g t c = λ ho a bo he.
    let turn = c.args.shown.now.turn in
    let read = c.in-Ok-Ok.read in
    let h = (c.args.so_far.now.original.reader).head in
    let left = g.O.Source.left c.read_part.new.o in
    let notes = map note_value (c.read_part.new.original.notes).items in
    let e = g.E.Source.left c.args.part.now in
    let left' = g.E.Source.left c.read_part.new.e in
    let part = (rw c.in-Ok-Ok.field-0-is at c.in-Ok-Ok.ensures.read) ho a bo he.0 in
    let none = none-of c.args.others.now c.in-None.ensures.cases in
    let L : List _ → Type 0 = λ all. c.are_none.result ≡ is_last (map g.E.Source.left all) in
    let last : c.are_none.result ≡ true = subst L none c.are_none.ensures.value in
    let N : PartsFound → Type 0 = λ f. AreRead (next_turn turn c.are_none.result read (turn.is_compared && is_same read)) a h left notes [] [] c.take.new.self c.take.new.self f in
    let rest : N c.nothing.result = subst N (sym c.nothing.ensures) (read_none turn c.are_none.result read a h left notes e left' c.take.new.self last part) in
    let F : List _ → Type 0 = λ all. AreRead turn a h left notes (e ∷ map g.E.Source.left all) (left' ∷ map g.E.Source.left all) c.args.so_far.now.exported c.take.new.self c.found_with.result in
    let Q : PartsFound → Type 0 = λ f. AreRead turn a h left notes (e ∷ []) (left' ∷ []) c.args.so_far.now.exported c.take.new.self f in
    subst F (sym none)
    (subst Q (sym c.found_with.ensures)
    (read_more turn c.are_none.result (turn.is_compared && is_same read) read a h left left notes notes e left' [] [] c.args.so_far.now.exported c.take.new.self c.take.new.self _ last (λ z. z) c.in_ok-take.ensures.samples c.in_ok-take.ensures.notes part rest))

pub returns-in-Ok-Ok-read_parts-clause-read : goal.returns-in-Ok-Ok-read_parts-clause-read
returns-in-Ok-Ok-read_parts-clause-read g t c = λ ho a bo he.
    let turn = c.args.shown.now.turn in
    let read = c.in-Ok-Ok.read in
    let h = (c.args.so_far.now.original.reader).head in
    let left = g.O.Source.left c.read_parts.new.o in
    let notes = map note_value (c.read_parts.new.so_far.original.notes).items in
    let e = g.E.Source.left c.args.part.now in
    let left' = g.E.Source.left c.read_part.new.e in
    let parts = g.E.Source.left c.in-Some.next.now ∷ map g.E.Source.left c.in-Some.behind.now in
    let lefts = g.E.Source.left c.read_parts.new.part ∷ map g.E.Source.left c.read_parts.new.others in
    let part = (rw c.in-Ok-Ok.field-0-is at c.in-Ok-Ok.ensures.read) ho a bo he.0 in
    let others = c.in-Some.ensures.cases.0 in
    let L : List _ → Type 0 = λ all. c.are_none.result ≡ is_last (map g.E.Source.left all) in
    let last : c.are_none.result ≡ false = subst L others c.are_none.ensures.value in
    let passes = (rw c.in-Ok-Ok.field-0-is at c.in-Ok-Ok.ensures.passes) last in
    let passed = passes in
    let stays = rw c.in-Ok-Ok.field-0-is at c.in-Ok-Ok.ensures.stays in
    let goes : (turn.is_compared && is_same read) ≡ true → (read.course).is_beside ≡ true = λ z. stays last (and-left turn.is_compared (is_same read) z) (and-right turn.is_compared (is_same read) z) in
    let H : List _ → Type 0 = λ all. AllByRecursion IsTrue (map g.E.Source.is_honest all) in
    let behind = (rw c.in-Ok-Ok-read_parts.field-0-is at c.in-Ok-Ok-read_parts.ensures.read) (passed.honesty ho) a (passed.comes ho a bo) (subst H others he.1) in
    let rest = subst (λ k. AreRead (next_turn turn c.are_none.result read (read.course).is_beside) a k left notes parts lefts c.take.new.self c.read_parts.new.so_far.exported c.in-Ok-Ok-read_parts.rest) passed.head behind in
    let F : List _ → Type 0 = λ all. AreRead turn a h left notes (e ∷ map g.E.Source.left all) (left' ∷ lefts) c.args.so_far.now.exported c.read_parts.new.so_far.exported c.found_with-in-Ok-Ok-read_parts.result in
    let Q : PartsFound → Type 0 = λ f. AreRead turn a h left notes (e ∷ parts) (left' ∷ lefts) c.args.so_far.now.exported c.read_parts.new.so_far.exported f in
    subst F (sym others)
    (subst Q (sym c.found_with-in-Ok-Ok-read_parts.ensures)
    (read_more turn c.are_none.result (read.course).is_beside read a h left _ notes _ e left' parts lefts c.args.so_far.now.exported c.take.new.self c.read_parts.new.so_far.exported c.in-Ok-Ok-read_parts.rest last goes c.in_ok-take.ensures.samples c.in_ok-take.ensures.notes part rest))

pub returns-in-Ok-Err-read_parts-clause-fault : goal.returns-in-Ok-Err-read_parts-clause-fault
returns-in-Ok-Err-read_parts-clause-fault g t c = λ ho a bo he.
    let turn = c.args.shown.now.turn in
    let left = g.O.Source.left c.read_parts.new.o in
    let e = g.E.Source.left c.args.part.now in
    let part = (rw c.in-Ok-Ok.field-0-is at c.in-Ok-Ok.ensures.read) ho a bo he.0 in
    let others = c.in-Some.ensures.cases.0 in
    let L : List _ → Type 0 = λ all. c.are_none.result ≡ is_last (map g.E.Source.left all) in
    let last : c.are_none.result ≡ false = subst L others c.are_none.ensures.value in
    let passes = (rw c.in-Ok-Ok.field-0-is at c.in-Ok-Ok.ensures.passes) last in
    let passed = passes in
    let H : List _ → Type 0 = λ all. AllByRecursion IsTrue (map g.E.Source.is_honest all) in
    let fault = (rw c.in-Ok-Err-read_parts.field-0-is at c.in-Ok-Err-read_parts.ensures.fault) (passed.honesty ho) a (passed.comes ho a bo) (subst H others he.1) in
    let F : List _ → Type 0 = λ all. HaveFault turn.part a (c.args.so_far.now.original.reader).head left (e ∷ map g.E.Source.left all) c.in-Ok-Err-read_parts.fault in
    let parts = g.E.Source.left c.in-Some.next.now ∷ map g.E.Source.left c.in-Some.behind.now in
    subst F (sym others)
    (fault_behind a (c.args.so_far.now.original.reader).head left turn.part e parts c.in-Ok-Err-read_parts.fault (((part.passed).ended).through).conforms
    (subst (λ k. HaveFault (turn.part + 1) a k left parts c.in-Ok-Err-read_parts.fault) passed.head fault))

pub returns-in-None-clause-counted : goal.returns-in-None-clause-counted
returns-in-None-clause-counted g t c = λ looks ho a bo he co.
    let turn = c.args.shown.now.turn in
    let read = c.in-Ok-Ok.read in
    let h = (c.args.so_far.now.original.reader).head in
    let e = g.E.Source.left c.args.part.now in
    let before = g.L.Onlooker.counted c.args.shown.now.onlooker.now in
    let none = none-of c.args.others.now c.in-None.ensures.cases in
    let L : List _ → Type 0 = λ all. c.are_none.result ≡ is_last (map g.E.Source.left all) in
    let last : c.are_none.result ≡ true = subst L none c.are_none.ensures.value in
    let part = (rw c.in-Ok-Ok.field-0-is at c.in-Ok-Ok.ensures.read) ho a bo he.0 in
    let counted = rw c.in-Ok-Ok.field-0-is at c.in-Ok-Ok.ensures.counted in
    let uncounted = rw c.in-Ok-Ok.field-0-is at c.in-Ok-Ok.ensures.uncounted in
    let others = map g.E.Source.left c.args.others.now in (
      subst (λ x. g.L.Onlooker.counted x ≡ before ++ turn_counts turn a h (e ∷ others)) (search rules)
          (counted_last turn c.are_none.result read.course a h e others before (g.L.Onlooker.counted c.read_part.new.onlooker) last (ap (map g.E.Source.left) none) (part.passed).early (part.passed).later
          (λ compared later. (counted looks compared later ho a bo he.0).0 co) (λ apart. uncounted looks apart he.0)),
      λ compared early.
          let none-early' = none-early turn.part (read.course).is_early c.nothing.result.early (sym (ap (λ (f : PartsFound). f.early) c.found_with.ensures) ∙ early) in
          let here = counted looks compared none-early'.0 ho a bo he.0 in
          gathered_last turn c.are_none.result a h e others c.read_part.new.original (held_notes c.args.so_far.now.exported) (map note_value (read.notes).items) (held_notes c.take.new.self) last (ap (map g.E.Source.left) none) here.2 c.in_ok-take.ensures.notes here.1,
    )

pub returns-in-Ok-Ok-read_parts-clause-counted : goal.returns-in-Ok-Ok-read_parts-clause-counted
returns-in-Ok-Ok-read_parts-clause-counted g t c = λ looks ho a bo he co.
    let turn = c.args.shown.now.turn in
    let read = c.in-Ok-Ok.read in
    let h = (c.args.so_far.now.original.reader).head in
    let e = g.E.Source.left c.args.part.now in
    let parts = g.E.Source.left c.in-Some.next.now ∷ map g.E.Source.left c.in-Some.behind.now in
    let others = c.in-Some.ensures.cases.0 in
    let before = g.L.Onlooker.counted c.args.shown.now.onlooker.now in
    let L : List _ → Type 0 = λ all. c.are_none.result ≡ is_last (map g.E.Source.left all) in
    let last : c.are_none.result ≡ false = subst L others c.are_none.ensures.value in
    let passed = (rw c.in-Ok-Ok.field-0-is at c.in-Ok-Ok.ensures.passes) last in
    let part = (rw c.in-Ok-Ok.field-0-is at c.in-Ok-Ok.ensures.read) ho a bo he.0 in
    let counted = rw c.in-Ok-Ok.field-0-is at c.in-Ok-Ok.ensures.counted in
    let uncounted = rw c.in-Ok-Ok.field-0-is at c.in-Ok-Ok.ensures.uncounted in
    let beside = (rw c.in-Ok-Ok.field-0-is at c.in-Ok-Ok.ensures.beside) looks last in
    let H : List _ → Type 0 = λ all. AllByRecursion IsTrue (map g.E.Source.is_honest all) in
    let behind = (rw c.in-Ok-Ok-read_parts.field-0-is at c.in-Ok-Ok-read_parts.ensures.counted) (c.read_part.ensures.looks ∙ looks) (passed.honesty ho) a (passed.comes ho a bo) (subst H others he.1) (subst (Conforms a) (sym passed.head) co) in
    let next = next_turn turn c.are_none.result read (read.course).is_beside in
    let behind' = subst (λ x. g.L.Onlooker.counted c.read_parts.new.shown.onlooker.now ≡ g.L.Onlooker.counted x ++ turn_counts next a (c.read_part.new.original.reader).head parts) (search rules) behind.0 in (
      subst (λ x. g.L.Onlooker.counted x ≡ before ++ turn_counts turn a h (e ∷ map g.E.Source.left c.args.others.now)) (search rules)
          (counted_more turn c.are_none.result read a h _ e (map g.E.Source.left c.args.others.now) parts before (g.L.Onlooker.counted c.read_part.new.onlooker) (g.L.Onlooker.counted c.read_parts.new.shown.onlooker.now) last refl passed.head (ap (map g.E.Source.left) others)
          ((part.passed).ended).end_is beside (part.passed).early (part.passed).later (λ compared later. (counted looks compared later ho a bo he.0).0 co) (λ apart. uncounted looks apart he.0) behind'),
      λ compared early.
          let not-early = none-early turn.part (read.course).is_early c.in-Ok-Ok-read_parts.rest.early (sym (ap (λ (f : PartsFound). f.early) c.found_with-in-Ok-Ok-read_parts.ensures) ∙ early) in
          let here = counted looks compared not-early.0 ho a bo he.0 in
          let stays = beside ∙ compared-later turn.is_compared (read.course).is_early compared not-early.0 in
          gathered_more turn next c.are_none.result a h _ e (map g.E.Source.left c.args.others.now) parts c.read_part.new.original c.read_parts.new.so_far.original (held_notes c.args.so_far.now.exported) (map note_value (read.notes).items) (held_notes c.take.new.self) (held_notes c.read_parts.new.so_far.exported) refl (ap (map g.E.Source.left) others) passed.head c.in_ok-take.ensures.notes here.1 (behind.1 stays not-early.1),
    )
