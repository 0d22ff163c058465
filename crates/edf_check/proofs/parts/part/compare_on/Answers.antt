use Rattle.std.proofs.Common.{rules, ◌≡◌, ◌∙◌, ◌&&◌, ◌||◌, ℕ, true, false, is_some, not, List, Option, IfSome, None, Some, map, length, refl, sym, ap, subst}
use Rattle.std.proofs.lemmas.List.{length-map}
use Rattle.std.specs.Borrow.{Bor}
use Rattle.std.specs.List.{All}
use Rattle.edf_header.specs.Heads.{Head}
use Rattle.edf_stream.specs.Views.{note_value}
use Rattle.edf_samples.specs.declared.earliest.Found.{Found}
use Rattle.edf_pace.specs.declared.walk.watchers.found_in.ChannelCount.{ChannelCount}
use Rattle.edf_pace.specs.declared.walk.frame.Frame.{Frame}
use Rattle.edf_pace.specs.declared.walk.track.Pair.{Pair}
use Rattle.edf_pace.specs.declared.walk.turn.Turn.{Turn}
use Rattle.edf_pace.specs.walk.Ends.{IsCounted, IsMatched, IsFoundAmong, IsReadThrough, moved_export, moved_original}
use Rattle.edf_pace.specs.walk.Pairs.{AreLaidAlike, ArePairs, places_of, places_in}
use Rattle.edf_pace.specs.walk.Shown.{last_end_by}
use Rattle.edf_check.specs.parts.Counted.{TurnCounted}
use Rattle.edf_check.proofs.parts.CompareFacts.{is_alone, last-over, never-enough, not-over, passes_moved, passes_on}
use Rattle.edf_pace.specs.walk.Watching.{IsFirst, Kept, two_files}
use Rattle.edf_pace.proofs.ForCallers.{are_places, counted_end, counted_in_part, first_walked, has_ended, matched_behind, matched_end, matched_on, other_way, tallies_walked}
use Rattle.edf_check.proofs.parts.part.compare_on.Goals as goal

abbrev framed : Turn → Bor (List Pair) → Option ℕ → Frame
framed turn pairs room = record { turn = turn; pairs = pairs; room = room }

-- the pairs are those of the headers
paired : (h h' g g' : Head) (ps qs : List Pair) → h' ≡ h → g' ≡ g → qs ≡ ps → ArePairs h' g' ps → ArePairs h g qs
paired h h' g g' ps qs eh eg e are = subst (λ x. ArePairs x g qs) eh (subst (λ y. ArePairs h' y qs) eg (subst (ArePairs h' g') (sym e) are))

placed : (h h' g g' : Head) (ps qs : List Pair) (labels : List (Bor (List ℕ))) → h' ≡ h → g' ≡ g → qs ≡ ps → map places_of ps ≡ places_in h' g' labels → map places_of qs ≡ places_in h g labels
placed h h' g g' ps qs labels eh eg e are = ap (map places_of) e ∙ are ∙ ap (λ x. places_in x g' labels) eh ∙ ap (λ y. places_in h y labels) eg

-- what was found is a difference of one of the labels' channels
among : (h g : Head) (ps qs : List Pair) (labels : List (Bor (List ℕ))) (found : Option Found) → ps ≡ qs → map places_of qs ≡ places_in h g labels → IfSome found (IsFoundAmong (length ps)) → IfSome found (IsFoundAmong (length labels))
among h g ps qs labels found e are modest =
    let long : length ps ≡ length labels = sym (length-map ps places_of) ∙ ap (λ xs. length (map places_of xs)) e ∙ ap length are ∙ length-map labels _ in
    subst (λ n. IfSome found (IsFoundAmong n)) long modest

pub walk_on-requires-clause-frame : goal.walk_on-requires-clause-frame
walk_on-requires-clause-frame g c =
    let of : Head → Head → List Pair → Type 0 = λ h k pairs. IfSome c.common_room.result (λ n. All (AreLaidAlike h k n) pairs) in
    let same : c.deref-2.result.now ≡ c.deref.result.now = c.deref-2.ensures.value ∙ sym c.deref.ensures.value in
    let h = (c.args.original.now.reader).head in
    let k = (c.args.export.now.reader).head in (
      paired h c.header-here.result.now k c.header-there.result.now c.in_ok-pairs.pairs.items c.deref.result.now c.header-here.ensures c.header-there.ensures c.deref.ensures.value c.in_ok-pairs.ensures.pairs,
      subst (λ x. of x k c.deref.result.now) c.header-here.ensures (subst (λ y. of c.header-here.result.now y c.deref.result.now) c.header-there.ensures (subst (of c.header-here.result.now c.header-there.result.now) same c.common_room.ensures)),
    )

pub returns-then-not-is_over-clause-passes : goal.returns-then-not-is_over-clause-passes
returns-then-not-is_over-clause-passes g c = λ last.
    let moved = rw c.in-Ok-Ok.field-0-is at c.in-Ok-Ok.ensures.original in
    passes_moved c.args.shown.now.turn _ _ _ _ _ _ _ _ _ _ true c.in-Ok-Ok.read.reached c.requires.compared moved

pub returns-then-not-is_over-clause-ended : goal.returns-then-not-is_over-clause-ended
returns-then-not-is_over-clause-ended g c = λ ho he a b ao ae.
    let read = c.in-Ok-Ok.read in
    let found = c.walk_on.new.watch.watcher.found in
    let quiet = not (g.L.Onlooker.looks c.walk_on.new.watch.watcher.onlooker.now) in
    let more = not-over (is_some found && quiet) c.args.shown.now.turn.is_last (ap (λ z. z || c.args.shown.now.turn.is_last) (sym c.has_enough.ensures) ∙ sym c.is_over.ensures ∙ c.if-not-is_over.true) in
    let over = (rw c.in-Ok-Ok.field-0-is at c.in-Ok-Ok.ensures.over) more.0 in
    let walked = (rw c.in-Ok-Ok.field-0-is at c.in-Ok-Ok.ensures.walked) ho he a b ao ae in
    let moved = rw c.in-Ok-Ok.field-0-is at c.in-Ok-Ok.ensures.export in
    let ended = has_ended c.args.export.now.reader c.walk_on.new.export.reader _ _ b None (moved_export c.args.shown.now.turn) read.reached.ps moved.head moved.going (over.1).0 (moved.comes he b ae) in
    record { through = ended.through; end_is = walked.ends more.0 more.1 }

pub returns-then-not-is_over-clause-matched : goal.returns-then-not-is_over-clause-matched
returns-then-not-is_over-clause-matched g c = λ compared early ho he a b ao ae.
    let turn = c.args.shown.now.turn in
    let read = c.in-Ok-Ok.read in
    let found = c.walk_on.new.watch.watcher.found in
    let h = (c.args.original.now.reader).head in
    let k = (c.args.export.now.reader).head in
    let quiet = not (g.L.Onlooker.looks c.walk_on.new.watch.watcher.onlooker.now) in
    let more = not-over (is_some found && quiet) c.args.shown.now.turn.is_last (ap (λ z. z || c.args.shown.now.turn.is_last) (sym c.has_enough.ensures) ∙ sym c.is_over.ensures ∙ c.if-not-is_over.true) in
    let over = (rw c.in-Ok-Ok.field-0-is at c.in-Ok-Ok.ensures.over) more.0 in
    let later = rw c.in-Ok-Ok.field-0-is at c.in-Ok-Ok.ensures.later in
    let walked = (
    let frame = framed turn c.deref.result c.common_room.result in
    let files = two_files a h b k in
    let quiet = not (g.L.Onlooker.looks c.walk_on.new.watch.watcher.onlooker.now) in
    is_alone turn files (IsFirst None frame) (IsFirst found frame) (is_some found) quiet read
    (first_walked frame files found _ _ _ _ (is_some found && quiet) read (λ l. c.in_ok-begin.ensures.none (sym c.in_ok-begin.ensures.looks ∙ l) files turn.from.ps) ((rw c.in-Ok-Ok.field-0-is at c.in-Ok-Ok.ensures.walked) ho he a b ao ae))
    ) in
    let moved = rw c.in-Ok-Ok.field-0-is at c.in-Ok-Ok.ensures.export in
    let ended = has_ended c.args.export.now.reader c.walk_on.new.export.reader _ _ b None (moved_export turn) read.reached.ps moved.head moved.going (over.1).0 (moved.comes he b ae) in
    let ns = map note_value (c.walk_on.new.original.notes).items in
    let ms = map note_value (c.walk_on.new.export.notes).items in
    let same = placed h c.header-here.result.now k c.header-there.result.now c.in_ok-pairs.pairs.items c.deref.result.now turn.setting.labels.now c.header-here.ensures c.header-there.ensures c.deref.ensures.value c.in_ok-pairs.ensures.places in
    let places = are_places h k c.deref.result.now (paired h c.header-here.result.now k c.header-there.result.now c.in_ok-pairs.pairs.items c.deref.result.now c.header-here.ensures c.header-there.ensures c.deref.ensures.value c.in_ok-pairs.ensures.pairs) in
    let by : (f : Option Found) → found ≡ f → IsMatched turn a h ns b k ms found = λ f.
    elim f as (λ f. found ≡ f → IsMatched turn a h ns b k ms found) [
      | None ↦ λ none. matched_on (framed c.args.shown.now.turn c.deref.result c.common_room.result) a h ns b k ms read found same places later walked more.1 none over.0 ended
      | Some first ↦ λ some. matched_behind (framed c.args.shown.now.turn c.deref.result c.common_room.result) a h ns b k ms read found same places later walked first some (ended.through).conforms
    ]
    in
    by found refl

pub returns-then-not-is_over-clause-modest : goal.returns-then-not-is_over-clause-modest
returns-then-not-is_over-clause-modest g c =
    let modest = rw c.in-Ok-Ok.field-0-is at c.in-Ok-Ok.ensures.fits in
    among c.header-here.result.now c.header-there.result.now c.deref.result.now c.in_ok-pairs.pairs.items c.args.shown.now.turn.setting.labels.now c.walk_on.new.watch.watcher.found c.deref.ensures.value c.in_ok-pairs.ensures.places modest.0

pub returns-in-Ok-Ok-end_both-clause-modest : goal.returns-in-Ok-Ok-end_both-clause-modest
returns-in-Ok-Ok-end_both-clause-modest g c =
    let modest = rw c.in-Ok-Ok.field-0-is at c.in-Ok-Ok.ensures.fits in
    among c.header-here.result.now c.header-there.result.now c.deref.result.now c.in_ok-pairs.pairs.items c.args.shown.now.turn.setting.labels.now c.walk_on.new.watch.watcher.found c.deref.ensures.value c.in_ok-pairs.ensures.places modest.0

pub returns-in-Ok-Ok-end_both-clause-passes : goal.returns-in-Ok-Ok-end_both-clause-passes
returns-in-Ok-Ok-end_both-clause-passes g c = λ last.
    let read = c.in-Ok-Ok.read in
    let moved = rw c.in-Ok-Ok.field-0-is at c.in-Ok-Ok.ensures.original in
    let goes = rw c.in-Ok-Ok-end_both.field-0-is at c.in-Ok-Ok-end_both.ensures.goes in
    passes_on c.args.shown.now.turn _ _ _ _ _ _ _ _ _ _ _ _ _ false read.reached.ps c.in-Ok-Ok-end_both.end c.requires.compared refl moved goes

pub returns-in-Ok-Ok-end_both-clause-ended : goal.returns-in-Ok-Ok-end_both-clause-ended
returns-in-Ok-Ok-end_both-clause-ended g c = λ ho he a b ao ae.
    let o = rw c.in-Ok-Ok.field-0-is at c.in-Ok-Ok.ensures.original in
    let e = rw c.in-Ok-Ok.field-0-is at c.in-Ok-Ok.ensures.export in
    let both = (rw c.in-Ok-Ok-end_both.field-0-is at c.in-Ok-Ok-end_both.ensures.through) (o.honesty ho) (e.honesty he) a b (o.comes ho a ao).there (e.comes he b ae).there in
    record {
      through = subst (λ x. IsReadThrough b x (g.E.Source.left c.end_both.new.e)) e.head both.1;
      end_is = both.2 ∙ ap (λ x. last_end_by b x (moved_export c.args.shown.now.turn)) e.head;
    }

pub returns-in-Ok-Ok-end_both-clause-matched : goal.returns-in-Ok-Ok-end_both-clause-matched
returns-in-Ok-Ok-end_both-clause-matched g c = λ compared early ho he a b ao ae.
    let turn = c.args.shown.now.turn in
    let read = c.in-Ok-Ok.read in
    let found = c.walk_on.new.watch.watcher.found in
    let h = (c.args.original.now.reader).head in
    let k = (c.args.export.now.reader).head in
    let ns = map note_value (c.walk_on.new.original.notes).items in
    let ms = map note_value (c.walk_on.new.export.notes).items in
    let later = rw c.in-Ok-Ok.field-0-is at c.in-Ok-Ok.ensures.later in
    let walked = (
    let frame = framed turn c.deref.result c.common_room.result in
    let files = two_files a h b k in
    let quiet = not (g.L.Onlooker.looks c.walk_on.new.watch.watcher.onlooker.now) in
    is_alone turn files (IsFirst None frame) (IsFirst found frame) (is_some found) quiet read
    (first_walked frame files found _ _ _ _ (is_some found && quiet) read (λ l. c.in_ok-begin.ensures.none (sym c.in_ok-begin.ensures.looks ∙ l) files turn.from.ps) ((rw c.in-Ok-Ok.field-0-is at c.in-Ok-Ok.ensures.walked) ho he a b ao ae))
    ) in
    let o = rw c.in-Ok-Ok.field-0-is at c.in-Ok-Ok.ensures.original in
    let e = rw c.in-Ok-Ok.field-0-is at c.in-Ok-Ok.ensures.export in
    let over = rw c.in-Ok-Ok.field-0-is at c.in-Ok-Ok.ensures.over in
    let both = (rw c.in-Ok-Ok-end_both.field-0-is at c.in-Ok-Ok-end_both.ensures.through) (o.honesty ho) (e.honesty he) a b (o.comes ho a ao).there (e.comes he b ae).there in
    let same = placed h c.header-here.result.now k c.header-there.result.now c.in_ok-pairs.pairs.items c.deref.result.now turn.setting.labels.now c.header-here.ensures c.header-there.ensures c.deref.ensures.value c.in_ok-pairs.ensures.places in
    let places = are_places h k c.deref.result.now (paired h c.header-here.result.now k c.header-there.result.now c.in_ok-pairs.pairs.items c.deref.result.now c.header-here.ensures c.header-there.ensures c.deref.ensures.value c.in_ok-pairs.ensures.pairs) in
    let through : IsReadThrough b k (g.E.Source.left c.end_both.new.e) = subst (λ x. IsReadThrough b x (g.E.Source.left c.end_both.new.e)) e.head both.1 in
    let by : (f : Option Found) → found ≡ f → IsMatched turn a h ns b k ms found = λ f.
    elim f as (λ f. found ≡ f → IsMatched turn a h ns b k ms found) [
      | None ↦ λ none.
          let last = last-over found (not (g.L.Onlooker.looks c.walk_on.new.watch.watcher.onlooker.now)) turn.is_last none (ap (λ z. z || turn.is_last) (sym c.has_enough.ensures) ∙ sym c.is_over.ensures ∙ c.if-not-is_over.false) in
          let there = over (ap (λ f. is_some f && not (g.L.Onlooker.looks c.walk_on.new.watch.watcher.onlooker.now)) none) in
          matched_end (framed c.args.shown.now.turn c.deref.result c.common_room.result) a h ns b k ms read found same places later walked last none there.0
          (has_ended c.args.original.now.reader c.walk_on.new.original.reader _ _ a (Some turn.setting.claim.now) (moved_original turn) read.reached.ps o.head o.going ((there.1).1 last) (o.comes ho a ao)) (has_ended c.args.export.now.reader c.walk_on.new.export.reader _ _ b None (moved_export turn) read.reached.ps e.head e.going (there.1).0 (e.comes he b ae))
      | Some first ↦ λ some. matched_behind (framed c.args.shown.now.turn c.deref.result c.common_room.result) a h ns b k ms read found same places later walked first some through.conforms
    ]
    in
    by found refl

pub returns-then-not-is_over-clause-counted : goal.returns-then-not-is_over-clause-counted
returns-then-not-is_over-clause-counted g c =
    let there : (ts : List ChannelCount) → g.L.Onlooker.counts c.walk_on.new.watch.watcher.onlooker.now ≡ ts
    → TurnCounted g.O.Source g.E.Source c.args.original.now c.args.o.now c.walk_on.new.original c.args.export.now c.args.e.now c.walk_on.new.export c.args.shown.now.turn (g.L.Onlooker.looks c.args.shown.now.onlooker.now) ts = λ ts is looks ho he a b ao ae.
    let turn = c.args.shown.now.turn in
    let read = c.in-Ok-Ok.read in
    let found = c.walk_on.new.watch.watcher.found in
    let h = (c.args.original.now.reader).head in
    let k = (c.args.export.now.reader).head in
    let frame = framed turn c.deref.result c.common_room.result in
    let files = two_files a h b k in
    let looks' : g.L.Onlooker.looks c.walk_on.new.watch.watcher.onlooker.now ≡ true = ap (λ (kept : Kept). kept.looks) c.walk_on.ensures.keeps ∙ c.in_ok-begin.ensures.looks ∙ looks in
    let quiet = not (g.L.Onlooker.looks c.walk_on.new.watch.watcher.onlooker.now) in
    let more : (is_some found && quiet) ≡ false = never-enough (is_some found) _ looks' in
    let over = (rw c.in-Ok-Ok.field-0-is at c.in-Ok-Ok.ensures.over) more in
    let later = rw c.in-Ok-Ok.field-0-is at c.in-Ok-Ok.ensures.later in
    let walked = tallies_walked frame files found _ _ _ _ (is_some found && quiet) read looks' ((rw c.in-Ok-Ok.field-0-is at c.in-Ok-Ok.ensures.walked) ho he a b ao ae) in
    let o = rw c.in-Ok-Ok.field-0-is at c.in-Ok-Ok.ensures.original in
    let e = rw c.in-Ok-Ok.field-0-is at c.in-Ok-Ok.ensures.export in
    let begun = c.in_ok-begin.ensures.none looks files turn.from.ps in
    let same = placed h c.header-here.result.now k c.header-there.result.now c.in_ok-pairs.pairs.items c.deref.result.now turn.setting.labels.now c.header-here.ensures c.header-there.ensures c.deref.ensures.value c.in_ok-pairs.ensures.places in
    let places = are_places h k c.deref.result.now (paired h c.header-here.result.now k c.header-there.result.now c.in_ok-pairs.pairs.items c.deref.result.now c.header-here.ensures c.header-there.ensures c.deref.ensures.value c.in_ok-pairs.ensures.pairs) in
    let ended = has_ended c.args.export.now.reader c.walk_on.new.export.reader _ _ b None (moved_export turn) read.reached.ps e.head e.going (over.1).0 (e.comes he b ae) in
    let last = (not-over (is_some found && quiet) turn.is_last (ap (λ z. z || turn.is_last) (sym c.has_enough.ensures) ∙ sym c.is_over.ensures ∙ c.if-not-is_over.true)).1 in
    record {
      counted = subst (λ (xs : List ChannelCount). IsCounted turn a h b k xs) is (counted_in_part frame a h b k read (is_some found && quiet) _ _ same places later over.0 begun walked last more (ended.through).conforms);
      gathered = record { exported = ended.gathered; kept = λ l. absurd (other_way turn.is_last l last) };
      head = o.head;
    }
    in
    there _ (search rules)

pub returns-in-Ok-Ok-end_both-clause-counted : goal.returns-in-Ok-Ok-end_both-clause-counted
returns-in-Ok-Ok-end_both-clause-counted g c =
    let there : (ts : List ChannelCount) → g.L.Onlooker.counts c.walk_on.new.watch.watcher.onlooker.now ≡ ts
    → TurnCounted g.O.Source g.E.Source c.args.original.now c.args.o.now (record c.walk_on.new.original { reader = c.end_both.new.original }) c.args.export.now c.args.e.now (record c.walk_on.new.export { reader = c.end_both.new.export }) c.args.shown.now.turn (g.L.Onlooker.looks c.args.shown.now.onlooker.now) ts = λ ts is looks ho he a b ao ae.
    let turn = c.args.shown.now.turn in
    let read = c.in-Ok-Ok.read in
    let found = c.walk_on.new.watch.watcher.found in
    let h = (c.args.original.now.reader).head in
    let k = (c.args.export.now.reader).head in
    let frame = framed turn c.deref.result c.common_room.result in
    let files = two_files a h b k in
    let looks' : g.L.Onlooker.looks c.walk_on.new.watch.watcher.onlooker.now ≡ true = ap (λ (kept : Kept). kept.looks) c.walk_on.ensures.keeps ∙ c.in_ok-begin.ensures.looks ∙ looks in
    let quiet = not (g.L.Onlooker.looks c.walk_on.new.watch.watcher.onlooker.now) in
    let more : (is_some found && quiet) ≡ false = never-enough (is_some found) _ looks' in
    let over = (rw c.in-Ok-Ok.field-0-is at c.in-Ok-Ok.ensures.over) more in
    let later = rw c.in-Ok-Ok.field-0-is at c.in-Ok-Ok.ensures.later in
    let walked = tallies_walked frame files found _ _ _ _ (is_some found && quiet) read looks' ((rw c.in-Ok-Ok.field-0-is at c.in-Ok-Ok.ensures.walked) ho he a b ao ae) in
    let o = rw c.in-Ok-Ok.field-0-is at c.in-Ok-Ok.ensures.original in
    let e = rw c.in-Ok-Ok.field-0-is at c.in-Ok-Ok.ensures.export in
    let begun = c.in_ok-begin.ensures.none looks files turn.from.ps in
    let same = placed h c.header-here.result.now k c.header-there.result.now c.in_ok-pairs.pairs.items c.deref.result.now turn.setting.labels.now c.header-here.ensures c.header-there.ensures c.deref.ensures.value c.in_ok-pairs.ensures.places in
    let places = are_places h k c.deref.result.now (paired h c.header-here.result.now k c.header-there.result.now c.in_ok-pairs.pairs.items c.deref.result.now c.header-here.ensures c.header-there.ensures c.deref.ensures.value c.in_ok-pairs.ensures.pairs) in
    let ended = has_ended c.args.export.now.reader c.walk_on.new.export.reader _ _ b None (moved_export turn) read.reached.ps e.head e.going (over.1).0 (e.comes he b ae) in
    let last : turn.is_last ≡ true = ap (λ z. z || turn.is_last) (sym more ∙ sym c.has_enough.ensures) ∙ sym c.is_over.ensures ∙ c.if-not-is_over.false in
    let ended' = has_ended c.args.original.now.reader c.walk_on.new.original.reader _ _ a (Some turn.setting.claim.now) (moved_original turn) read.reached.ps o.head o.going ((over.1).1 last) (o.comes ho a ao) in
    let goes = rw c.in-Ok-Ok-end_both.field-0-is at c.in-Ok-Ok-end_both.ensures.goes in
    record {
      counted = subst (λ (xs : List ChannelCount). IsCounted turn a h b k xs) is (counted_end frame a h b k read (is_some found && quiet) _ _ same places later over.0 begun walked last ended' ended);
      gathered = record { exported = ended.gathered; kept = λ l. ended'.gathered };
      head = goes.head ∙ o.head;
    }
    in
    there _ (search rules)
