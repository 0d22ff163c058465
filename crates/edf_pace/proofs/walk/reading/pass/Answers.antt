use Rattle.std.proofs.Common.{refl, map}
use Rattle.edf_stream.specs.Views.{note_value}
use Rattle.edf_pace.specs.walk.Gathered.{claim_of}
use Rattle.edf_pace.proofs.walk.PassFacts.{ahead_next, at_next, at_later, current_open}
use Rattle.edf_pace.proofs.walk.reading.pass.Goals as goal

pub returns-then-not-is_past-clause-moves : goal.returns-then-not-is_past-clause-moves
returns-then-not-is_past-clause-moves g c = record {
  head = refl;
  going = c.requires.going;
  ahead = c.is_past.ensures.no c.if-not-is_past.true;
  honesty = λ h. h;
  failures = refl;
  comes = λ h file at. at_later c.args.reading.now.reader (g.S.Source.left c.args.source.now) (map note_value (c.args.reading.now.notes).items) file (claim_of c.args.view) (c.args.view.moved).ps (c.args.within.from).ps (c.args.within.to).ps c.args.within.order at;
}

pub returns-in-Ok-None-clause-moves : goal.returns-in-Ok-None-clause-moves
returns-in-Ok-None-clause-moves g c =
    let past = c.is_past.ensures.yes c.if-not-is_past.false in
    let ok = c.in-Ok-None.ensures in
    let none = c.in-Ok-None.field-0-is in
    let going = rw none at ok.going in
    let later = rw none at ok.later in
    let comes = rw none at ok.comes in
    let head = c.gather_next.ensures.head in
    record {
      head = head;
      going = going;
      ahead = λ e. ahead_next c.args.reading.now.reader c.gather_next.new.reading.reader (c.args.view.moved).ps (c.args.within.to).ps head (later e) (c.requires.reaches past.0);
      honesty = rw none at ok.honesty;
      failures = ok.failures;
      comes = λ h file at. at_next c.args.reading.now.reader c.gather_next.new.reading.reader (g.S.Source.left c.args.source.now) (g.S.Source.left c.gather_next.new.source)
          (map note_value (c.args.reading.now.notes).items) (map note_value (c.gather_next.new.reading.notes).items) file (claim_of c.args.view) (c.args.view.moved).ps (c.args.within.from).ps (c.args.within.to).ps
          past.0 c.args.within.order past.1 going head (rw none at ok.count) (rw none at ok.gathered) at (comes h file ((at.there).stands (current_open (c.args.reading.now.reader).status past.0)));
    }
