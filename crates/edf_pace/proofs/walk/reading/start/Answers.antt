use Rattle.std.proofs.Common.{◌≡◌, ◌^◌, neg_ℤ, pos, true, ◌∙◌, ◌++◌, ap, map, arith}
use Rattle.std.proofs.lemmas.Int.{ints}
use Rattle.edf_pace.specs.walk.Gathered.{claim_of, gathered_in}
use Rattle.edf_pace.proofs.walk.PassFacts.{at_first, begins_with_one}
use Rattle.edf_stream.specs.records.Readers.{is_current}
use Rattle.edf_stream.specs.Views.{note_value}
use Rattle.edf_pace.proofs.walk.reading.start.Goals as goal

pub returns-in-Ok-None-clause-follows : goal.returns-in-Ok-None-clause-follows
returns-in-Ok-None-clause-follows g c =
    let ok = c.in-Ok-None.ensures in
    let none = c.in-Ok-None.field-0-is in
    let going = rw none at ok.going in
    let comes = rw none at ok.comes in
    let gathered = rw none at ok.gathered in
    let start = rw none at ok.start in
    let near = c.gather_next.ensures.near in
    let by = (c.args.view.moved).near in
    record {
      head = c.gather_next.ensures.head;
      going = going;
      ahead = λ e. (let s = start e in omega (arith, ints, s, near, by));
      honesty = rw none at ok.honesty;
      failures = ok.failures;
      comes = λ h file s. at_first c.args.reading.now.reader c.gather_next.new.reading.reader (g.S.Source.left c.gather_next.new.source) (map note_value (c.gather_next.new.reading.notes).items) file (claim_of c.args.view) (c.args.view.moved).ps (neg_ℤ (pos (2 ^ 90)))
          (c.requires.begun).1 going c.gather_next.ensures.head (rw none at ok.count)
          (gathered ∙ ap (λ ns. map note_value ns ++ gathered_in (claim_of c.args.view) (c.args.view.moved).ps c.gather_next.new.reading.reader) c.requires.none) (comes h file s);
    }

pub returns-in-Ok-None-clause-begins : goal.returns-in-Ok-None-clause-begins
returns-in-Ok-None-clause-begins g c = λ h file s.
    let ok = c.in-Ok-None.ensures in
    let none = c.in-Ok-None.field-0-is in
    let going = rw none at ok.going in
    let comes = rw none at ok.comes in
    let begun : is_current (c.gather_next.new.reading.reader).status ≡ true =
    begins_with_one c.args.reading.now.reader c.gather_next.new.reading.reader (g.S.Source.left c.gather_next.new.source) file (c.requires.begun).1 going (comes h file s) in
    let count = (rw none at ok.count) begun in
    let first = (c.requires.begun).1 in
    let more = count.0 in
    (begun, omega (arith, more, first))
