use Rattle.std.proofs.Common.{rules, ◌≡◌, ◌∙◌, ◌&&◌, ◌++◌, ◌∷◌, [], List, map, not, true, sym, ap, subst}
use Rattle.edf_check.specs.parts.PartsVerdicts.{samples_in}
use Rattle.edf_header.specs.Heads.{Head}
use Rattle.edf_header.specs.HeadsReading.{head_of}
use Rattle.edf_pace.specs.declared.walk.watchers.found_in.ChannelCount.{ChannelCount}
use Rattle.edf_stream.specs.Views.{note_value}
use Rattle.edf_pace.specs.walk.Ends.{moved_original}
use Rattle.edf_pace.specs.walk.Watching.{ExportCount}
use Rattle.edf_check.proofs.parts.CompareFacts.{and-left, beside_less, compared-alike, compared-beside, compared-so, heads_match, matched_less, passed_less, passes_less, shown_less}
use Rattle.edf_check.proofs.parts.SerialFacts.{same-parts}
use Rattle.edf_pace.proofs.ForCallers.{fault_by, fault_by_header}
use Rattle.edf_check.proofs.parts.part.read_part.Goals as goal

pub returns-in-Ok-clause-fault : goal.returns-in-Ok-clause-fault
returns-in-Ok-clause-fault g c = λ ho a bo he.
    let fault = rw c.in-Ok-Err.field-0-is at c.in-Ok-Err.ensures.fault in
    let found = c.in-Ok.ensures.found ho a bo.there in
    fault_by_header a (c.args.original.now.reader).head (g.O.Source.left c.export_fault.new.source) (g.E.Source.left c.args.e.now) c.args.turn.part c.in-Ok-Err.fault c.in-Ok.first (fault he) found.0 found.1

pub returns-in_ok-take_export-in-Ok-Ok-read_course-clause-passes : goal.returns-in_ok-take_export-in-Ok-Ok-read_course-clause-passes
returns-in_ok-take_export-in-Ok-Ok-read_course-clause-passes g c = λ last.
    let turn = c.args.turn in
    let course = c.in-Ok-Ok-read_course.course in
    let passes = rw c.in-Ok-Ok-read_course.field-0-is at c.in-Ok-Ok-read_course.ensures.passes in
    passes_less turn c.is_compared.result _ _ _ _ _ _ _ _ course.is_beside course.is_beside course.end
    (λ e. and-left turn.is_compared _ (sym c.is_compared.ensures ∙ e)) (λ e. e) (passes last)

pub returns-in_ok-take_export-in-Ok-Ok-read_course-clause-stays : goal.returns-in_ok-take_export-in-Ok-Ok-read_course-clause-stays
returns-in_ok-take_export-in-Ok-Ok-read_course-clause-stays g c = λ last compared is.
    let turn = c.args.turn in
    let course = c.in-Ok-Ok-read_course.course in
    let heads = c.in_ok-heads.heads in
    let stays = rw c.in-Ok-Ok-read_course.field-0-is at c.in-Ok-Ok-read_course.ensures.stays in
    let same = same-parts heads course.is_early course.found is in
    stays last (c.is_compared.ensures ∙ compared-so turn.is_compared _ heads compared same.0) same.1 same.2

pub returns-in_ok-take_export-in-Ok-Ok-read_course-clause-read : goal.returns-in_ok-take_export-in-Ok-Ok-read_course-clause-read
returns-in_ok-take_export-in-Ok-Ok-read_course-clause-read g c = λ ho a bo he.
    let turn = c.args.turn in
    let e = g.E.Source.left c.args.e.now in
    let heads = c.in_ok-heads.heads in
    let h = (c.args.original.now.reader).head in
    let course = c.in-Ok-Ok-read_course.course in
    let stands = (rw c.in-Ok-Ok.field-0-is at c.in-Ok-Ok.ensures.stands) he in
    let honest = (rw c.in-Ok-Ok.field-0-is at c.in-Ok-Ok.ensures.honesty) he in
    let passed = rw c.in-Ok-Ok-read_course.field-0-is at c.in-Ok-Ok-read_course.ensures.passed in
    let matched = rw c.in-Ok-Ok-read_course.field-0-is at c.in-Ok-Ok-read_course.ensures.matched in
    let through = rw c.in-Ok-Ok-read_course.field-0-is at c.in-Ok-Ok-read_course.ensures.through in
    let same = rw c.in-Ok-Ok-read_course.field-0-is at c.in-Ok-Ok-read_course.ensures.head in
    let is = (stands.passed).head in
    let less = beside_less c.args.original.now.reader _ _ a (turn.setting.claim).now (moved_original turn) (turn.from).ps turn.is_compared c.is_compared.result (λ z. and-left turn.is_compared _ (sym c.is_compared.ensures ∙ z)) bo in
    record {
      heads_are = heads_match heads h c.header-here.result.now _ c.header-there.result.now (turn.setting.claim).now c.header-here.ensures (c.header-there.ensures ∙ is) c.in_ok-heads.ensures.none c.in_ok-heads.ensures.least;
      passed = passed_less turn c.is_compared.result e _ _ _ course is (passed ho honest a e less stands);
      matched = λ compared none early. matched_less turn c.is_compared.result a h _ e _ _ _ course.found is (matched (c.is_compared.ensures ∙ compared-so turn.is_compared _ heads compared none) early ho honest a e less stands);
      through = λ last. through last ho honest a e less stands;
      samples_are = c.samples_of-samples.ensures.value ∙ ap samples_in (same ∙ is);
    }

pub returns-in-Ok-Err-read_course-clause-fault : goal.returns-in-Ok-Err-read_course-clause-fault
returns-in-Ok-Err-read_course-clause-fault g c = λ ho a bo he.
    let turn = c.args.turn in
    let heads = c.in_ok-heads.heads in
    let stands = (rw c.in-Ok-Ok.field-0-is at c.in-Ok-Ok.ensures.stands) he in
    let honest = (rw c.in-Ok-Ok.field-0-is at c.in-Ok-Ok.ensures.honesty) he in
    let fault = rw c.in-Ok-Err-read_course.field-0-is at c.in-Ok-Err-read_course.ensures.fault in
    let less = beside_less c.args.original.now.reader _ _ a (turn.setting.claim).now (moved_original turn) (turn.from).ps turn.is_compared c.is_compared.result (λ z. and-left turn.is_compared _ (sym c.is_compared.ensures ∙ z)) bo in
    fault_by a (c.args.original.now.reader).head _ c.in-Ok-Ok.reading.reader _ (g.E.Source.left c.args.e.now) turn.part c.in-Ok-Err-read_course.fault stands (fault ho honest a (g.E.Source.left c.args.e.now) less stands)

pub read_course-requires-clause-original : goal.read_course-requires-clause-original
read_course-requires-clause-original g c =
    let turn = c.args.turn in
    ((c.requires.original).0, λ e. (c.requires.original).1 (and-left turn.is_compared _ (sym c.is_compared.ensures ∙ e)))

pub returns-in_ok-take_export-in-Ok-Ok-read_course-clause-beside : goal.returns-in_ok-take_export-in-Ok-Ok-read_course-clause-beside
returns-in_ok-take_export-in-Ok-Ok-read_course-clause-beside g c = λ looks last.
    let turn = c.args.turn in
    let course = c.in-Ok-Ok-read_course.course in
    let beside = rw c.in-Ok-Ok-read_course.field-0-is at c.in-Ok-Ok-read_course.ensures.beside in
    let alike : c.is_compared.result ≡ turn.is_compared = c.is_compared.ensures ∙ compared-alike turn.is_compared _ _ (c.looks.ensures ∙ looks) in
    beside looks last ∙ ap (λ x. x && not course.is_early) alike

pub returns-in_ok-take_export-in-Ok-Ok-read_course-clause-counted : goal.returns-in_ok-take_export-in-Ok-Ok-read_course-clause-counted
returns-in_ok-take_export-in-Ok-Ok-read_course-clause-counted g c = λ looks compared early ho a bo he.
    let turn = c.args.turn in
    let e = g.E.Source.left c.args.e.now in
    let h = (c.args.original.now.reader).head in
    let stands = (rw c.in-Ok-Ok.field-0-is at c.in-Ok-Ok.ensures.stands) he in
    let honest = (rw c.in-Ok-Ok.field-0-is at c.in-Ok-Ok.ensures.honesty) he in
    let less = beside_less c.args.original.now.reader _ _ a (turn.setting.claim).now (moved_original turn) (turn.from).ps turn.is_compared c.is_compared.result (λ z. and-left turn.is_compared _ (sym c.is_compared.ensures ∙ z)) bo in
    let counted = rw c.in-Ok-Ok-read_course.field-0-is at c.in-Ok-Ok-read_course.ensures.counted in
    let tallies = g.L.Onlooker.counts c.read_course.new.shown.onlooker.now in
    let before = g.L.Onlooker.counted c.args.onlooker.now in
    let whole = counted looks (c.is_compared.ensures ∙ compared-beside turn.is_compared _ _ compared (c.looks.ensures ∙ looks)) early ho honest a e less stands in
    let notes = map note_value (c.read_course.new.export.notes).items in
    let shown = shown_less turn c.is_compared.result a h c.read_course.new.original e _ (head_of e) notes tallies (stands.passed).head whole in
    let head = (rw c.in-Ok-Ok-read_course.field-0-is at c.in-Ok-Ok-read_course.ensures.head) ∙ (stands.passed).head in
    let with : Head → List ChannelCount → List ExportCount = λ k ts. record { head = k; counts = ts } ∷ [] in
    let told : g.L.Onlooker.looks c.read_course.new.shown.onlooker.now ≡ true
    → g.L.Onlooker.counted c.take_export.new.self ≡ g.L.Onlooker.counted c.read_course.new.shown.onlooker.now ++ with (c.read_course.new.export.reader).head (g.L.Onlooker.counts c.read_course.new.shown.onlooker.now) =
    subst (λ x. g.L.Onlooker.looks x ≡ true → g.L.Onlooker.counted c.take_export.new.self ≡ g.L.Onlooker.counted x ++ with (c.read_course.new.export.reader).head (g.L.Onlooker.counts x)) (search rules) c.in_ok-take_export-in-Ok-Ok-read_course.ensures.counted in (
      λ co. told (c.read_course.ensures.looks ∙ looks)
          ∙ ap (λ ts. ts ++ with (c.read_course.new.export.reader).head tallies) c.read_course.ensures.before
          ∙ ap (λ k. before ++ with k tallies) head
          ∙ ap (λ t. before ++ with (head_of e) t) (shown.counted co),
      shown.gathered,
      shown.head,
    )

pub returns-in_ok-take_export-in-Ok-Ok-read_course-clause-uncounted : goal.returns-in_ok-take_export-in-Ok-Ok-read_course-clause-uncounted
returns-in_ok-take_export-in-Ok-Ok-read_course-clause-uncounted g c = λ looks not-so he.
    let turn = c.args.turn in
    let course = c.in-Ok-Ok-read_course.course in
    let e = g.E.Source.left c.args.e.now in
    let stands = (rw c.in-Ok-Ok.field-0-is at c.in-Ok-Ok.ensures.stands) he in
    let alike : c.is_compared.result ≡ turn.is_compared = c.is_compared.ensures ∙ compared-alike turn.is_compared _ _ (c.looks.ensures ∙ looks) in
    let uncounted = rw c.in-Ok-Ok-read_course.field-0-is at c.in-Ok-Ok-read_course.ensures.uncounted in
    let none = uncounted looks (ap (λ x. x && not course.is_early) alike ∙ not-so) in
    let tallies = g.L.Onlooker.counts c.read_course.new.shown.onlooker.now in
    let before = g.L.Onlooker.counted c.args.onlooker.now in
    let head = (rw c.in-Ok-Ok-read_course.field-0-is at c.in-Ok-Ok-read_course.ensures.head) ∙ (stands.passed).head in
    let with : Head → List ChannelCount → List ExportCount = λ k ts. record { head = k; counts = ts } ∷ [] in
    let told : g.L.Onlooker.looks c.read_course.new.shown.onlooker.now ≡ true
    → g.L.Onlooker.counted c.take_export.new.self ≡ g.L.Onlooker.counted c.read_course.new.shown.onlooker.now ++ with (c.read_course.new.export.reader).head (g.L.Onlooker.counts c.read_course.new.shown.onlooker.now) =
    subst (λ x. g.L.Onlooker.looks x ≡ true → g.L.Onlooker.counted c.take_export.new.self ≡ g.L.Onlooker.counted x ++ with (c.read_course.new.export.reader).head (g.L.Onlooker.counts x)) (search rules) c.in_ok-take_export-in-Ok-Ok-read_course.ensures.counted in
    told (c.read_course.ensures.looks ∙ looks)
    ∙ ap (λ ts. ts ++ with (c.read_course.new.export.reader).head tallies) c.read_course.ensures.before
    ∙ ap (λ k. before ++ with k tallies) head
    ∙ ap (λ t. before ++ with (head_of e) t) none
