use Rattle.std.proofs.Common.{◌≡◌, ◌∙◌, ◌++◌, length, map, ap, sym, subst, IfOk}
use Rattle.std.proofs.lemmas.List.{length-map}
use Rattle.edf_layout.specs.HeadLayouts.{HeadLayout, layout_in}
use Rattle.edf_layout.specs.HeadReports.{laid_out, plain_outcome, places_of}
use Rattle.edf_layout.specs.HeadTexts.{head_lines}
use Rattle.edf_layout.specs.OddPlaces.{odd_places}
use Rattle.edf_layout.proofs.head_layout.laid_out.Goals as goal

pub returns-clause-text : goal.returns-clause-text
returns-clause-text c =
    let h = c.args.file.now.header in
    let front = c.args.file.now.front.items in
    let columns = c.args.file.now.columns.items in
    let l : HeadLayout = layout_in front (length h.signals) columns in
    let one : layout_in c.deref-2.result.now (length c.signals.result.now) c.deref.result.now ≡ l =
    ap (λ f. layout_in f (length c.signals.result.now) c.deref.result.now) c.deref-2.ensures.value
    ∙ ap (λ s. layout_in front (length s) c.deref.result.now) c.signals.ensures.signals
    ∙ ap (λ xs. layout_in front (length h.signals) xs) c.deref.ensures.value in
    let two : layout_in c.deref-3.result.now (length c.signals.result.now) c.deref.result.now ≡ l =
    ap (λ f. layout_in f (length c.signals.result.now) c.deref.result.now) c.deref-3.ensures.value
    ∙ ap (λ s. layout_in front (length s) c.deref.result.now) c.signals.ensures.signals
    ∙ ap (λ xs. layout_in front (length h.signals) xs) c.deref.ensures.value in
    let lines : c.push_head_lines.new.text.items ≡ head_lines l =
    c.in_ok-push_head_lines.ensures ∙ ap (λ t. t ++ head_lines (layout_in c.deref-2.result.now (length c.signals.result.now) c.deref.result.now)) c.new-text.ensures.items ∙ ap head_lines one in
    let places : map (λ v. v.items) c.deref-4.result.now ≡ places_of l h =
    ap (map (λ v. v.items)) c.deref-4.ensures.value
    ∙ c.in_ok-push_odd_places.ensures
    ∙ ap (λ ps. map (λ v. v.items) ps ++ odd_places (layout_in c.deref-3.result.now (length c.signals.result.now) c.deref.result.now) h.patient.extras h.recording.extras) c.new-places.ensures.items
    ∙ ap (λ (k : HeadLayout). odd_places k h.patient.extras h.recording.extras) two in
    subst (λ ts. IfOk c.report_of.result (λ r. r.text.items ≡ laid_out ts (places_of l h))) lines
    (subst (λ ps. IfOk c.report_of.result (λ r. r.text.items ≡ laid_out c.push_head_lines.new.text.items ps)) places c.report_of.ensures.text)

pub returns-clause-outcome : goal.returns-clause-outcome
returns-clause-outcome c =
    let h = c.args.file.now.header in
    let front = c.args.file.now.front.items in
    let l : HeadLayout = layout_in front (length h.signals) c.args.file.now.columns.items in
    let two : layout_in c.deref-3.result.now (length c.signals.result.now) c.deref.result.now ≡ l =
    ap (λ f. layout_in f (length c.signals.result.now) c.deref.result.now) c.deref-3.ensures.value
    ∙ ap (λ s. layout_in front (length s) c.deref.result.now) c.signals.ensures.signals
    ∙ ap (λ xs. layout_in front (length h.signals) xs) c.deref.ensures.value in
    let places : map (λ v. v.items) c.deref-4.result.now ≡ places_of l h =
    ap (map (λ v. v.items)) c.deref-4.ensures.value
    ∙ c.in_ok-push_odd_places.ensures
    ∙ ap (λ ps. map (λ v. v.items) ps ++ odd_places (layout_in c.deref-3.result.now (length c.signals.result.now) c.deref.result.now) h.patient.extras h.recording.extras) c.new-places.ensures.items
    ∙ ap (λ (k : HeadLayout). odd_places k h.patient.extras h.recording.extras) two in
    let count : length c.deref-4.result.now ≡ length (places_of l h) = sym (length-map c.deref-4.result.now (λ v. v.items)) ∙ ap length places in
    subst (λ n. IfOk c.report_of.result (λ r. r.outcome ≡ plain_outcome n)) count c.report_of.ensures.outcome
