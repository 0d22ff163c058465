-- What is kept of a file gives its layout.
use Rattle.std.proofs.Common.{◌≡◌, ℕ, false, suc, ◌==◌, ◌+◌, List, [], ◌∷◌, ◌++◌, length, map, slice_get, Option, Some, None, Result, Ok, Err, IfOk, OnErr, arith, refl, ap, ◌∙◌, sym, subst}
use Rattle.std.specs.List.Sorted.{IsPermutation}
use Rattle.std.proofs.lemmas.Bool.Decides.{nat_tests}
use Rattle.edf_fields.specs.declared.faults.fault.Fault.{Fault}
use Rattle.edf_fields.specs.fields.LayoutReading.{fixed_part}
use Rattle.edf_header.specs.Heads.{Head}
use Rattle.edf_header.specs.HeadsReading.{head_of}
use Rattle.edf_tal.specs.Tals.{TalValue}
use Rattle.edf_stream.specs.Conforming.{Conforms}
use Rattle.edf_stream.specs.Faults.{file_fault}
use Rattle.edf_stream.specs.annotation.Notes.{NoteValue, notes_of_tal}
use Rattle.edf_stream.specs.records.Records.{record_at, annotation_lanes}
use Rattle.edf_stream.proofs.ForCallers.{conforming_is_faultless, head-is}
use Rattle.edf_verdict.specs.declared.outcome.Outcome.{Outcome}
use Rattle.edf_fields.specs.in_out.Sinks.{HoldsPrefix}
use Rattle.edf_header.specs.Stops.{Stops}
use Rattle.edf_header.specs.declared.stop.Stop.{Stop}
use Rattle.edf_header.specs.declared.stop.Stop.TheVariants as reads
use Rattle.edf_report.specs.Reports.{IsFaultReport}
use Rattle.edf_report.specs.declared.report.Report.{Report}
use Rattle.edf_stop.specs.declared.stops.ReportStop.{ReportStop}
use Rattle.edf_layout.specs.HeadLayouts.{layout_in, head_layout_of}
use Rattle.edf_layout.specs.body.BodyLayouts.{KeepsTime, Annotates, RecordLayout, BodyLayout, AreLaidLanes, spellings_in, contents_in, content_with, content_of, timekeeping_of, lane_contents, first_contents, record_contents, HasBodyLayout}
use Rattle.edf_layout.specs.body.FileLayouts.{FileLayout, HasLayout, layout_text}
use Rattle.edf_layout.specs.body.NoteOrders.{place_of}
use Rattle.edf_layout.specs.body.PlainOrders.{lane_sizes}
use Rattle.edf_layout.specs.declared.whole.file_body.FileBody.{FileBody}
use Rattle.edf_layout.specs.whole.FileBodies.{IsSoundBody, IsBody, IsFile, lanes_kept, notes_kept}
use Rattle.edf_layout.specs.whole.LaneRows.{HasLaneLayout, HaveLaneLayouts, HaveRowLayouts}
use Rattle.edf_layout.specs.whole.LayoutTexts.{IsTextOf, IsLaidOut, IsWritten, IsLayoutText, layout_made, layout_kept}
use Rattle.edf_layout.proofs.body.ContentFacts.{cons-first, cons-rest}
use Rattle.edf_layout.proofs.body.LayoutFacts.{said_of}
use Rattle.edf_layout.proofs.body.LineLawFacts.{file_has_one_layout}
use Rattle.edf_layout.proofs.body.MeaningFacts.{body_has_one_layout, one-notes}
use Rattle.edf_layout.proofs.body.OrderFacts.{place-permuted}

-- ---- what TALs say, by the annotations in another order

module _ (notes others : List NoteValue) (p : IsPermutation notes others) where
  places-permuted : (some : List NoteValue) → map (place_of notes) some ≡ map (place_of others) some
  places-permuted [] = refl
  places-permuted (n ∷ some) =
      ap (λ k. k ∷ map (place_of notes) some) (sym (place-permuted notes others n p)) ∙ ap (λ ks. place_of others n ∷ ks) (places-permuted some)

  content-permuted : (t : TalValue) → content_of notes t ≡ content_of others t
  content-permuted t = cases t.texts
    where
      cases : (texts : List (List ℕ)) → content_with notes t.onset t.duration texts ≡ content_with others t.onset t.duration texts
      cases [] = refl
      cases (x ∷ xs) = ap Annotates (places-permuted (notes_of_tal (record { onset = t.onset; duration = t.duration; texts = x ∷ xs })))

  time-permuted : (t : TalValue) → timekeeping_of notes t ≡ timekeeping_of others t
  time-permuted t = ap (KeepsTime t.duration) (places-permuted _)

  lane-permuted : (ts : List TalValue) → lane_contents notes ts ≡ lane_contents others ts
  lane-permuted [] = refl
  lane-permuted (t ∷ ts) = ap (λ c. c ∷ lane_contents notes ts) (content-permuted t) ∙ ap (λ cs. content_of others t ∷ cs) (lane-permuted ts)

  first-permuted : (ts : List TalValue) → first_contents notes ts ≡ first_contents others ts
  first-permuted [] = refl
  first-permuted (t ∷ ts) = ap (λ c. c ∷ lane_contents notes ts) (time-permuted t) ∙ ap (λ cs. timekeeping_of others t ∷ cs) (lane-permuted ts)

  rest-permuted : (tss : List (List TalValue)) → map (lane_contents notes) tss ≡ map (lane_contents others) tss
  rest-permuted [] = refl
  rest-permuted (ts ∷ tss) = ap (λ c. c ∷ map (lane_contents notes) tss) (lane-permuted ts) ∙ ap (λ cs. lane_contents others ts ∷ cs) (rest-permuted tss)

  pub record-permuted : (tss : List (List TalValue)) → record_contents notes tss ≡ record_contents others tss
  record-permuted [] = refl
  record-permuted (ts ∷ tss) = ap (λ c. c ∷ map (lane_contents notes) tss) (first-permuted ts) ∙ ap (λ cs. first_contents others ts ∷ cs) (rest-permuted tss)

-- ---- lanes by the layout of their data record

others-laid : (notes : List NoteValue) (j : ℕ) (lanes : List (List ℕ)) (tss : List (List TalValue)) (layout : RecordLayout)
    → AreLaidLanes lanes tss (spellings_in layout) → contents_in layout ≡ map (lane_contents notes) tss → HaveLaneLayouts notes (j + 1) lanes layout
others-laid notes j [] [] [] laid said = tt
others-laid notes j [] [] (p ∷ ps) laid said = absurd laid
others-laid notes j [] (ts ∷ tss) [] laid said = absurd laid
others-laid notes j [] (ts ∷ tss) (p ∷ ps) laid said = absurd laid
others-laid notes j (lane ∷ lanes) [] [] laid said = absurd laid
others-laid notes j (lane ∷ lanes) [] (p ∷ ps) laid said = absurd laid
others-laid notes j (lane ∷ lanes) (ts ∷ tss) [] laid said = absurd laid
others-laid notes j (lane ∷ lanes) (ts ∷ tss) (p ∷ ps) laid said = (
  subst (λ b. HasLaneLayout notes b lane p) (sym (later j)) (record {
    tals = ts;
    spelled = laid.0;
    said = cons-first (said_of p) (lane_contents notes ts) (contents_in ps) (map (lane_contents notes) tss) said;
  }),
  others-laid notes (j + 1) lanes tss ps laid.1 (cons-rest (said_of p) (lane_contents notes ts) (contents_in ps) (map (lane_contents notes) tss) said),
)
  where
    later : (j : ℕ) → (j + 1 == 0) ≡ false
    later j = grind (arith, nat_tests)

record-laid : (notes : List NoteValue) (lanes : List (List ℕ)) (tss : List (List TalValue)) (layout : RecordLayout)
    → AreLaidLanes lanes tss (spellings_in layout) → contents_in layout ≡ record_contents notes tss → HaveLaneLayouts notes 0 lanes layout
record-laid notes [] [] [] laid said = tt
record-laid notes [] [] (p ∷ ps) laid said = absurd laid
record-laid notes [] (ts ∷ tss) [] laid said = absurd laid
record-laid notes [] (ts ∷ tss) (p ∷ ps) laid said = absurd laid
record-laid notes (lane ∷ lanes) [] [] laid said = absurd laid
record-laid notes (lane ∷ lanes) [] (p ∷ ps) laid said = absurd laid
record-laid notes (lane ∷ lanes) (ts ∷ tss) [] laid said = absurd laid
record-laid notes (lane ∷ lanes) (ts ∷ tss) (p ∷ ps) laid said = (
  record {
    tals = ts;
    spelled = laid.0;
    said = cons-first (said_of p) (first_contents notes ts) (contents_in ps) (map (lane_contents notes) tss) said;
  },
  others-laid notes 0 lanes tss ps laid.1 (cons-rest (said_of p) (first_contents notes ts) (contents_in ps) (map (lane_contents notes) tss) said),
)

-- what holds of each data record
rows-laid : (notes : List NoteValue) (rows : List (List (List ℕ))) (body : BodyLayout) → length rows ≡ length body
    → ((k : ℕ) (lanes : List (List ℕ)) (one : RecordLayout) → slice_get rows k ≡ Some lanes → slice_get body k ≡ Some one → HaveLaneLayouts notes 0 lanes one) → HaveRowLayouts notes rows body
rows-laid notes [] [] long each = tt
rows-laid notes [] (b ∷ bs) long each = absurd (omega arith)
rows-laid notes (r ∷ rs) [] long each = absurd (omega arith)
rows-laid notes (r ∷ rs) (b ∷ bs) long each = (each 0 r b refl refl, rows-laid notes rs bs (omega arith) (λ k lanes one e f. each (suc k) lanes one e f))

body-laid : (file : List ℕ) (h : Head) (body : FileBody) (layout : BodyLayout) → IsBody file h body → HasBodyLayout file h layout → HaveRowLayouts (notes_kept body) (lanes_kept (lane_sizes h) body) layout
body-laid file h body layout b has =
    rows-laid (notes_kept body) (lanes_kept (lane_sizes h) body) layout ((b.has_lanes).count ∙ sym has.count) (λ k lanes one e f.
    let r = has.records k one f in
    let same : has.notes ≡ b.notes = one-notes file h b.conforms has.notes b.notes has.has_notes b.has_notes in
    let said : contents_in one ≡ record_contents (notes_kept body) r.talss =
    r.said ∙ ap (λ ns. record_contents ns r.talss) same ∙ record-permuted b.notes (notes_kept body) b.rearranged r.talss in
    subst (λ ls. HaveLaneLayouts (notes_kept body) 0 ls one) (sym ((b.has_lanes).said k lanes e))
    (record-laid (notes_kept body) (annotation_lanes h.signals (record_at file h k)) r.talss one r.laid said))

-- ---- the layout of the file

pub file-laid : (file front columns : List ℕ) (h : Head) (body : FileBody) (text : List ℕ) (outcome : Outcome) → IsSoundBody body → IsFile file front columns h body
    → ((layout : BodyLayout) → HaveRowLayouts (notes_kept body) (lanes_kept (lane_sizes h) body) layout → IsTextOf (layout_kept front columns h body layout) h text outcome)
    → IsLayoutText file text outcome
unfolding head_layout_of layout_kept layout_made
file-laid file front columns h body text outcome sound is said =
    let b = is.body in
    let some = body_has_one_layout file h b.conforms in
    let layout : BodyLayout = some.0 in
    let kept : FileLayout = layout_kept front columns h body layout in
    let head : layout_in front (length h.signals) columns ≡ head_layout_of file h =
    ap (λ f. layout_in f (length h.signals) columns) is.front_is ∙ ap (λ cs. layout_in (fixed_part file) (length h.signals) cs) is.columns_are in
    let has : HasLayout file h kept = record {
      notes = b.notes;
      ordered = notes_kept body;
      starts = body.starts.items;
      body = layout;
      has_notes = b.has_notes;
      rearranged = b.rearranged;
      in_order = sound.in_order;
      has_starts = b.has_starts;
      has_body = some.1;
      head = head;
      order = refl;
      odd = refl;
    } in
    let text_of : IsTextOf kept h text outcome = said layout (body-laid file h body layout b some.1) in
    let one : IsLaidOut file h text outcome = record { layout = kept; has_layout = has; is_text = text_of } in
    subst (λ f. IsWritten f file text outcome) (sym is.faultless) (subst (λ (g : Head). IsLaidOut file g text outcome) is.header one)

-- ---- there is one text

pub one-text : (file text other : List ℕ) (outcome result : Outcome) → IsLayoutText file text outcome → IsLayoutText file other result → text ≡ other
one-text file text other outcome result a b = cases (file_fault file) refl a b
  where
    conforms : file_fault file ≡ None → Conforms file (head_of file)
    conforms e = let some = (conforming_is_faultless file).0 e in subst (λ (g : Head). Conforms file g) ((head-is file some.0 (some.1).header).1) some.1

    cases : (f : Option Fault) → file_fault file ≡ f → IsWritten f file text outcome → IsWritten f file other result → text ≡ other
    cases None e a b =
        let h : Head = head_of file in
        let one = file_has_one_layout file h (conforms e) in
        let same : a.layout ≡ b.layout = one.2 a.layout a.has_layout ∙ sym (one.2 b.layout b.has_layout) in
        (a.is_text).text_is ∙ ap (λ (l : FileLayout). layout_text l h) same ∙ sym ((b.is_text).text_is)
    cases (Some fault) e a b = a.0 ∙ sym b.0

-- ---- what is written

-- the fault that stopped the reading is the one whose line is written
pub fault-told : (honest : Type 0) (file : List ℕ) (rises same : Type 0) (stop : Stop) (r : Result Report ReportStop)
    → IfOk r (λ report. IsFaultReport stop report.text.items report.outcome) → Stops (λ f. honest → file_fault file ≡ Some f) rises same stop
    → IfOk r (λ report. honest → IsLayoutText file report.text.items report.outcome)
fault-told honest file rises same stop (Err e) is said = tt
fault-told honest file rises same reads.OutOfMemory (Ok report) is said = absurd is
fault-told honest file rises same reads.ReadFailed (Ok report) is said = absurd is
fault-told honest file rises same (reads.Fault f) (Ok report) is said =
    λ h. subst (λ found. IsWritten found file report.text.items report.outcome) (sym (said.0 h)) is

pub put-told : (file text old new : List ℕ) (own : Outcome) (honest sink : Type 0) (r : Result Outcome ReportStop)
    → IfOk r (λ outcome. (outcome ≡ own) × (sink → new ≡ old ++ text)) → (honest → IsLayoutText file text own)
    → IfOk r (λ outcome. honest → sink → (x : List ℕ) × IsLayoutText file x outcome × (new ≡ old ++ x))
put-told file text old new own honest sink (Err e) put said = tt
put-told file text old new own honest sink (Ok outcome) put said =
    λ h k. (text, subst (λ o. IsLayoutText file text o) (sym put.0) (said h), put.1 k)

pub part-told : (file text old new : List ℕ) (own : Outcome) (honest sink : Type 0) (r : Result Outcome ReportStop)
    → OnErr r (sink → HoldsPrefix old new text) → (honest → IsLayoutText file text own)
    → OnErr r (honest → sink → (x : List ℕ) (outcome : Outcome) → IsLayoutText file x outcome → HoldsPrefix old new x)
part-told file text old new own honest sink (Ok outcome) part said = tt
part-told file text old new own honest sink (Err e) part said =
    λ h k x outcome is. subst (λ t. HoldsPrefix old new t) (one-text file text x own outcome (said h) is) (part k)
