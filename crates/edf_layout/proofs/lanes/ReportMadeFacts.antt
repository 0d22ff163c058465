-- The lines that were put one behind the other are the text of a layout.
use Rattle.std.proofs.Common.{sym, ◌≡◌, ℕ, ◌+◌, List, ◌++◌, length, Result, Ok, Err, IfOk, ap, ◌∙◌, subst, append_assoc}
use Rattle.std.specs.List.{flat_map}
use Rattle.std.specs.declared.alloc.AllocError.{AllocError}
use Rattle.edf_header.specs.Heads.{Head}
use Rattle.edf_report.specs.declared.report.Report.{Report}
use Rattle.edf_layout.specs.HeadLayouts.{HeadLayout, layout_in}
use Rattle.edf_layout.specs.HeadReports.{plain_outcome, places_of}
use Rattle.edf_layout.specs.HeadTexts.{head_lines}
use Rattle.edf_layout.specs.OddPlaces.{place_lines}
use Rattle.edf_layout.specs.body.FileLayouts.{lane_lines, order_line, ending, layout_text}
use Rattle.edf_layout.specs.body.BodyLayouts.{BodyLayout}
use Rattle.edf_layout.specs.body.OddLanes.{OddLane, odd_lanes, base_order}
use Rattle.edf_layout.specs.body.PlainOrders.{PlainOrder, lane_sizes}
use Rattle.edf_layout.specs.declared.whole.file_body.FileBody.{FileBody}
use Rattle.edf_layout.specs.whole.FileBodies.{lanes_kept, notes_kept}
use Rattle.edf_layout.specs.whole.LaneRows.{HaveRowLayouts, IsLaidBody}
use Rattle.edf_layout.specs.whole.LayoutTexts.{IsTextOf, layout_made, layout_kept, order_kept}

pub report-made : (front columns : List ℕ) (h : Head) (order : PlainOrder) (odd : List OddLane) (l : HeadLayout) (lines : List ℕ) (places : List (List ℕ)) (n m : ℕ) (r : Result Report AllocError)
    → l ≡ layout_in front (length h.signals) columns → lines ≡ head_lines l ++ (order_line order ++ flat_map lane_lines odd) → places ≡ places_of l h
    → n ≡ length odd → m ≡ length places
    → IfOk r (λ r. r.text.items ≡ lines ++ (place_lines places ++ ending (n + m))) → IfOk r (λ r. r.outcome ≡ plain_outcome (n + m))
    → IfOk r (λ r. IsTextOf (layout_made front columns h order odd) h r.text.items r.outcome)
unfolding layout_made layout_text
report-made front columns h order odd l lines places n m (Err e) head put there some more text outcome = tt
report-made front columns h order odd l lines places n m (Ok r) head put there some more text outcome =
    let at : HeadLayout = layout_in front (length h.signals) columns in
    let is : places ≡ places_of at h = there ∙ ap (λ (k : HeadLayout). places_of k h) head in
    let count : n + m ≡ length odd + length (places_of at h) = ap (λ k. k + m) some ∙ ap (λ k. length odd + k) (more ∙ ap length is) in
    let last : List ℕ = place_lines (places_of at h) ++ ending (length odd + length (places_of at h)) in
    record {
      text_is =
          text ∙ ap (λ ps. lines ++ (place_lines ps ++ ending (n + m))) is ∙ ap (λ k. lines ++ (place_lines (places_of at h) ++ ending k)) count
          ∙ ap (λ ls. ls ++ last) (put ∙ ap (λ (k : HeadLayout). head_lines k ++ (order_line order ++ flat_map lane_lines odd)) head)
          ∙ append_assoc (head_lines at) (order_line order ++ flat_map lane_lines odd) last
          ∙ ap (λ ls. head_lines at ++ ls) (append_assoc (order_line order) (flat_map lane_lines odd) last);
      outcome_is = outcome ∙ ap plain_outcome count;
    }

-- the order and the odd lanes are those of what is kept of the file
pub all-kept : (front columns : List ℕ) (h : Head) (body : FileBody) (sizes : List ℕ) (order : PlainOrder) (odd : List OddLane) (r : Result Report AllocError)
    → sizes ≡ lane_sizes h
    → ((layout : BodyLayout) → HaveRowLayouts (notes_kept body) (lanes_kept sizes body) layout → IsLaidBody (notes_kept body) sizes body.starts.items layout order odd)
    → IfOk r (λ r. IsTextOf (layout_made front columns h order odd) h r.text.items r.outcome)
    → IfOk r (λ r. (layout : BodyLayout) → HaveRowLayouts (notes_kept body) (lanes_kept (lane_sizes h) body) layout → IsTextOf (layout_kept front columns h body layout) h r.text.items r.outcome)
unfolding layout_kept
all-kept front columns h body sizes order odd (Err e) same laid made = tt
all-kept front columns h body sizes order odd (Ok r) same laid made = λ layout rows.
    let is = laid layout (subst (λ ss. HaveRowLayouts (notes_kept body) (lanes_kept ss body) layout) (sym same) rows) in
    let notes = notes_kept body in
    let starts = body.starts.items in
    let first : order ≡ order_kept h body layout = is.order_is ∙ ap (λ ss. base_order notes ss starts layout) same in
    let second : odd ≡ odd_lanes (order_kept h body layout) notes (lane_sizes h) starts layout =
    is.odd_is ∙ ap (λ ss. odd_lanes order notes ss starts layout) same ∙ ap (λ o. odd_lanes o notes (lane_sizes h) starts layout) first in
    subst (λ ls. IsTextOf (layout_made front columns h (order_kept h body layout) ls) h r.text.items r.outcome) second
    (subst (λ o. IsTextOf (layout_made front columns h o odd) h r.text.items r.outcome) first made)
