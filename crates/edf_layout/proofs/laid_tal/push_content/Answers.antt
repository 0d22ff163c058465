use Rattle.std.proofs.Common.{◌++◌, ◌∙◌, ap, sym}
use Rattle.edf_layout.specs.body.LaidTals.{content_view}
use Rattle.edf_layout.specs.body.OddLanes.{content_words}
use Rattle.edf_layout.proofs.body.TalLineFacts.{time-pushed, annotations-pushed}
use Rattle.edf_layout.specs.declared.laid_tal.Content.{Content}
use Rattle.edf_layout.proofs.laid_tal.push_content.Goals as goal

pub returns-in_ok-push_counts-in-KeepsTime : goal.returns-in_ok-push_counts-in-KeepsTime
returns-in_ok-push_counts-in-KeepsTime c =
    time-pushed c.args.text.now.items c.extend_from_slice.new.self.items c.push_length.new.text.items c.extend_from_slice-in-KeepsTime.new.self.items c.push_counts.new.text.items
    c.in-KeepsTime.places.items c.deref.result.now c.in-KeepsTime.duration
    (c.in_ok-extend_from_slice-in-KeepsTime.ensures.items ∙ ap (λ x. c.args.text.now.items ++ x) c.as_bytes.ensures.value) c.in_ok-push_length-in-KeepsTime.ensures
    (c.in_ok-extend_from_slice-in-KeepsTime-2.ensures.items ∙ ap (λ x. c.push_length.new.text.items ++ x) c.as_bytes-in-KeepsTime.ensures.value) c.in_ok-push_counts-in-KeepsTime.ensures c.deref.ensures.value
    ∙ ap (λ (k : Content). c.args.text.now.items ++ content_words (content_view k)) (sym c.in-KeepsTime.is)

pub returns-in_ok-push_counts-in-Annotates : goal.returns-in_ok-push_counts-in-Annotates
returns-in_ok-push_counts-in-Annotates c =
    annotations-pushed c.args.text.now.items c.extend_from_slice-in-Annotates.new.self.items c.push_counts-in-Annotates.new.text.items c.in-Annotates.places.items c.deref-in-Annotates.result.now
    (c.in_ok-extend_from_slice-in-Annotates.ensures.items ∙ ap (λ x. c.args.text.now.items ++ x) c.as_bytes-in-Annotates.ensures.value) c.in_ok-push_counts-in-Annotates.ensures c.deref-in-Annotates.ensures.value
    ∙ ap (λ (k : Content). c.args.text.now.items ++ content_words (content_view k)) (sym c.in-Annotates.is)
