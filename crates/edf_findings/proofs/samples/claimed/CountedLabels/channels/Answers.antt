use Rattle.std.proofs.Common.{Bor, List, ℕ, Some, map, length, refl, subst, sym, ap, ◌∙◌}
use Rattle.std.proofs.lemmas.Option.{slice_get_read}
use Rattle.edf_fields.proofs.ForCallers.{has-at, has-permutation}
use Rattle.edf_fields.specs.Lists.{Has}
use Rattle.edf_findings.specs.declared.samples.compared.ComparedChannel.{ComparedChannel}
use Rattle.edf_findings.proofs.ToldFacts.{each-more, place_of, which-more}
use Rattle.edf_findings.proofs.samples.claimed.CountedLabels.channels.Goals as goal

pub channel-requires-clause-listed : goal.channel-requires-clause-listed
channel-requires-clause-listed c =
    let at = slice_get_read c.channels-labels.result.now (length c.channels-labels.result.now) c.loop-place.place c.index-labels-place.result refl c.loop-place-test.true c.index-labels-place.is ∙ ap Some (sym c.text.ensures) in
    has-permutation c.args.claim.now.channels (map (λ (label : Bor (List ℕ)). label.now) c.args.self.labels.now) c.text.result.now c.requires.sorted.all
    (subst (λ (labels : List (List ℕ)). Has labels c.text.result.now) c.channels-labels.ensures.channels (has-at c.channels-labels.result.now c.loop-place.place c.text.result.now at))

pub loop-place-preserved : goal.loop-place-preserved
loop-place-preserved c =
    let at = slice_get_read c.channels-labels.result.now (length c.channels-labels.result.now) c.loop-place.place c.index-labels-place.result refl c.loop-place-test.true c.index-labels-place.is ∙ ap Some (sym c.text.ensures) in
    let which = which-more c.args.self.headers.0.now c.args.self.headers.1.now c.channels-labels.result.now c.loop-place.place c.text.result.now c.channel.result c.loop-place.channels.items at c.channel.ensures.both c.channel.ensures.place c.loop-place.invariant.which in
    let each = each-more c.channels-labels.result.now c.args.self.labels.now _ c.loop-place.place c.text.result.now c.channel.result c.loop-place.channels.items at c.channel.ensures.place c.channel.ensures.told c.loop-place.invariant.each in
    let items = c.in_ok-take_in.ensures in
    record {
      which = ap (map place_of) items ∙ which;
      each = λ channel has. each channel (subst (λ (channels : List ComparedChannel). Has channels channel) items has);
    }
