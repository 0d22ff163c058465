use Rattle.std.proofs.Common.{ap, sym, ◌∙◌}
use Rattle.edf_heads.specs.Comparisons.{Compared}
use Rattle.edf_heads.proofs.KindFacts.{all_broken_in}
use Rattle.edf_heads.proofs.comparison.Comparison.differences.Goals as goal

pub returns : goal.returns
returns c =
    all_broken_in (record { original = c.self.inside.original.now; export = c.self.inside.export; claim = c.self.inside.claim.now }) c.args.self.now c.self.inside.claimed.items c.self.inside.labels.items c.deref.result.now c.exported.result.now c.all.result.now
    c.new-found.result.items c.take_channels.new.found.items c.take_unclaimed.new.found.items c.take_subfields.new.found.items c.take_if.new.found.items c.is_header_blank.result
    c.self.view_is c.self.invariant c.deref.ensures.value (c.exported.ensures ∙ ap (λ (m : Compared). m.export.signals) (sym c.self.view_is)) c.all.ensures c.new-found.ensures.items
    c.in_ok-take_channels.ensures c.in_ok-take_unclaimed.ensures c.in_ok-take_subfields.ensures c.is_header_blank.ensures c.in_ok-take_if.ensures
