use Rattle.std.proofs.Common.{◌∙◌, ap, sym, subst, drop}
use Rattle.edf_header.specs.Conforming.{HeaderConforms}
use Rattle.edf_header.specs.Heads.{Head, HasHead, header_bytes}
use Rattle.edf_header.proofs.ConformingFacts.{passing-conforms}
use Rattle.edf_header.proofs.HeadFacts.{passing_has_head}
use Rattle.edf_header.proofs.KeptFacts.{kept}
use Rattle.edf_header.proofs.ReadFacts.{columns-left, view-is, head-is, rest-is}
use Rattle.edf_header.proofs.header.Header.read.Goals as goal

pub invariant_of-result : goal.invariant_of-result
invariant_of-result g c =
    let p = c.in_ok-parts.parts in
    let f = c.in_ok-parts.ensures.fixed in
    let k = rw c.in_ok-parts.ensures.signals at c.in_ok-parts.ensures.body in (
      kept p.fixed.bytes.items p.body.columns.bytes p.fixed.said.start p.fixed.said.extent p.body.said.signals.items p.body.said.record_bytes
          f.whole f.starts f.extends f.passed k.passed k.signals_are k.record_bytes_are k.small,
      k.annotations_are,
    )

pub returns-clause-sound : goal.returns-clause-sound
returns-clause-sound g c =
    let p = c.in_ok-parts.parts in
    let f = c.in_ok-parts.ensures.fixed in
    let k = rw c.in_ok-parts.ensures.signals at c.in_ok-parts.ensures.body in
    (kept p.fixed.bytes.items p.body.columns.bytes p.fixed.said.start p.fixed.said.extent p.body.said.signals.items p.body.said.record_bytes
    f.whole f.starts f.extends f.passed k.passed k.signals_are k.record_bytes_are k.small).sound

pub returns-clause-passed : goal.returns-clause-passed
returns-clause-passed g c = λ h.
    let p = c.in_ok-parts.parts in
    let f = c.in_ok-parts.ensures.fixed in
    let k = rw c.in_ok-parts.ensures.signals at c.in_ok-parts.ensures.body in
    columns-left (g.S.Source.left c.args.source.now) p.fixed.bytes.items p.body.columns.bytes p.fixed.said.extent.signals
    (c.in_ok-parts.ensures.front h) f.extends.signals (c.in_ok-parts.ensures.bytes h) f.passed ∙ k.passed

pub returns-clause-value : goal.returns-clause-value
returns-clause-value g c = λ h.
    let p = c.in_ok-parts.parts in
    let f = c.in_ok-parts.ensures.fixed in
    let k = rw c.in_ok-parts.ensures.signals at c.in_ok-parts.ensures.body in
    view-is p.fixed.bytes.items p.body.columns.bytes p.fixed.said.start p.fixed.said.extent p.body.said.signals.items f.starts f.extends k.signals_are
    ∙ head-is (g.S.Source.left c.args.source.now) p.fixed.bytes.items p.body.columns.bytes p.fixed.said.extent.signals
    (c.in_ok-parts.ensures.front h) f.extends.signals (c.in_ok-parts.ensures.bytes h)

pub returns-clause-says : goal.returns-clause-says
returns-clause-says g c = λ h.
    let b = g.S.Source.left c.args.source.now in
    subst (λ (head : Head). HasHead b head) (sym (returns-clause-value g c h)) (passing_has_head b (returns-clause-passed g c h))

pub returns-clause-conforms : goal.returns-clause-conforms
returns-clause-conforms g c = λ h.
    let b = g.S.Source.left c.args.source.now in
    subst (λ (head : Head). HeaderConforms b head) (sym (returns-clause-value g c h)) (passing-conforms b (returns-clause-passed g c h))

pub returns-clause-whole : goal.returns-clause-whole
returns-clause-whole g c = λ h. (returns-clause-conforms g c h).whole

pub returns-clause-behind : goal.returns-clause-behind
returns-clause-behind g c = λ h.
    let b = g.S.Source.left c.args.source.now in
    let p = c.in_ok-parts.parts in
    let f = c.in_ok-parts.ensures.fixed in
    let k = rw c.in_ok-parts.ensures.signals at c.in_ok-parts.ensures.body in
    rest-is b p.fixed.bytes.items p.body.columns.bytes (g.S.Source.left c.read_parts.new.source) p.fixed.said.extent.signals f.extends.signals (c.in_ok-parts.ensures.behind h)
    ∙ ap (λ (head : Head). drop (header_bytes head) b) (sym (view-is p.fixed.bytes.items p.body.columns.bytes p.fixed.said.start p.fixed.said.extent p.body.said.signals.items f.starts f.extends k.signals_are))
