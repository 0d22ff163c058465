use Rattle.std.proofs.Common.{map, rules, subst}
use Rattle.edf_stream.specs.Views.{note_value}
use Rattle.edf_layout.specs.body.PlainLanes.{DoAgree, order_view}
use Rattle.edf_layout.specs.whole.FileBodies.{notes_kept}
use Rattle.edf_layout.specs.whole.LaneRows.{odd_view}
use Rattle.edf_layout.proofs.lanes.AgreeFacts.{first-fits}
use Rattle.edf_layout.proofs.lanes.BestOrderFacts.{best-fits}
use Rattle.edf_layout.proofs.whole.layout.lay_body.Goals as goal

pub returns : goal.returns
returns c = λ layout h.
    best-fits odd_view (notes_kept c.args.body.now) c.args.sizes.now c.args.body.now.starts.items layout 18446744073709551615 c.len.result c.in_ok-by_time.by_time.items c.in_ok-one_by_one.one_by_one.items
    c.best_of.result.odd.items (order_view c.best_of.result.order)
    (search rules) (search rules) (c.in_ok-by_time.ensures layout h) (c.in_ok-one_by_one.ensures layout h) c.best_of.ensures.by_time c.best_of.ensures.one_by_one

pub returns-then-do_orders_agree : goal.returns-then-do_orders_agree
returns-then-do_orders_agree c = λ layout h.
    let body = c.args.body.now in
    let agree = c.do_orders_agree.ensures c.if-do_orders_agree.true in
    first-fits odd_view (notes_kept body) c.args.sizes.now body.starts.items layout 18446744073709551615 c.in_ok-by_time.by_time.items (search rules) (c.in_ok-by_time.ensures layout h)
    (subst (λ starts. DoAgree starts 0 (notes_kept body)) c.deref-2.ensures.value (subst (λ notes. DoAgree c.deref-2.result.now 0 (map note_value notes)) c.deref.ensures.value agree))
