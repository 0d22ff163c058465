use Rattle.std.proofs.Common.{List, ◌∷◌, ◌∙◌, map, ap, sym, subst}
use Rattle.std.proofs.lemmas.List.{map-append}
use Rattle.edf_stream.specs.Views.{note_value}
use Rattle.edf_tal.specs.Reading.{Item}
use Rattle.edf_tal.specs.Views.{tal_view, item_view, items_left}
use Rattle.edf_tal.proofs.ForCallers.{lane-read}
use Rattle.edf_layout.specs.body.BodyLayouts.{PlacedTal}
use Rattle.edf_layout.specs.body.LaidTals.{laid_view}
use Rattle.edf_layout.specs.body.LaneReading.{keeps_now}
use Rattle.edf_layout.proofs.body.LaneFacts.{unlaid}
use Rattle.edf_layout.proofs.lanes.LayLaneFacts.{Left, all-left, none-left, no-fault, one-more}
use Rattle.edf_layout.specs.declared.laid_tal.LaidTal.{LaidTal}
use Rattle.edf_layout.proofs.lane_layout.lay_lane.Goals as goal

pub loop-item-init : goal.loop-item-init
loop-item-init c = λ tals layouts laid.
    let notes = map note_value c.args.notes.now in
    let items : List Item = items_left c.into_iter-item-iterator.result in
    let read = ap items_left c.into_iter-item-iterator.ensures.into_iter_gives ∙ c.new-item-items.ensures.items ∙ lane-read tals c.args.lane.now (unlaid c.args.lane.now tals layouts laid) in
    subst (λ xs. Left notes c.args.keeps_time tals layouts xs c.args.lane.now items) (sym (ap (map laid_view) c.in_ok-laid.ensures.items)) (all-left notes c.args.keeps_time tals layouts c.args.lane.now items read laid)

pub returns-in_default : goal.returns-in_default
returns-in_default c = λ tals layouts laid.
    absurd (no-fault (map note_value c.args.notes.now) c.args.keeps_time tals layouts (map laid_view c.loop-item.laid.items) c.loop-item.rest.now (items_left c.loop-item.item-iterator) (items_left c.next.new.self) c.in_default.field-0
    (c.in-Some.ensures.steps ∙ ap (λ item. item_view item ∷ items_left c.next.new.self) c.in_default.is) (c.loop-item.invariant tals layouts laid))

pub returns : goal.returns
returns c = λ tals layouts laid.
    none-left (map note_value c.args.notes.now) c.args.keeps_time tals layouts (map laid_view c.loop-item.laid.items) c.loop-item.rest.now (items_left c.loop-item.item-iterator) c.in-None.ensures.steps.0
    (c.loop-item.invariant tals layouts laid)

pub loop-item-preserved : goal.loop-item-preserved
loop-item-preserved c = λ tals layouts laid.
    let notes = map note_value c.args.notes.now in
    let before = map laid_view c.loop-item.laid.items in
    let p : PlacedTal = laid_view (record { onset = c.spelling_at-spelling.result.onset; duration = c.spelling_at-spelling.result.duration; content = c.in_ok-says.field-0 }) in
    let pushed = ap (map laid_view) c.in_ok-push.ensures.items ∙ map-append laid_view c.loop-item.laid.items _ in
    let keeps = c.keeps_now-keeps.ensures ∙ ap (λ (xs : List LaidTal). keeps_now c.args.keeps_time (map laid_view xs)) c.deref.ensures.value in
    subst (λ r. Left notes c.args.keeps_time tals layouts (map laid_view c.push.new.self.items) r (items_left c.next.new.self)) (sym c.behind-rest.ensures)
    (one-more notes c.args.keeps_time tals layouts before (map laid_view c.push.new.self.items) c.loop-item.rest.now (items_left c.loop-item.item-iterator) (items_left c.next.new.self) (tal_view c.in-Ok.tal) p
    (c.in-Some.ensures.steps ∙ ap (λ item. item_view item ∷ items_left c.next.new.self) c.in-Ok.is) c.spelling_at-spelling.ensures
    (λ h. c.in_ok-says.ensures.time (keeps ∙ h)) (λ h. c.in_ok-says.ensures.other (keeps ∙ h)) pushed (c.loop-item.invariant tals layouts laid))
