use Rattle.std.proofs.Common.{◌≡◌, ℤ, ◌<◌, pos, ◌<ℤ◌, ◌∙◌, ap, sym, subst, true, arith, rules}
use Rattle.std.proofs.lemmas.Int.{ints, to_z-of_z}
use mir.Val.{SFits}
use mir.Syntax.{w128}
use Rattle.edf_header.specs.Heads.{Head}
use Rattle.edf_samples.specs.Stretches.{stretch_points, since, until}
use Rattle.edf_pace.specs.walk.Windows.{first_at}
use Rattle.edf_samples.specs.Shares.{IsShareOf}
use Rattle.edf_stream.specs.records.Readers.{is_current}
use Rattle.edf_pace.proofs.walk.ShownFacts.{covers_current, shown_by}
use Rattle.edf_pace.proofs.walk.window.shown.Goals as goal

pub returns-clause-value : goal.returns-clause-value
returns-clause-value c = λ ps w sh file covers.
    let r = c.args.reader.now in
    let t = (w.from).ps in
    let u = (w.to).ps in
    let track = c.requires.track in
    let n = c.args.track.place.samples in
    let step = c.duration_ps.result in
    let lasts : step ≡ (r.head).duration = c.duration_ps.ensures.value ∙ ap (λ (h : Head). h.duration) c.header.ensures in
    let current : is_current r.status ≡ true = c.requires.current in
    let same : c.args.share.now.samples ≡ n = c.requires.share in
    let some : 0 < c.args.share.now.samples = (let q = (track.place).some in omega (arith, q, same)) in
    let P : ℤ → Type 0 = λ d. IsShareOf (first_at r ps c.args.share.now.samples) d w c.args.share.now in
    let mine : IsShareOf (first_at r ps c.args.share.now.samples) step w c.args.share.now = subst P (sym lasts) (sh some) in
    let first = c.duration_ps.ensures.some in
    let positive : pos 0 <ℤ step = omega (arith, ints, first) in
    let fits : SFits w128 step = search rules in
    let value = simp to_z-of_z at c.part_by.ensures.value in
    value (first_at r ps c.args.share.now.samples) w positive mine
    ∙ ap (λ m. until m u (since m t (stretch_points (first_at r ps m) step c.lane_at.result.now))) same
    ∙ ap (λ d. until n u (since n t (stretch_points (first_at r ps n) d c.lane_at.result.now))) lasts
    ∙ ap (λ xs. until n u (since n t xs)) (shown_by r ps c.args.track.place track.place c.lane_at.result.now (c.lane_at.ensures.value track))
    ∙ sym (covers_current r file c.args.track.place ps t u track.place covers current)

pub returns-clause-cut : goal.returns-clause-cut
returns-clause-cut c =
    let lasts : c.duration_ps.result ≡ (c.args.reader.now.head).duration = c.duration_ps.ensures.value ∙ ap (λ (h : Head). h.duration) c.header.ensures in
    let fits : SFits w128 c.duration_ps.result = search rules in
    let cut = simp to_z-of_z at c.part_by.ensures.cut in
    (cut.0, cut.1 ∙ lasts, cut.2, cut.3)
