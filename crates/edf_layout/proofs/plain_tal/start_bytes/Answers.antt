use mir.Syntax.{w128}
use Rattle.std.proofs.Common.{rules, ℕ, ◌≡◌, ◌/◌, ◌%◌, ◌∙◌, unsigned_abs, ap, sym}
use Rattle.std.proofs.lemmas.Int.{to_z-of_z}
use Rattle.edf_layout.proofs.lanes.StartBytesFacts.{whole-start}
use Rattle.edf_layout.proofs.plain_tal.start_bytes.Goals as goal

pub returns-in-Some : goal.returns-in-Some
returns-in-Some c =
    let second : ℕ = 1000000000000 in
    let value : c.unsigned_abs.result ≡ unsigned_abs c.args.start = rw (to_z-of_z w128 c.args.start (search rules)) at c.unsigned_abs.ensures.value in
    whole-start c.args.start c.in-Some.seconds c.digit_count.result
    (c.in-Some.ensures.0 ∙ ap (λ n. n / second) value) (ap (λ n. n % second) (sym value) ∙ c.in-Some.ensures.1) c.digit_count.ensures.count
