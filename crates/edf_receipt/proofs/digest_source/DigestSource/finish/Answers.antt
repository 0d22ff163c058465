use Rattle.std.proofs.Common.{◌≡◌, ◌-◌, ◌^◌, ◌≤◌, ◌<◌, ◌++◌, length, sym, ap, ◌∙◌, append-nil, arith}
use Rattle.std.proofs.Math.Logic.{∥∥₁_elim}
use Rattle.std.proofs.Props.{props}
use Rattle.edf_fields.specs.in_out.Sources.{Reads}
use Rattle.edf_receipt.proofs.DigestFacts.{left_short, locked}
use Rattle.edf_receipt.proofs.digest_source.DigestSource.finish.Goals as goal

pub returns-clause-digest : goal.returns-clause-digest
returns-clause-digest g c = λ whole reads few.
    let failed = ap (λ (r : Reads). r.failed) reads in
    let start = ap (λ (r : Reads). r.start) reads in
    let known = ap (λ (r : Reads). r.known) reads in
    let honest = locked _ _ failed known in
    let short : length (g.S.Source.left c.args.self.now.source) ≤ length whole =
    ∥∥₁_elim c.args.self.now.agrees (Prim.hlevel props) (λ a. left_short _ _ _ (sym start ∙ (a failed known).1.2)) in
    let fewer : length (g.S.Source.left c.args.self.now.source) < 2 ^ 64 - 1 = omega (arith, short, few) in
    let none = c.in_ok-skip_rest.ensures.end honest fewer in
    let all : whole ≡ whole ++ g.S.Source.left c.skip_rest.new.source.source = sym (ap (λ rest. whole ++ rest) none ∙ append-nil whole) in
    let same = c.in_ok-skip_rest.ensures.failures ∙ reads in
    let count = c.digested.ensures.bytes whole whole same all in
    (c.digested.ensures.digest whole whole same all, omega (arith, count, few))
