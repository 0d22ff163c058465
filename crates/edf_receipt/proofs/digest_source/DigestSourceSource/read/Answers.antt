use Rattle.std.proofs.Common.{arith, ◌≤◌, length}
use Rattle.std.proofs.lemmas.Grind.{common_steps}
use Rattle.std.proofs.lemmas.List.{length-take-le}
use Rattle.std.proofs.Math.Logic.{∥∥₁_elim}
use Rattle.std.proofs.Props.{props}
use Rattle.edf_receipt.proofs.DigestFacts.{digested_more, unlocked}
use Rattle.edf_receipt.proofs.digest_source.DigestSourceSource.read.Goals as goal

pub invariant_of-self : goal.invariant_of-self
invariant_of-self g c =
    let fits : c.in-Ok.count ≤ length c.read.new.buf = grind (arith, common_steps) in
    record {
      agrees = ∥∥₁_elim c.args.self.now.agrees (Prim.hlevel props) (λ a. ∣ (λ failed known.
          let k = a failed known in (
            c.in-Ok.ensures.honesty k.0,
            digested_more c.args.self.now.hasher c.update.new.self c.args.self.now.bytes c.saturating_add-self.result c.in-Ok.count _ _ _ _ k.1 (c.in-Ok.ensures.bytes k.0) c.update.ensures
                (length-take-le c.in-Ok.count c.read.new.buf fits) c.saturating_add-self.ensures,
          )) ∣₁);
    }

pub returns-in-Ok-clause-bytes : goal.returns-in-Ok-clause-bytes
returns-in-Ok-clause-bytes g c = λ h.
    let u = unlocked _ _ h in
    ∥∥₁_elim c.args.self.now.agrees (Prim.hlevel props) (λ a. c.in-Ok.ensures.bytes (a u.0 u.1).0)

pub returns-in-Ok-clause-ends : goal.returns-in-Ok-clause-ends
returns-in-Ok-clause-ends g c = λ h none.
    let u = unlocked _ _ h in
    ∥∥₁_elim c.args.self.now.agrees (Prim.hlevel props) (λ a. c.in-Ok.ensures.ends (a u.0 u.1).0 none)
