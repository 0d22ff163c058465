use Rattle.std.proofs.Common.{◌≡◌, ◌-◌, ◌^◌, List, ℕ, length, min, sym, ◌∙◌, subst, ap}
use Rattle.std.proofs.Math.Logic.{∥∥₁_elim}
use Rattle.std.proofs.Props.{props}
use Rattle.std.proofs.lemmas.List.{append_cancel_right}
use Rattle.sha2.specs.Hashers.{Holds256}
use Rattle.sha2.specs.Sha256.{sha256}
use Rattle.sha2.specs.declared.Sha256.{Sha256}
use Rattle.edf_fields.specs.in_out.Sources.{Reads}
use Rattle.edf_receipt.proofs.digest_source.DigestSource.digested.Goals as goal

pub returns-clause-digest : goal.returns-clause-digest
returns-clause-digest g c whole gone reads e =
    let failed = ap (λ (r : Reads). r.failed) reads in
    let start = ap (λ (r : Reads). r.start) reads in
    let known = ap (λ (r : Reads). r.known) reads in
    ∥∥₁_elim c.args.self.now.agrees (Prim.hlevel props)
    (λ a. let k = (a failed known).1 in let same : c.args.self.now.hasher ≡ c.unwrap-hasher.result = sym (rw c.unwrap-hasher.ensures at c.clone.ensures.cases) in c.finalize.ensures k.0 (subst (λ (h : Sha256). Holds256 h k.0) same k.1) ∙ ap sha256 (append_cancel_right _ _ _ (sym k.2 ∙ start ∙ e)))

pub returns-clause-bytes : goal.returns-clause-bytes
returns-clause-bytes g c whole gone reads e =
    let failed = ap (λ (r : Reads). r.failed) reads in
    let start = ap (λ (r : Reads). r.start) reads in
    let known = ap (λ (r : Reads). r.known) reads in
    ∥∥₁_elim c.args.self.now.agrees (Prim.hlevel props)
    (λ a. let k = (a failed known).1 in k.3 ∙ ap (λ (m : List ℕ). min (length m) (2 ^ 64 - 1)) (append_cancel_right _ _ _ (sym k.2 ∙ start ∙ e)))
