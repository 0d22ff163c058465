use Rattle.std.proofs.Common.{IfOk, Result, Ok, Err, IsPermutation, subst, sym}
use Rattle.std.specs.List.Sorted.{IsSorted}
use Rattle.edf_stream.specs.Views.{note_value}
use Rattle.edf_pace.specs.Annotations.{note_cmp}
use Rattle.edf_pace.proofs.ForCallers.{none_is_found}
use Rattle.edf_findings.proofs.notes.both.Notes.only_in_one.Goals as goal

if_ok : {A E : Type 0} (r : Result A E) (P Q : A → Type 0) → ((v : A) → P v → Q v) → IfOk r P → IfOk r Q
if_ok (Ok v) P Q f h = f v h
if_ok (Err e) P Q f h = h

pub returns-clause-none : goal.returns-clause-none
returns-clause-none c =
    let here = c.deref.ensures.value in
    let there = c.deref-2.ensures.value in
    if_ok c.only_in_one.result _ _ (λ only is.
    none_is_found c.args.self.now.kept.items c.deref.result.now c.args.self.now.exported.items c.deref-2.result.now only
    (subst (λ xs. IsPermutation c.args.self.now.kept.items xs) (sym here) c.sort_unstable.ensures.permutation)
    (subst (λ xs. IsPermutation c.args.self.now.exported.items xs) (sym there) c.sort_unstable-2.ensures.permutation)
    (subst (λ xs. IsSorted (λ x y. note_cmp (note_value x) (note_value y)) xs) (sym here) c.sort_unstable.ensures.sorted)
    (subst (λ xs. IsSorted (λ x y. note_cmp (note_value x) (note_value y)) xs) (sym there) c.sort_unstable-2.ensures.sorted)
    is) c.only_in_one.ensures
