-- What is found of exports, by what was counted of them.
use Rattle.std.proofs.Common.{◌≡◌, ◌+ℤ◌, ℕ, neg_ℤ, Bor, List, [], ◌∷◌, length, map, MatchOption, Option, option_map, subst, sym}
use Rattle.std.specs.List.Sorted.{IsPermutation}
use Rattle.edf_check.specs.KeptReading.{kept_notes, origin_of}
use Rattle.edf_check.specs.parts.Counted.{IsWhole, serial_counts}
use Rattle.edf_check.specs.parts.Parts.{FollowOneAnother, exported_by_all}
use Rattle.edf_claim.specs.ClaimValues.{ClaimValue}
use Rattle.edf_header.specs.Heads.{Head}
use Rattle.edf_header.specs.HeadsReading.{head_of}
use Rattle.edf_heads.specs.Comparisons.{AreSorted}
use Rattle.edf_pace.specs.Kept.{shift_ps}
use Rattle.edf_pace.specs.walk.Readings.{beginning}
use Rattle.edf_pace.specs.walk.Watching.{ExportCount}
use Rattle.edf_stream.specs.Views.{note_value}
use Rattle.edf_findings.specs.Found.{AreFoundIn}
use Rattle.edf_findings.specs.Laws.{AreFoundFrom}
use Rattle.edf_findings.specs.Told.{AreTold}
use Rattle.edf_findings.specs.declared.findings.Findings.{Findings}
use Rattle.edf_findings.specs.declared.notes.both.Notes.{Notes}
use Rattle.edf_findings.specs.declared.part.PartFindings.{PartFindings}
use Rattle.edf_findings.specs.declared.part.ReadPart.{ReadPart}

-- where something was counted of each label in an export, it is told of the claimed channels that both files have
abbrev pub IsToldOfCount : ClaimValue → List (Bor (List ℕ)) → Head → ExportCount → PartFindings → Type 0
IsToldOfCount claim labels h count found = length count.counts ≡ length labels
    → MatchOption found.compared ⊥ (λ compared. AreTold claim.channels labels (record { original = h; export = count.head; counts = count.counts }) compared.channels.items)

-- of each of these exports
abbrev pub AreToldOfCounts : ClaimValue → List (Bor (List ℕ)) → Head → List ExportCount → List PartFindings → Type 0
AreToldOfCounts claim labels h [] [] = Unit {0}
AreToldOfCounts claim labels h [] (found ∷ more) = ⊥
AreToldOfCounts claim labels h (count ∷ counts) [] = ⊥
AreToldOfCounts claim labels h (count ∷ counts) (found ∷ more) = IsToldOfCount claim labels h count found × AreToldOfCounts claim labels h counts more

by-counts : (claim : ClaimValue) (labels : List (Bor (List ℕ))) (h : Head) (reads : List ReadPart) (found : List PartFindings) → AreFoundIn claim labels h reads found
    → AreToldOfCounts claim labels h (map (λ (part : ReadPart). record { head = part.header; counts = part.counts.items }) reads) found
by-counts claim labels h [] [] are = tt
by-counts claim labels h [] (f ∷ fs) are = absurd are
by-counts claim labels h (r ∷ rs) [] are = absurd are
by-counts claim labels h (r ∷ rs) (f ∷ fs) are = ((are.0).channels, by-counts claim labels h rs fs are.1)

-- the counts of exports that follow one another, by the labels in one order, and what is found of them, by the labels in that order
pub record AreFoundOfCounts (original : List ℕ) (parts : List (List ℕ)) (claim : ClaimValue) (found : List PartFindings) : Type 0 where
  pub labels : List (Bor (List ℕ))
  pub sorted : AreSorted claim.channels labels
  pub others : List (Bor (List ℕ))
  pub also : AreSorted claim.channels others
  pub told : AreToldOfCounts claim others (head_of original) (serial_counts claim original (head_of original) (neg_ℤ (origin_of original)) (neg_ℤ (origin_of original +ℤ shift_ps claim)) labels beginning parts) found

-- an original and its exports were read to their ends: the header, and the annotations, in some order
whole_of : (original : List ℕ) (parts : List (List ℕ)) (claim : ClaimValue) (found : Findings) → FollowOneAnother parts → (from : AreFoundFrom original parts claim found)
    → IsWhole original parts claim (record { head = found.original; kept = map note_value from.looker.notes.kept.items; exported = map note_value from.looker.notes.exported.items })
whole_of original parts claim found follow from =
    let notes = from.looker.notes in
    let S : Option Head → Type 0 = λ x. MatchOption (option_map (λ (head : Head). record { head = head; kept = map note_value notes.kept.items; exported = map note_value notes.exported.items }) x) ⊥ (λ shown. FollowOneAnother parts → IsWhole original parts claim shown) in
    subst S (from.are).original_is (from.seen).whole follow

pub found_of_counts : (original : List ℕ) (parts : List (List ℕ)) (claim : ClaimValue) (found : Findings) → FollowOneAnother parts → AreFoundFrom original parts claim found → AreFoundOfCounts original parts claim found.parts.items
found_of_counts original parts claim found follow from =
    let looker = from.looker in
    let are = from.are in
    let counted = (from.seen).counted in
    let whole = whole_of original parts claim found follow from in
    let in-original = subst (λ (x : Head). AreFoundIn claim are.labels x looker.parts.items found.parts.items) whole.head are.are in
    record {
      labels = counted.labels;
      sorted = counted.sorted;
      others = are.labels;
      also = are.sorted;
      told = subst (λ (counts : List ExportCount). AreToldOfCounts claim are.labels (head_of original) counts found.parts.items) counted.are (by-counts claim are.labels (head_of original) looker.parts.items found.parts.items in-original);
    }

-- the annotations of findings are those that are kept and those of all exports, in some order
pub notes_of_all : (original : List ℕ) (parts : List (List ℕ)) (claim : ClaimValue) (found : Findings) → FollowOneAnother parts → AreFoundFrom original parts claim found
    → IsPermutation (kept_notes original claim) (map note_value found.notes.kept.items) × IsPermutation (exported_by_all original parts claim) (map note_value found.notes.exported.items)
notes_of_all original parts claim found follow from =
    let whole = whole_of original parts claim found follow from in
    subst (λ (notes : Notes). IsPermutation (kept_notes original claim) (map note_value notes.kept.items) × IsPermutation (exported_by_all original parts claim) (map note_value notes.exported.items)) (sym (from.are).notes_are) (whole.kept, whole.exported)
