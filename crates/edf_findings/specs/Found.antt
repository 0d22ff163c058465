-- What is found in an original and its exports, of what was counted of each.
use Rattle.std.specs.Prelude.{◌≡◌, ◌≢◌, ℕ, List, [], ◌∷◌, map, length, true, IsTrue, is_some, Option, None, Some, MatchOption}
use Rattle.std.specs.List.{AllByRecursion}
use Rattle.std.specs.Option.{option_map}
use Rattle.std.specs.Borrow.{Bor}
use Rattle.edf_check.specs.parts.Counted.{AreCountedOfAll, IsCountedOfTwo, looked_on}
use Rattle.edf_check.specs.parts.Parts.{AllConform}
use Rattle.edf_claim.specs.ClaimValues.{ClaimValue}
use Rattle.edf_fields.specs.declared.in_out.source.Source.{Ghosts}
use Rattle.edf_header.specs.Heads.{Head}
use Rattle.edf_header.specs.HeadsReading.{head_of}
use Rattle.edf_heads.specs.Comparisons.{AreSorted}
use Rattle.edf_findings.specs.declared.findings.Findings.{Findings}
use Rattle.edf_findings.specs.declared.looker.Looker.{Looker}
use Rattle.edf_findings.specs.declared.notes.both.Notes.{Notes}
use Rattle.edf_findings.specs.declared.part.PartFindings.{PartFindings}
use Rattle.edf_findings.specs.declared.part.ReadPart.{ReadPart}
use Rattle.edf_findings.specs.Told.{AreTold, Seen}
use Rattle.edf_pace.specs.walk.Watching.{ExportCount, WholeShown}
use Rattle.edf_stream.specs.Conforming.{Conforms}
use Rattle.edf_stream.specs.Views.{note_value}

-- what was seen of an export that was read, beside an original with this header
abbrev pub seen_in : Head → ReadPart → Seen
seen_in h part = record { original = h; export = part.header; counts = part.counts.items }

-- of an export that was read this is found: where something was counted of each label, it is told of the claimed channels that both files have;
-- else nothing is told of any channel; and what was noted of its data records is handed on
pub record IsFoundIn (claim : ClaimValue) (labels : List (Bor (List ℕ))) (h : Head) (part : ReadPart) (found : PartFindings) : Type 0 where
  pub header : found.header ≡ part.header
  pub uncompared : length part.counts.items ≢ length labels → found.compared ≡ None
  pub channels : length part.counts.items ≡ length labels
      → MatchOption found.compared ⊥ (λ compared. AreTold claim.channels labels (seen_in h part) compared.channels.items)
  pub noted : length part.counts.items ≡ length labels → MatchOption found.compared ⊥ (λ compared. compared.noted ≡ part.so_far.noted)

-- of each of these exports
abbrev pub AreFoundIn : ClaimValue → List (Bor (List ℕ)) → Head → List ReadPart → List PartFindings → Type 0
AreFoundIn claim labels h [] [] = Unit {0}
AreFoundIn claim labels h [] (found ∷ more) = ⊥
AreFoundIn claim labels h (part ∷ parts) [] = ⊥
AreFoundIn claim labels h (part ∷ parts) (found ∷ more) = IsFoundIn claim labels h part found × AreFoundIn claim labels h parts more

-- these are the findings in an original and its exports, with these annotations, under a claim
pub record AreFindings (claim : ClaimValue) (original : Head) (parts : List PartFindings) (notes : Notes) (found : Findings) : Type 0 where
  pub claim_is : (found.claim).now ≡ claim
  pub original_is : found.original ≡ original
  pub parts_are : found.parts.items ≡ parts
  pub notes_are : found.notes ≡ notes

-- what somebody who looked on counted of each export that was read to its end
abbrev pub counted_by : Looker → List ExportCount
counted_by looker = map (λ (part : ReadPart). record { head = part.header; counts = part.counts.items }) looker.parts.items

-- what somebody who looked on has of all files, where the original was read to its end
abbrev pub shown_by : Looker → Option WholeShown
shown_by looker =
    option_map (λ head. record { head = head; kept = map note_value looker.notes.kept.items; exported = map note_value looker.notes.exported.items }) looker.original

-- the findings are those of somebody who looked on, under a claim: of each export, with the labels of the claim in their order
pub record AreFoundBy (claim : ClaimValue) (looker : Looker) (found : Findings) : Type 0 where
  pub claim_is : (found.claim).now ≡ claim
  pub original_is : looker.original ≡ Some found.original
  pub notes_are : found.notes ≡ looker.notes
  pub labels : List (Bor (List ℕ))
  pub sorted : AreSorted claim.channels labels
  pub are : AreFoundIn claim labels found.original looker.parts.items found.parts.items

-- they are the findings in two files, as a check under this claim shows them
abbrev pub AreFindingsOf : {O E : Type 0} → Ghosts O → Ghosts E → O → E → ClaimValue → Findings → Type 0
AreFindingsOf original export o e claim found = (looker : Looker) × IsCountedOfTwo original export o e claim true (looked_on [] (counted_by looker) (shown_by looker)) × AreFoundBy claim looker found

-- the same of several exports
abbrev pub AreFindingsOfAll : {O E : Type 0} → Ghosts O → Ghosts E → O → List E → ClaimValue → Findings → Type 0
AreFindingsOfAll original export o parts claim found = (looker : Looker) × AreCountedOfAll original export o parts claim true (looked_on [] (counted_by looker) (shown_by looker)) × AreFoundBy claim looker found

-- there are findings, if two files conform
abbrev pub HasFindingsOf : {O E : Type 0} → Ghosts O → Ghosts E → O → E → Option Findings → Type 0
HasFindingsOf original export o e found = IsTrue (original.is_honest o) → IsTrue (export.is_honest e)
    → Conforms (original.left o) (head_of (original.left o)) → Conforms (export.left e) (head_of (export.left e)) → IsTrue (is_some found)

-- there are findings, if an original and several exports conform
abbrev pub HasFindingsOfAll : {O E : Type 0} → Ghosts O → Ghosts E → O → List E → Option Findings → Type 0
HasFindingsOfAll original export o parts found = IsTrue (original.is_honest o) → AllByRecursion IsTrue (map export.is_honest parts)
    → AllConform (original.left o) (map export.left parts) → IsTrue (is_some found)
