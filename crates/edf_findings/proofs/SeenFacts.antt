-- Who looked on while files were checked that conform has findings.
use Rattle.std.proofs.Common.{◌≡◌, ◌<◌, ◌&&◌, ◌∙◌, ◌+ℤ◌, ℕ, neg_ℤ, List, [], IsTrue, MatchOption, Option, None, Some, is_some, length, nat_lt, option_map, ap, sym, arith}
use Rattle.std.proofs.lemmas.Bool.Decides.{Decides-ltb}
use Rattle.std.proofs.lemmas.List.{length-map}
use Rattle.edf_check.proofs.ForCallers.{counted_each}
use Rattle.edf_check.specs.KeptReading.{origin_of}
use Rattle.edf_check.specs.parts.Counted.{IsLookedOn, IsWhole, looked_on}
use Rattle.edf_check.specs.parts.Parts.{FollowOneAnother}
use Rattle.edf_claim.specs.ClaimValues.{ClaimValue}
use Rattle.edf_header.specs.Heads.{Head}
use Rattle.edf_header.specs.HeadsReading.{head_of}
use Rattle.edf_pace.specs.Kept.{shift_ps}
use Rattle.edf_pace.specs.walk.Readings.{beginning}
use Rattle.edf_pace.specs.walk.Watching.{WholeShown}
use Rattle.edf_stream.specs.annotation.Notes.{NoteValue}
use Rattle.edf_findings.specs.Found.{counted_by, shown_by}
use Rattle.edf_findings.specs.declared.looker.Looker.{Looker}
use Rattle.edf_findings.specs.declared.part.ReadPart.{ReadPart}

-- a header that is shown is there, and so is a part where there is one
both-shown : (x : Option Head) (ps : List ReadPart) (kept exported : List NoteValue) (W : WholeShown → Type 0)
    → MatchOption (option_map (λ (head : Head). record { head = head; kept = kept; exported = exported }) x) ⊥ W
    → 0 < length ps → IsTrue (is_some x && nat_lt 0 (length ps))
both-shown None ps kept exported W whole some = absurd whole
both-shown (Some h) ps kept exported W whole some = (Decides-ltb 0 (length ps)).1 some

pub has-some : (looker : Looker) (o : List ℕ) (parts : List (List ℕ)) (claim : ClaimValue) → 0 < length parts → IsLookedOn o parts claim (looked_on [] (counted_by looker) (shown_by looker))
    → IsTrue (is_some looker.original && nat_lt 0 (length looker.parts.items))
has-some looker o parts claim some seen =
    let counted = seen.counted in
    let many : length looker.parts.items ≡ length parts =
    sym (length-map looker.parts.items _) ∙ ap length counted.are ∙ counted_each claim o (head_of o) (neg_ℤ (origin_of o)) (neg_ℤ (origin_of o +ℤ shift_ps claim)) counted.labels beginning parts
    in
    both-shown looker.original looker.parts.items _ _ (λ shown. FollowOneAnother parts → IsWhole o parts claim shown) seen.whole (omega (arith, many, some))
