-- The text of a file's annotations, and how far it was written.
use Rattle.std.proofs.Common.{arith, ◌≡◌, ℕ, zero, suc, ◌+◌, ◌-◌, ◌≤◌, List, [], ◌∷◌, ◌++◌, Some, None, Result, Ok, Err, IfOk, OnErr, sym, ap, ◌∙◌, subst, append_assoc}
use Rattle.std.proofs.lemmas.List.{append-nil}
use Rattle.std.proofs.lemmas.Bool.Decides.{nat_tests}
use Rattle.edf_fields.specs.in_out.Sinks.{HoldsPrefix}
use Rattle.edf_fields.specs.Tests.{first}
use Rattle.edf_fields.specs.declared.faults.fault.Fault.{Fault}
use Rattle.edf_header.specs.declared.stop.Stop.{Stop}
use Rattle.edf_header.specs.declared.stop.Stop.TheVariants as reads
use Rattle.edf_header.specs.Faults.{header_fault}
use Rattle.edf_header.specs.Heads.{Head}
use Rattle.edf_header.specs.HeadsReading.{head_of}
use Rattle.edf_header.specs.Stops.{Stops}
use Rattle.edf_stream.specs.annotation.Notes.{NoteValue}
use Rattle.edf_stream.specs.annotation.NotesReading.{notes_in}
use Rattle.edf_stream.specs.records.Records.{record_at}
use Rattle.edf_stream.specs.Faults.{body_fault, file_fault, records_before, records_before_place}
use Rattle.edf_stream.specs.records.Readers.{HasPassed, StopsReading, StopsAt, place_behind}
use Rattle.edf_stream.proofs.ForCallers.{fault_is_of_body, passed_stand_before}
use Rattle.edf_verdict.specs.declared.outcome.Outcome.{Outcome}
use Rattle.edf_verdict.specs.declared.outcome.Outcome.TheVariants as outcomes
use Rattle.edf_report.specs.declared.notes.Lines.{Lines}
use Rattle.edf_report.specs.NotesKept.{GotLines, AreLinesOf}
use Rattle.edf_report.specs.NotesTexts.{note_lines, note_lines_before, body_text, notes_text}
use Rattle.edf_report.specs.Reports.{fault_line, stop_line, text_or_fault, outcome_of_fault, IsReported, IsStopWritten}
use Rattle.edf_report.proofs.ReportFacts.{further}

-- the lines of more data records begin with those of fewer
more : (file : List ℕ) (h : Head) (k m : ℕ) → (rest : List ℕ) × (note_lines_before file h (m + k) ≡ note_lines_before file h k ++ rest)
more file h k zero = ([], (let e : 0 + k ≡ k = omega arith in ap (note_lines_before file h) e) ∙ sym (append-nil (note_lines_before file h k)))
more file h k (suc m) =
    let before = more file h k m in
    let here = note_lines (notes_in h (record_at file h (m + k))) in
    let e : suc m + k ≡ suc (m + k) = omega arith in
    (before.0 ++ here, ap (note_lines_before file h) e ∙ ap (λ xs. xs ++ here) before.1 ∙ append_assoc (note_lines_before file h k) before.0 here)

-- the lines of data records that pass are a front of the text
pub begins : (file : List ℕ) (h : Head) (k : ℕ) → HasPassed file h k → (rest : List ℕ) × (body_text file h ≡ note_lines_before file h k ++ rest)
unfolding body_text
begins file h k passed =
    let n = records_before h (body_fault file h) in
    let le : k ≤ n = passed_stand_before file h k passed in
    let e : n ≡ (n - k) + k = omega (arith, le) in
    let lines = more file h k (n - k) in
    let end = text_or_fault [] (body_fault file h) in
    (lines.0 ++ end, ap (λ j. note_lines_before file h j ++ end) e ∙ ap (λ xs. xs ++ end) lines.1 ∙ append_assoc (note_lines_before file h k) lines.0 end)

-- all of it, where the file ends
pub whole : (file : List ℕ) (h : Head) (k : ℕ) → HasPassed file h k → k ≡ h.records → body_fault file h ≡ None → body_text file h ≡ note_lines_before file h k
unfolding body_text
whole file h k passed all none =
    ap (λ o. note_lines_before file h (records_before h o) ++ text_or_fault [] o) none
    ∙ append-nil (note_lines_before file h h.records)
    ∙ ap (note_lines_before file h) (sym all)

-- the place behind k records has k records before it
stands_behind : (h : Head) (k : ℕ) → k ≤ h.records → records_before_place h (place_behind h k) ≡ k
stands_behind h k le = grind (arith, nat_tests, le)

-- and with the line of the fault that is found behind k data records
pub stopped : (file : List ℕ) (h : Head) (k : ℕ) (f : Fault) → HasPassed file h k → body_fault file h ≡ Some f → f.place ≡ place_behind h k
    → body_text file h ≡ note_lines_before file h k ++ fault_line f
unfolding body_text
stopped file h k f passed found place =
    ap (λ o. note_lines_before file h (records_before h o) ++ text_or_fault [] o) found
    ∙ ap (λ n. note_lines_before file h n ++ fault_line f) (ap (records_before_place h) place ∙ stands_behind h k passed.within)

-- what is written behind one data record more
pub written_more : (file : List ℕ) (h new_head : Head) (k n : ℕ) (old middle new current : List ℕ)
    → middle ≡ old ++ note_lines_before file h k → new ≡ middle ++ note_lines (notes_in new_head current)
    → new_head ≡ h → current ≡ record_at file h k → n ≡ k + 1
    → new ≡ old ++ note_lines_before file h n
written_more file h new_head k n old middle new current before here head is next =
    let lines = note_lines_before file h k in
    let suc-k : n ≡ suc k = omega (arith, next) in
    here
    ∙ ap (λ x. middle ++ note_lines (notes_in x current)) head
    ∙ ap (λ bytes. middle ++ note_lines (notes_in h bytes)) is
    ∙ ap (λ xs. xs ++ note_lines (notes_in h (record_at file h k))) before
    ∙ append_assoc old lines (note_lines (notes_in h (record_at file h k)))
    ∙ ap (λ m. old ++ note_lines_before file h m) (sym suc-k)

-- where a front of a data record's lines was written
pub record_part : (file : List ℕ) (h new_head : Head) (k n : ℕ) (old middle new current : List ℕ)
    → middle ≡ old ++ note_lines_before file h k → HoldsPrefix middle new (note_lines (notes_in new_head current))
    → new_head ≡ h → current ≡ record_at file h k → n ≡ k + 1 → HasPassed file h n
    → HoldsPrefix old new (body_text file h)
record_part file h new_head k n old middle new current before held head is next passed =
    let lines = note_lines_before file h k in
    let here = note_lines (notes_in h (record_at file h k)) in
    let suc-k : n ≡ suc k = omega (arith, next) in
    let all = begins file h n passed in
    let text : body_text file h ≡ lines ++ (here ++ all.0) = all.1 ∙ ap (λ m. note_lines_before file h m ++ all.0) suc-k ∙ append_assoc lines here all.0 in
    let same : note_lines (notes_in new_head current) ≡ here = ap (λ x. note_lines (notes_in x current)) head ∙ ap (λ bytes. note_lines (notes_in h bytes)) is in
    subst (HoldsPrefix old new) (sym text)
    (further old new lines here all.0 (subst (λ xs. HoldsPrefix xs new here) before (subst (HoldsPrefix middle new) same held)))

-- where the file ends
pub ended : (file : List ℕ) (h : Head) (k : ℕ) (old new : List ℕ) → new ≡ old ++ note_lines_before file h k → HasPassed file h k → k ≡ h.records → body_fault file h ≡ None
    → IsReported (body_text file h) (body_fault file h) old new outcomes.Yes
ended file h k old new before passed all none = (before ∙ ap (λ xs. old ++ xs) (sym (whole file h k passed all none)), ap outcome_of_fault (sym none))

-- where a fault was found, and its line written
pub stop_reported : (P : Fault → Type 0) (A : Type 0) (file : List ℕ) (h : Head) (k : ℕ) (stop : Stop) (old middle new : List ℕ) (outcome : Outcome)
    → StopsReading P A stop → ((f : Fault) → P f → body_fault file h ≡ Some f) → StopsAt (place_behind h k) stop → HasPassed file h k
    → middle ≡ old ++ note_lines_before file h k → IsStopWritten stop middle new outcome
    → IsReported (body_text file h) (body_fault file h) old new outcome
stop_reported P A file h k reads.OutOfMemory old middle new outcome said found place passed before written = absurd written
stop_reported P A file h k reads.ReadFailed old middle new outcome said found place passed before written = absurd written
stop_reported P A file h k (reads.Fault f) old middle new outcome said found place passed before written =
    let lines = note_lines_before file h k in
    let here = found f said in (
      written.0 ∙ ap (λ xs. xs ++ fault_line f) before ∙ append_assoc old lines (fault_line f) ∙ ap (λ xs. old ++ xs) (sym (stopped file h k f passed here place)),
      written.1 ∙ ap outcome_of_fault (sym here),
    )

-- where reading stopped, and a front of the fault's line was written, if there is a fault
pub stop_part : (P : Fault → Type 0) (A : Type 0) (file : List ℕ) (h : Head) (k : ℕ) (stop : Stop) (old middle new : List ℕ)
    → StopsReading P A stop → ((f : Fault) → P f → body_fault file h ≡ Some f) → StopsAt (place_behind h k) stop → HasPassed file h k
    → middle ≡ old ++ note_lines_before file h k → HoldsPrefix middle new (stop_line stop)
    → HoldsPrefix old new (body_text file h)
stop_part P A file h k reads.OutOfMemory old middle new said found place passed before held = absurd said
stop_part P A file h k reads.ReadFailed old middle new said found place passed before held =
    let all = begins file h k passed in
    subst (HoldsPrefix old new) (sym all.1) (further old new (note_lines_before file h k) [] all.0 (subst (λ xs. HoldsPrefix xs new []) before held))
stop_part P A file h k (reads.Fault f) old middle new said found place passed before held =
    let lines = note_lines_before file h k in
    let text : body_text file h ≡ lines ++ (fault_line f ++ []) = stopped file h k f passed (found f said) place ∙ ap (λ xs. lines ++ xs) (sym (append-nil (fault_line f))) in
    subst (HoldsPrefix old new) (sym text) (further old new lines (fault_line f) [] (subst (λ xs. HoldsPrefix xs new (fault_line f)) before held))

-- where the header has no fault, the text is that of what stands behind it
pub is_body : (file : List ℕ) (h : Head) → h ≡ head_of file → header_fault file ≡ None → notes_text file ≡ body_text file h
unfolding notes_text
is_body file h is none = ap (text_or_fault (body_text file (head_of file))) none ∙ ap (body_text file) (sym is)

-- what is reported of what stands behind the header is reported of the file
pub file_reported : (file : List ℕ) (h : Head) (old new : List ℕ) (outcome : Outcome) → h ≡ head_of file → header_fault file ≡ None
    → IsReported (body_text file h) (body_fault file h) old new outcome → IsReported (notes_text file) (file_fault file) old new outcome
file_reported file h old new outcome is none said =
    (said.0 ∙ ap (λ xs. old ++ xs) (sym (is_body file h is none)), said.1 ∙ ap outcome_of_fault (sym (fault_is_of_body file h is none)))

-- a fault of the header is that of the file
header_first : (file : List ℕ) (f : Fault) → header_fault file ≡ Some f → file_fault file ≡ Some f
unfolding file_fault
header_first file f found = ap (λ o. first (o ∷ body_fault file (head_of file) ∷ [])) found

-- and its line is the whole text
header_line : (file : List ℕ) (f : Fault) → header_fault file ≡ Some f → notes_text file ≡ fault_line f
unfolding notes_text
header_line file f found = ap (text_or_fault (body_text file (head_of file))) found

pub header_reported : (honest rises same : Type 0) (file : List ℕ) (stop : Stop) (old new : List ℕ) (outcome : Outcome)
    → Stops (λ f. honest → header_fault file ≡ Some f) rises same stop → honest → IsStopWritten stop old new outcome
    → IsReported (notes_text file) (file_fault file) old new outcome
header_reported honest rises same file reads.OutOfMemory old new outcome said h written = absurd written
header_reported honest rises same file reads.ReadFailed old new outcome said h written = absurd written
header_reported honest rises same file (reads.Fault f) old new outcome said h written = (
  written.0 ∙ ap (λ xs. old ++ xs) (sym (header_line file f (said.0 h))),
  written.1 ∙ ap outcome_of_fault (sym (header_first file f (said.0 h))),
)

-- where nothing was to be written
none_part : (old new text : List ℕ) → HoldsPrefix old new [] → HoldsPrefix old new text
none_part old new text held = further old new [] [] text (subst (λ xs. HoldsPrefix xs new []) (sym (append-nil old)) held)

pub header_part : (honest rises same : Type 0) (file : List ℕ) (stop : Stop) (old new : List ℕ)
    → Stops (λ f. honest → header_fault file ≡ Some f) rises same stop → honest → HoldsPrefix old new (stop_line stop)
    → HoldsPrefix old new (notes_text file)
header_part honest rises same file reads.OutOfMemory old new said h held = none_part old new (notes_text file) held
header_part honest rises same file reads.ReadFailed old new said h held = none_part old new (notes_text file) held
header_part honest rises same file (reads.Fault f) old new said h held = subst (HoldsPrefix old new) (sym (header_line file f (said.0 h))) held

-- an answer of which less is said
pub if-ok : {T E : Type 0} (r : Result T E) (P Q : T → Type 0) → IfOk r P → ((x : T) → P x → Q x) → IfOk r Q
if-ok (Ok x) P Q is weaker = weaker x is
if-ok (Err e) P Q is weaker = tt

pub on-err : {T E : Type 0} (r : Result T E) (A B : Type 0) → OnErr r A → (A → B) → OnErr r B
on-err (Ok x) A B is weaker = tt
on-err (Err e) A B is weaker = weaker is

pub said-on-err : {T E : Type 0} (r : Result T E) (A : Type 0) → A → OnErr r A
said-on-err (Ok x) A a = tt
said-on-err (Err e) A a = a

-- lines that were made in an empty place
pub lines-made : (before after : Lines) (notes : List NoteValue) → before.text.items ≡ [] → GotLines before notes after → AreLinesOf after notes
lines-made before after notes empty got = λ whole. (got whole).1 ∙ ap (λ front. front ++ note_lines notes) empty
