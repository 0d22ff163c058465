-- What a Yes leaves open of an export is told by the lines of its layout.
use Rattle.std.proofs.Common.{◌≡◌, ℕ, ℤ, ◌-ℤ◌, ◌+ℤ◌, ◌*ℤ◌, pos, ◌^◌, List, ap, ◌∙◌, sym, subst}
use Rattle.std.specs.List.Sorted.{IsPermutation}
use Rattle.edf_check.specs.Headline.{Headline}
use Rattle.edf_claim.specs.ClaimValues.{ClaimValue}
use Rattle.edf_header.specs.Heads.{Head, day_number}
use Rattle.edf_header.specs.HeadsReading.{head_of, start_second}
use Rattle.edf_header.proofs.ForCallers.{one_head}
use Rattle.edf_stream.specs.Conforming.{Conforms}
use Rattle.edf_stream.specs.annotation.Notes.{HasNotes}
use Rattle.edf_stream.specs.times.Starts.{file_start}
use Rattle.edf_stream.proofs.ForCallers.{conforming_is_faultless, head-is, notes_are_read, sound-of}
use Rattle.edf_pace.specs.Kept.{SamplesAsKept, kept_of, shift_ps, unshifted}
use Rattle.edf_layout.specs.HeadLaws.{SayTheSame}
use Rattle.edf_layout.specs.HeadLayouts.{head_layout_of}
use Rattle.edf_layout.specs.body.BodyLaws.{AreBytes, HaveSameSamples}
use Rattle.edf_layout.specs.body.FileLayouts.{FileLayout, HasLayout, layout_text}
use Rattle.edf_layout.specs.body.MeaningLaws.{HaveSameNotes}
use Rattle.edf_layout.specs.whole.LayoutTexts.{IsLaidOut, IsLayoutText, IsWritten}
use Rattle.edf_layout.proofs.ForCallers.{lines_and_meaning_are_the_file, lines_tell_layout}
use Rattle.edf_verdict.specs.declared.outcome.Outcome.{Outcome}
use Rattle.edf_one_export.specs.Laws.{LinesTellExport, TextTellsExport}
use Rattle.edf_one_export.proofs.InstantFacts.{day-and-clock, day-same, seconds-same}
use Rattle.edf_one_export.proofs.NoteFacts.{notes-same}
use Rattle.edf_one_export.proofs.SampleFacts.{sample-there}
use Rattle.edf_one_export.proofs.SignalFacts.{AreTwinHeads, annotation-texts-same, channel-there, extras-as-many, signals-alike, turned-twins}
use Rattle.edf_one_export.proofs.SubfieldFacts.{AreTwins, patient-same, recording-same}

-- two exports under one claim, of an original with this header
record AreTwinExports (o e f : List ℕ) (h g k : Head) (claim : ClaimValue) : Type 0 where
  conforms : Conforms e g
  also : Conforms f k
  heads : AreTwinHeads h g k claim
  subfields : AreTwins h g k claim
  samples : SamplesAsKept o e h g claim
  more_samples : SamplesAsKept o f h k claim
  layout : head_layout_of e g ≡ head_layout_of f k

samples-same : (o e f : List ℕ) (h g k : Head) (claim : ClaimValue) → AreTwinExports o e f h g k claim → HaveSameSamples e g f k
samples-same o e f h g k claim t x = (
  sample-there o e f h g k claim t.also t.samples t.more_samples (signals-alike e f g k (t.conforms).header (t.also).header t.layout) x,
  sample-there o f e h k g claim t.conforms t.more_samples t.samples (signals-alike f e k g (t.also).header (t.conforms).header (sym t.layout)) x,
)

-- ---- the start

record StartTogether (g k : Head) : Type 0 where
  day : g.day ≡ k.day
  clock : g.clock ≡ k.clock

starts-same : (e f : List ℕ) (g k : Head) → Conforms e g → Conforms f k → HaveSameSamples e g f k → StartTogether g k
starts-same e f g k c d samples =
    let second : start_second g ≡ start_second k = seconds-same e f g k c d samples in
    let one = (sound-of e g c).bounds in
    let two = (sound-of f k d).bounds in
    let parts = day-and-clock (day_number g.day) (day_number k.day) g.clock k.clock one.early two.early second in
    record { day = day-same _ _ _ _ g.day k.day (((c.header).head).day) (((d.header).head).day) parts.0; clock = parts.1 }

-- ---- the headers

say-the-same : (o e f : List ℕ) (h g k : Head) (claim : ClaimValue) → AreTwinExports o e f h g k claim → StartTogether g k → SayTheSame g k
say-the-same o e f h g k claim t start =
    let many = extras-as-many e f g k (t.conforms).header (t.also).header t.layout in
    let one = sound-of e g t.conforms in
    let two = sound-of f k t.also in
    let back : day_number k.day ≡ day_number g.day = ap day_number (sym start.day) in
    record {
      patient = patient-same h g k claim t.subfields many.patient;
      recording = recording-same h g k claim t.subfields one.date two.date ((one.standard).same_day) (λ n named. (two.standard).same_day n named ∙ back) many.recording;
      day = start.day;
      clock = start.clock;
      free = ((t.heads).blank).free ∙ sym ((t.heads).more_blank).free;
      channels = λ texts. (channel-there h g k claim t.heads texts, channel-there h k g claim (turned-twins h g k claim t.heads) texts);
      annotations = annotation-texts-same g k (signals-alike e f g k (t.conforms).header (t.also).header t.layout) (t.heads).blank (t.heads).more_blank;
    }

-- ---- two exports

-- what a second Yes says of the header of the first one's original
twins : (o e f : List ℕ) (claim : ClaimValue) (r : Headline o e claim) (s : Headline o f claim) → s.original_head ≡ r.original_head → head_layout_of e r.export_head ≡ head_layout_of f s.export_head
    → AreTwinExports o e f r.original_head r.export_head s.export_head claim
twins o e f claim r s one layout =
    let h = r.original_head in
    let k = s.export_head in
    record {
      conforms = r.export_conforms;
      also = s.export_conforms;
      heads = record {
        channels = r.channels;
        more_channels = rw (← one) s.channels;
        texts = r.texts;
        more_texts = rw (← one) s.texts;
        calibrations = r.calibrations;
        more_calibrations = rw (← one) s.calibrations;
        blank = r.blank;
        more_blank = s.blank;
      };
      subfields = record { first = r.subfields; second = rw (← one) s.subfields };
      samples = r.samples;
      more_samples = rw (← one) s.samples;
      layout = layout;
    }

one-original : (o e f : List ℕ) (claim : ClaimValue) (r : Headline o e claim) (s : Headline o f claim) → s.original_head ≡ r.original_head
one-original o e f claim r s = one_head o s.original_head r.original_head ((s.original_conforms).header).head ((r.original_conforms).header).head

notes-alike : (o e f : List ℕ) (claim : ClaimValue) (r : Headline o e claim) (s : Headline o f claim) → s.original_head ≡ r.original_head → StartTogether r.export_head s.export_head
    → HaveSameNotes e r.export_head f s.export_head
notes-alike o e f claim r s one start =
    let h = r.original_head in
    let g = r.export_head in
    let k = s.export_head in
    let read = notes_are_read o h r.original_conforms in
    let says : HasNotes o h s.original_notes = subst (λ x. HasNotes o x s.original_notes) one s.original_says in
    let same : s.original_notes ≡ r.original_notes = read.only s.original_notes says ∙ sym (read.only r.original_notes r.original_says) in
    let begun : file_start g ≡ file_start k = ap (λ day. ((pos 86400 *ℤ day_number day) +ℤ pos g.clock) *ℤ pos (10 ^ 12)) start.day ∙ ap (λ clock. ((pos 86400 *ℤ day_number k.day) +ℤ pos clock) *ℤ pos (10 ^ 12)) start.clock in
    let ps : ℤ = file_start g -ℤ (file_start h +ℤ shift_ps claim) in
    let also : ℤ = file_start k -ℤ (file_start s.original_head +ℤ shift_ps claim) in
    let moved : ps ≡ also = ap (λ z. z -ℤ (file_start h +ℤ shift_ps claim)) begun ∙ ap (λ x. file_start k -ℤ (file_start x +ℤ shift_ps claim)) (sym one) in (
      r.export_notes,
      s.export_notes,
      r.export_says,
      s.export_says,
      notes-same ps also (kept_of claim r.original_notes) r.export_notes s.export_notes moved r.annotations
          (subst (λ ns. IsPermutation (kept_of claim ns) (unshifted s.original_head k claim s.export_notes)) same s.annotations),
    )

lines-give : (o e f : List ℕ) (claim : ClaimValue) → AreBytes e → AreBytes f → (r : Headline o e claim) → (s : Headline o f claim) → (l m : FileLayout)
    → HasLayout e r.export_head l → HasLayout f s.export_head m → layout_text l r.export_head ≡ layout_text m s.export_head → e ≡ f
lines-give o e f claim p q r s l m a b same =
    let g = r.export_head in
    let k = s.export_head in
    let one = one-original o e f claim r s in
    let is : l ≡ m = lines_tell_layout e f g k r.export_conforms s.export_conforms l m a b same in
    let layout : head_layout_of e g ≡ head_layout_of f k = sym a.head ∙ ap (λ (x : FileLayout). x.head) is ∙ b.head in
    let t = twins o e f claim r s one layout in
    let samples = samples-same o e f r.original_head g k claim t in
    let start = starts-same e f g k r.export_conforms s.export_conforms samples in
    (lines_and_meaning_are_the_file e f g k p q r.export_conforms s.export_conforms l m a b).1
    (say-the-same o e f r.original_head g k claim t start, samples, notes-alike o e f claim r s one start, same)

pub lines_tell_export : LinesTellExport
lines_tell_export o e f claim p q r s l m a b = (
  λ same. ((lines_and_meaning_are_the_file e f r.export_head s.export_head p q r.export_conforms s.export_conforms l m a b).0 same).3,
  λ same. lines-give o e f claim p q r s l m a b same,
)

-- what is written of a file that conforms is the text of its layout
laid-out : (file : List ℕ) (h : Head) → Conforms file h → (text : List ℕ) (outcome : Outcome) → IsLayoutText file text outcome → IsLaidOut file h text outcome
laid-out file h c text outcome written =
    let none = (conforming_is_faultless file).1 (h, c) in
    let is = (head-is file h c.header).1 in
    let own : IsLaidOut file (head_of file) text outcome = subst (λ o. IsWritten o file text outcome) none written in
    subst (λ x. IsLaidOut file x text outcome) (sym is) own

pub text_tells_export : TextTellsExport
text_tells_export o e f claim p q r s text written outcome result x y =
    let one = laid-out e r.export_head r.export_conforms text outcome x in
    let two = laid-out f s.export_head s.export_conforms written result y in
    let law = lines_tell_export o e f claim p q r s one.layout two.layout one.has_layout two.has_layout in (
      λ same. (one.is_text).text_is ∙ law.0 same ∙ sym (two.is_text).text_is,
      λ same. law.1 (sym (one.is_text).text_is ∙ same ∙ (two.is_text).text_is),
    )
