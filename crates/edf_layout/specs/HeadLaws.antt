-- What a header says and its layout are the header: there is no third thing in its bytes.
use Rattle.std.specs.Prelude.{◌≡◌, ℕ, ◌↔◌, false, List, Some, slice_get, take, map, filter}
use Rattle.edf_header.specs.Conforming.{HeaderConforms}
use Rattle.edf_header.specs.Heads.{SignalHead, Head, is_annotations, header_bytes}
use Rattle.edf_layout.specs.HeadLayouts.{head_layout_of}
use Rattle.edf_layout.specs.HeadReports.{head_layout_text}

-- the texts of a signal that are no layout
pub record SignalTexts : Type 0 where
  pub label : List ℕ
  pub transducer : List ℕ
  pub dimension : List ℕ
  pub prefilter : List ℕ
  pub reserved : List ℕ

abbrev pub texts_of : SignalHead → SignalTexts
texts_of head = record { label = head.label; transducer = head.transducer; dimension = head.dimension; prefilter = head.prefilter; reserved = head.reserved }

-- one of the channels has these texts
abbrev pub HasChannel : List SignalHead → SignalTexts → Type 0
HasChannel signals texts = (s : ℕ) × (head : SignalHead) × (slice_get signals s ≡ Some head) × (is_annotations head.label ≡ false) × (texts_of head ≡ texts)

-- the texts of the annotation signals, in their order
abbrev pub annotation_texts : List SignalHead → List SignalTexts
annotation_texts signals = map texts_of (filter (λ head. is_annotations head.label) signals)

-- two headers say the same besides their layout: patient, recording, start, free text, and the texts of each channel, in whatever
-- order the channels stand, and of the annotation signals
pub record SayTheSame (h g : Head) : Type 0 where
  pub patient : h.patient ≡ g.patient
  pub recording : h.recording ≡ g.recording
  pub day : h.day ≡ g.day
  pub clock : h.clock ≡ g.clock
  pub free : h.free ≡ g.free
  pub channels : (texts : SignalTexts) → HasChannel h.signals texts ↔ HasChannel g.signals texts
  pub annotations : annotation_texts h.signals ≡ annotation_texts g.signals

-- the bytes of the header of a file
abbrev pub header_of : List ℕ → Head → List ℕ
header_of file h = take (header_bytes h) file

-- two headers in order have the same bytes exactly where they say the same and have the same layout
abbrev pub LayoutIsTheRest : Type 0
LayoutIsTheRest = (file other : List ℕ) (h g : Head) → HeaderConforms file h → HeaderConforms other g →
    (header_of file h ≡ header_of other g) ↔ (SayTheSame h g × (head_layout_of file h ≡ head_layout_of other g))

-- what is written of two headers in order is the same only where they have the same layout
abbrev pub TextTellsLayout : Type 0
TextTellsLayout = (file other : List ℕ) (h g : Head) → HeaderConforms file h → HeaderConforms other g →
    head_layout_text file ≡ head_layout_text other → head_layout_of file h ≡ head_layout_of other g
