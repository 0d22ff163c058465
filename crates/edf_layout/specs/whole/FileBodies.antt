-- What is kept of a file that was read: its header, and of its data records all but the samples.
use Rattle.std.specs.Prelude.{◌≡◌, ◌<◌, ◌^◌, ℕ, ℤ, unsigned_abs, List, length, map, None, slice_get, slice_index_or, Some}
use Rattle.std.specs.List.Sorted.{IsPermutation}
use Rattle.edf_fields.specs.fields.LayoutReading.{fixed_part, columns_part}
use Rattle.edf_header.specs.Heads.{Head}
use Rattle.edf_header.specs.HeadsReading.{head_of}
use Rattle.edf_stream.specs.Conforming.{Conforms}
use Rattle.edf_stream.specs.Faults.{file_fault}
use Rattle.edf_stream.specs.Views.{note_value}
use Rattle.edf_stream.specs.annotation.Notes.{NoteValue, HasNotes}
use Rattle.edf_stream.specs.records.Records.{record_at, annotation_lanes}
use Rattle.edf_layout.specs.body.MeaningLaws.{AreInOrder}
use Rattle.edf_layout.specs.body.PlainLanes.{AreRising}
use Rattle.edf_layout.specs.body.PlainOrders.{HaveStarts, lane_sizes}
use Rattle.edf_layout.specs.declared.whole.file_body.FileBody.{FileBody}
use Rattle.edf_layout.specs.whole.KeptLanes.{rows_kept}

-- the bytes of the annotation lanes of each data record, which have these sizes: of a bare lane its size and the start of its
-- data record tell them
abbrev pub lanes_kept : List ℕ → FileBody → List (List (List ℕ))
lanes_kept sizes body = rows_kept sizes body.starts.items body.lanes.items

-- the annotations that are kept
abbrev pub notes_kept : FileBody → List NoteValue
notes_kept body = map note_value body.notes.items

-- each start is one that a TAL can have
abbrev pub AreNear : List ℤ → Type 0
AreNear starts = (k : ℕ) (d : ℤ) → k < length starts → unsigned_abs (slice_index_or starts k d) < 10 ^ 21

-- the annotations are in order, no data record starts before the one ahead of it, a TAL can have its start, and each has its
-- lanes
pub record IsSoundBody (body : FileBody) : Type 0 where
  pub in_order : AreInOrder (notes_kept body)
  pub rising : AreRising body.starts.items
  pub near : AreNear body.starts.items
  pub alike : length body.lanes.items ≡ length body.starts.items

-- these are the annotation lanes of the data records of the file
pub record HaveLanes (file : List ℕ) (h : Head) (rows : List (List (List ℕ))) : Type 0 where
  pub count : length rows ≡ h.records
  pub said : (k : ℕ) (lanes : List (List ℕ)) → slice_get rows k ≡ Some lanes
      → lanes ≡ annotation_lanes h.signals (record_at file h k)

-- the file conforms, and this is kept of its data records: all its annotations, in order; where each data record
-- starts; and the annotation lanes of each
pub record IsBody (file : List ℕ) (h : Head) (body : FileBody) : Type 0 where
  pub conforms : Conforms file h
  pub notes : List NoteValue
  pub has_notes : HasNotes file h notes
  pub rearranged : IsPermutation notes (notes_kept body)
  pub has_starts : HaveStarts file h body.starts.items
  pub has_lanes : HaveLanes file h (lanes_kept (lane_sizes h) body)

-- the file has no fault; these are the fixed part of its header and the columns of its signals, what both say, and what is
-- kept of its data records
pub record IsFile (file front columns : List ℕ) (h : Head) (kept : FileBody) : Type 0 where
  pub header : h ≡ head_of file
  pub faultless : file_fault file ≡ None
  pub front_is : front ≡ fixed_part file
  pub columns_are : columns ≡ columns_part (length h.signals) file
  pub body : IsBody file h kept
