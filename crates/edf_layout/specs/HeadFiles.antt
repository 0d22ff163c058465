-- The bytes of a header that was read.
use Rattle.std.specs.Prelude.{◌≡◌, ℕ, ◌*◌, List, length, drop, None}
use Rattle.edf_fields.specs.fields.LayoutReading.{fixed_part, columns_part}
use Rattle.edf_header.specs.Conforming.{HeaderConforms}
use Rattle.edf_header.specs.Faults.{header_fault}
use Rattle.edf_header.specs.Heads.{Head, header_bytes}
use Rattle.edf_header.specs.HeadsReading.{head_of}

-- the fixed part is whole, and so are the columns of all signals
pub record IsWhole (front columns : List ℕ) (h : Head) : Type 0 where
  pub front_long : length front ≡ 256
  pub columns_long : length columns ≡ 256 * length h.signals

-- the header of the file has no fault; these are its fixed part and its columns, and the bytes behind it are left
pub record IsHeadFile (file left front columns : List ℕ) (h : Head) : Type 0 where
  pub header : h ≡ head_of file
  pub faultless : header_fault file ≡ None
  pub conforms : HeaderConforms file h
  pub front_is : front ≡ fixed_part file
  pub columns_are : columns ≡ columns_part (length h.signals) file
  pub rest : left ≡ drop (header_bytes h) file
