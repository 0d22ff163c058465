-- When the header of a file is in order.
use Rattle.std.specs.Prelude.{◌≡◌, ℕ, pos, ◌≤◌, ◌<◌, List, length, codes, take}
use Rattle.edf_fields.specs.Parts.{text_of}
use Rattle.edf_fields.specs.texts.Numbers.{SpellsWhole}
use Rattle.edf_fields.specs.declared.fields.layout.FixedField.TheVariants as fixed
use Rattle.edf_fields.specs.fields.Layout.{fixed_field}
use Rattle.edf_header.specs.Heads.{Head, HasHead, header_bytes}
use Rattle.edf_header.specs.Standard.{MeetsStandard}
use Rattle.edf_fields.specs.texts.Printable.{IsPrintable}

-- the header of a file is in order: all of it is there, in printable ASCII; the version is 0; its size is that of its fixed part and its signals; its fields say a header, which meets the standard
pub record HeaderConforms (file : List ℕ) (h : Head) : Type 0 where
  pub whole : header_bytes h ≤ length file
  pub printable : IsPrintable (take (header_bytes h) file)
  pub version : text_of (fixed_field file fixed.Version) ≡ codes "0"
  pub size : SpellsWhole (text_of (fixed_field file fixed.HeaderBytes)) (pos (header_bytes h))
  pub head : HasHead file h
  pub standard : MeetsStandard h
