-- What a file means and its layout are the file: there is no third thing in its bytes.
use Rattle.std.specs.Prelude.{◌≡◌, ℕ, ◌↔◌, List, Some, slice_get}
use Rattle.std.specs.List.Sorted.{IsPermutation, IsSorted}
use Rattle.edf_fields.specs.Lists.{Has}
use Rattle.edf_header.specs.Heads.{Head}
use Rattle.edf_stream.specs.Conforming.{Conforms}
use Rattle.edf_stream.specs.annotation.Notes.{NoteValue, HasNotes}
use Rattle.edf_layout.specs.body.BodyLaws.{AreBytes, HaveSameSamples}
use Rattle.edf_layout.specs.body.BodyLayouts.{BodyLayout, HasBodyLayout}
use Rattle.edf_layout.specs.HeadLaws.{SayTheSame}
use Rattle.edf_layout.specs.HeadLayouts.{head_layout_of}
use Rattle.edf_layout.specs.body.NoteOrders.{note_cmp, place_of}

-- no annotation comes before one that stands ahead of it
abbrev pub AreInOrder : List NoteValue → Type 0
AreInOrder notes = IsSorted note_cmp notes

-- annotations are put in order in one way
abbrev pub OneOrder : Type 0
OneOrder = (notes others : List NoteValue) → IsPermutation notes others → AreInOrder notes → AreInOrder others →
    notes ≡ others

-- and an annotation stands at its place there
abbrev pub PlacesTell : Type 0
PlacesTell = (notes ordered : List NoteValue) (note : NoteValue) → IsPermutation notes ordered →
    AreInOrder ordered → Has notes note → slice_get ordered (place_of notes note) ≡ Some note

-- each annotation stands equally often in both files
abbrev pub HaveSameNotes : List ℕ → Head → List ℕ → Head → Type 0
HaveSameNotes file h other g =
    (notes : List NoteValue) × (others : List NoteValue)
    × HasNotes file h notes × HasNotes other g others × IsPermutation notes others

-- the data records of both files have one layout
abbrev pub HaveSameBodyLayout : List ℕ → Head → List ℕ → Head → Type 0
HaveSameBodyLayout file h other g =
    (layout : BodyLayout) × HasBodyLayout file h layout × HasBodyLayout other g layout

-- the data records of a file that conforms have a layout, and no other
abbrev pub BodyHasOneLayout : Type 0
BodyHasOneLayout = (file : List ℕ) (h : Head) → Conforms file h →
    (layout : BodyLayout) × HasBodyLayout file h layout
    × ((other : BodyLayout) → HasBodyLayout file h other → other ≡ layout)

-- two files that conform are the same bytes exactly where their headers say the same and have the same
-- layout, they have the same samples and the same annotations, and their data records have the same layout
abbrev pub LayoutAndMeaningAreTheFile : Type 0
LayoutAndMeaningAreTheFile = (file other : List ℕ) (h g : Head) → AreBytes file → AreBytes other →
    Conforms file h → Conforms other g →
    (file ≡ other)
    ↔ (SayTheSame h g × (head_layout_of file h ≡ head_layout_of other g) × HaveSameSamples file h other g
    × HaveSameNotes file h other g × HaveSameBodyLayout file h other g)
