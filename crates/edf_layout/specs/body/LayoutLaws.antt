-- What a file means and the lines of its layout are the file: there is no third thing in its bytes.
use Rattle.std.specs.Prelude.{◌≡◌, ℕ, ◌↔◌, List, []}
use Rattle.edf_header.specs.Heads.{Head}
use Rattle.edf_stream.specs.Conforming.{Conforms}
use Rattle.edf_layout.specs.HeadLaws.{SayTheSame}
use Rattle.edf_layout.specs.body.BodyLaws.{AreBytes, HaveSameSamples}
use Rattle.edf_layout.specs.body.FileLayouts.{FileLayout, HasLayout, layout_text}
use Rattle.edf_layout.specs.body.MeaningLaws.{HaveSameNotes}
use Rattle.edf_layout.specs.body.PlainOrders.{PlainOrder, IsPlainBody}

-- a file that conforms has a layout, and no other
abbrev pub FileHasOneLayout : Type 0
FileHasOneLayout = (file : List ℕ) (h : Head) → Conforms file h →
    (layout : FileLayout) × HasLayout file h layout
    × ((other : FileLayout) → HasLayout file h other → other ≡ layout)

-- what is written of two files that conform is the same only where they have the same layout
abbrev pub LinesTellLayout : Type 0
LinesTellLayout = (file other : List ℕ) (h g : Head) → Conforms file h → Conforms other g →
    (layout more : FileLayout) → HasLayout file h layout → HasLayout other g more →
    layout_text layout h ≡ layout_text more g → layout ≡ more

-- two files that conform and mean the same, that say the same in their headers and have the same samples and the
-- same annotations, are the same bytes exactly where the lines of their layouts are the same
abbrev pub LinesAndMeaningAreTheFile : Type 0
LinesAndMeaningAreTheFile = (file other : List ℕ) (h g : Head) → AreBytes file → AreBytes other →
    Conforms file h → Conforms other g →
    (layout more : FileLayout) → HasLayout file h layout → HasLayout other g more →
    (file ≡ other)
    ↔ (SayTheSame h g × HaveSameSamples file h other g × HaveSameNotes file h other g
    × (layout_text layout h ≡ layout_text more g))

-- the annotations of a file stand in a plain order exactly where this is the order that fits best and no lane is odd
abbrev pub PlainBodiesHaveNoOddLane : Type 0
PlainBodiesHaveNoOddLane = (file : List ℕ) (h : Head) → Conforms file h → (layout : FileLayout) → HasLayout file h layout → (order : PlainOrder) →
    IsPlainBody order file h ↔ ((layout.order ≡ order) × (layout.odd ≡ []))
