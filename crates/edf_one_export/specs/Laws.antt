-- What a Yes leaves open of an export is told by the lines of its layout: there is no third thing in its
-- bytes.
use Rattle.std.specs.Prelude.{◌≡◌, ℕ, ◌↔◌, List}
use Rattle.edf_check.specs.Headline.{Headline}
use Rattle.edf_claim.specs.ClaimValues.{ClaimValue}
use Rattle.edf_layout.specs.body.BodyLaws.{AreBytes}
use Rattle.edf_layout.specs.body.FileLayouts.{FileLayout, HasLayout, layout_text}
use Rattle.edf_layout.specs.whole.LayoutTexts.{IsLayoutText}
use Rattle.edf_verdict.specs.declared.outcome.Outcome.{Outcome}

-- two exports of one original under one claim are the same bytes exactly where the lines of their layouts are
-- the same
abbrev pub LinesTellExport : Type 0
LinesTellExport = (original export other : List ℕ) (claim : ClaimValue) → AreBytes export → AreBytes other →
    (yes : Headline original export claim) → (too : Headline original other claim) →
    (layout more : FileLayout) →
    HasLayout export yes.export_head layout → HasLayout other too.export_head more →
    (export ≡ other) ↔ (layout_text layout yes.export_head ≡ layout_text more too.export_head)

-- the same of what `layout` writes of them
abbrev pub TextTellsExport : Type 0
TextTellsExport = (original export other : List ℕ) (claim : ClaimValue) → AreBytes export → AreBytes other →
    Headline original export claim → Headline original other claim →
    (text written : List ℕ) (outcome result : Outcome) →
    IsLayoutText export text outcome → IsLayoutText other written result →
    (export ≡ other) ↔ (text ≡ written)
