-- TALs and their layout, as the code holds them.
use Rattle.std.specs.Option.{option_map}
use Rattle.edf_layout.specs.body.BodyLayouts.{TalContent, KeepsTime, SaysNothing, Annotates, PlacedTal}
use Rattle.edf_layout.specs.declared.laid_tal.Content.{Content}
use Rattle.edf_layout.specs.declared.laid_tal.Content.TheVariants as contents
use Rattle.edf_layout.specs.declared.laid_tal.LaidTal.{LaidTal}
use Rattle.edf_layout.specs.declared.lane_layout.Spelling.{Spelling}
use Rattle.edf_layout.specs.body.LaneLayouts.{TalLayout}

-- what a TAL says
abbrev pub content_view : Content → TalContent
content_view (contents.KeepsTime duration places) = KeepsTime duration places.items
content_view (contents.SaysNothing onset duration) = SaysNothing onset duration
content_view (contents.Annotates places) = Annotates places.items

-- a TAL with the layout of its spelling
abbrev pub laid_view : LaidTal → PlacedTal
laid_view tal = record {
  spelling = record { onset = option_map (λ text. text.now) tal.onset; duration = option_map (λ text. text.now) tal.duration };
  content = content_view tal.content;
}

-- how a TAL is spelled
abbrev pub spelling_view : Spelling → TalLayout
spelling_view spelling = record { onset = option_map (λ text. text.now) spelling.onset; duration = option_map (λ text. text.now) spelling.duration }
