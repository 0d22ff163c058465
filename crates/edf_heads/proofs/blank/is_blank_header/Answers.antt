use Rattle.std.proofs.Common.{◌==◌, ◌&&◌, ◌∙◌, ap, sym, length}
use Rattle.std.specs.List.{list_all}
use Rattle.edf_heads.specs.Comparisons.{is_blank_signal}
use Rattle.edf_heads.proofs.ContentFacts.{blank_decided}
use Rattle.edf_heads.proofs.blank.is_blank_header.Goals as goal

pub returns-then-is_empty : goal.returns-then-is_empty
returns-then-is_empty c =
    blank_decided c.args.header.now c.are_blank_signals.result
    (c.are_blank_signals.ensures ∙ ap (list_all is_blank_signal) c.signals.ensures.signals
    ∙ ap (λ b. b && list_all is_blank_signal c.args.header.now.signals) (sym (sym (ap (λ xs. length xs == 0) c.free.ensures) ∙ sym c.is_empty.ensures ∙ c.if-is_empty.true)))
