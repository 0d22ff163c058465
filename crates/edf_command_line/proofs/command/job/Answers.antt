use Rattle.std.proofs.Common.{map, ap, ◌∙◌, ◌≤◌, length, arith, subst, sym}
use Rattle.std.proofs.lemmas.List.{length-map}
use Rattle.clap.specs.Lexer.{usize_max}
use Rattle.clap.specs.Simple.{App}
use Rattle.clap.specs.Takes.{takes}
use Rattle.edf_command_line.proofs.LineFacts.{taken}
use Rattle.edf_command_line.proofs.command.job.Goals as goal

pub returns-clause-fault : goal.returns-clause-fault
returns-clause-fault c = λ plain other j says.
    let w = c.well_formed in
    let bound : length c.args.words.now ≤ usize_max = omega (arith, w) in
    let small : length (map (λ w. w.now) c.args.words.now) ≤ usize_max = subst (λ n. n ≤ usize_max) (sym (length-map c.args.words.now (λ w. w.now))) bound in
    other (c.in-Err.ensures.passes (ap (λ (a : App). takes a (map (λ w. w.now) c.args.words.now)) c.in_ok-command.ensures
    ∙ taken (map (λ w. w.now) c.args.words.now) j small plain says))
