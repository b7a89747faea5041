use Rattle.bicep_machine.specs.Views.{frames_of}
use Rattle.bicep_expressions.proofs.StepLemmas.{item-other}
use Rattle.bicep_expressions.proofs.expressions.item.Goals as goal

pub returns-in_default : goal.returns-in_default
returns-in_default c =
    let e = item-other (frames_of c.args.stack.now.items) c.args.at c.args.terminal c.in_default.not-Newline
    c.in_default.not-Comma c.in_default.not-CloseBracket in
    rw e c.begin.ensures
