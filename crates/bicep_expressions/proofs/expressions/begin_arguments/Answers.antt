use Rattle.bicep_machine.specs.Views.{frames_of}
use Rattle.bicep_expressions.proofs.StepLemmas.{first-other}
use Rattle.bicep_expressions.proofs.expressions.begin_arguments.Goals as goal

pub returns-in_default : goal.returns-in_default
returns-in_default c =
    let e = first-other c.args.inside (frames_of c.args.stack.now.items) c.args.at c.args.terminal
    c.in_default.not-CloseParen in
    rw e c.begin.ensures
