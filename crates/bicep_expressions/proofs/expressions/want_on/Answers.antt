use Rattle.bicep_machine.specs.Views.{frames_of}
use Rattle.bicep_expressions.proofs.StepLemmas.{wanted-other}
use Rattle.bicep_expressions.proofs.expressions.want_on.Goals as goal

pub returns-in_default : goal.returns-in_default
returns-in_default c =
    let e = wanted-other c.args.skips c.args.inside (frames_of c.args.stack.now.items) c.args.at c.args.terminal
    c.in_default.not-Newline in
    rw e c.begin-in_default.ensures
