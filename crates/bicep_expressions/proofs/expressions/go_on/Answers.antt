use Rattle.bicep_machine.specs.Views.{kept, frames_of}
use Rattle.bicep_expressions.proofs.StepLemmas.{gone_on-other}
use Rattle.bicep_expressions.proofs.expressions.go_on.Goals as goal

pub returns-in_default : goal.returns-in_default
returns-in_default c =
    let d = c.in_default in
    let e = gone_on-other (kept c.args.e) c.args.inside (frames_of c.args.stack.now.items) c.args.terminal
    d.not-Access d.not-OpenBracket d.not-SafeBracket d.not-Not d.not-Operator d.not-Question d.not-Newline
    d.not-Name in
    rw e c.end.ensures
