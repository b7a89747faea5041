use Rattle.bicep_machine.specs.Views.{kept, frames_of}
use Rattle.bicep_parser.proofs.StepLemmas.{paused-other}
use Rattle.bicep_parser.proofs.stepping.go_on_paused.Goals as goal

pub returns-in_default : goal.returns-in_default
returns-in_default c =
    let e = paused-other (kept c.args.e) (frames_of c.args.stack.now.items) c.args.at c.args.terminal
    c.in_default.not-Newline c.in_default.not-Question c.in_default.not-Colon in
    rw e c.end_paused.ensures
