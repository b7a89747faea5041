use Rattle.lack_faults.proofs.LackLemmas.{line_missing, line_fault}
use Rattle.lack_faults.proofs.lacking.late_fault.Goals as goal

pub late_key-requires-clause-missing : goal.late_key-requires-clause-missing
late_key-requires-clause-missing c =
    line_missing c.args.table.now c.requires.filled c.args.path c.args.at c.requires.lack

pub returns-in-Ok : goal.returns-in-Ok
returns-in-Ok c = λ mode held.
    line_fault c.args.table.now c.requires.filled c.args.path mode held c.args.at c.in-Ok.key c.requires.lack
    c.in-Ok.ensures
