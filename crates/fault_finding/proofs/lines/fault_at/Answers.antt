use Rattle.fault_finding.proofs.LineLemmas.{broken_at, spot_read}
use Rattle.fault_finding.proofs.lines.fault_at.Goals as goal

pub value_fault-fault-requires-clause-broken : goal.value_fault-fault-requires-clause-broken
value_fault-fault-requires-clause-broken c =
    let t = c.args.register.now.table in
    broken_at t c.args.at c.requires.complete.ready c.requires.filled c.requires.listed c.requires.refused
    c.index.result.now.spot c.args.path c.in-Ok.value
    (spot_read t c.args.at c.index.result.now c.requires.listed c.index.ensures) c.requires.path c.in-Ok.ensures
