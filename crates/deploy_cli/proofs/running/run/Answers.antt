use Rattle.deploy_cli.specs.Clauses as spec
use Rattle.deploy_cli.proofs.CliLemmas.{ran_by}
use Rattle.deploy_cli.proofs.running.run.Goals as goal

pub returns-clause-theorem : goal.returns-clause-theorem
returns-clause-theorem g c =
    let tree = g.T.Tree in
    let out = g.O.Sink in
    let k = c.command_of-command in
    let done = c.carried_out-outcome in
    let seats = spec.seats_in g.P.Provider.faults g.P.Provider.calls in
    ran_by
    (spec.outside (tree.file c.args.tree.now) tree.tells_files g.P.Provider.may g.P.Provider.tells
    out.tells_written)
    (spec.moment (tree.faults c.args.tree.now) (seats c.args.seats.now) (out.faults c.args.out.now)
    (out.written c.args.out.now))
    (spec.moment (tree.faults done.new.tree) (seats done.new.seats) (out.faults c.ended.new.out)
    (out.written c.ended.new.out))
    (spec.bytes_of c.args.words.now) k.result done.result c.ended.result k.ensures
    (done.ensures.does out.tells_written (tree.faults c.args.tree.now) (tree.faults done.new.tree)
    (out.faults c.args.out.now) (out.faults c.ended.new.out) (out.written c.args.out.now)
    (out.written c.ended.new.out))
    done.ensures.tree c.ended.ensures.says c.ended.ensures.handed
