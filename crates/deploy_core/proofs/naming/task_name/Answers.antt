use Rattle.std.specs.Prelude.{slice_get}
use Rattle.deploy_core.proofs.NameLemmas.{scope_there, scope_left, named_enter, named_leave, if_ok}
use Rattle.deploy_core.proofs.naming.task_name.Goals as goal

pub scope_name-requires-clause-scope : goal.scope_name-requires-clause-scope
scope_name-requires-clause-scope g c =
    scope_there (slice_get (g.S.Standings.planned c.args.standings.now).tasks c.args.task) c.kind.result c.kind.ensures
    c.in-Enter.is

pub scope_name-requires-in-Leave-clause-scope : goal.scope_name-requires-in-Leave-clause-scope
scope_name-requires-in-Leave-clause-scope g c =
    scope_left (slice_get (g.S.Standings.planned c.args.standings.now).tasks c.args.task) c.kind.result c.kind.ensures
    c.in-Leave.is

pub returns-in-Enter : goal.returns-in-Enter
returns-in-Enter g c =
    if_ok (λ t n. named_enter g.S.Standings.titled (g.S.Standings.planned c.args.standings.now) t
    (slice_get (g.S.Standings.planned c.args.standings.now).tasks c.args.task) c.kind.result c.kind.ensures
    c.in-Enter.is n) c.scope_name.result c.scope_name.ensures

pub returns-in-Leave : goal.returns-in-Leave
returns-in-Leave g c =
    if_ok (λ t n. named_leave g.S.Standings.titled (g.S.Standings.planned c.args.standings.now) t
    (slice_get (g.S.Standings.planned c.args.standings.now).tasks c.args.task) c.kind.result c.kind.ensures
    c.in-Leave.is n) c.scope_name-in-Leave.result c.scope_name-in-Leave.ensures
