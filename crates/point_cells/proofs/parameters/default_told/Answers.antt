use Rattle.point_cells.proofs.CellNowLemmas.{default_if, default_none}
use Rattle.point_cells.proofs.parameters.default_told.Goals as goal

pub returns-in-Some : goal.returns-in-Some
returns-in-Some c =
    default_if c.args.register.now.table c.args.later.now c.args.frame c.requires.complete.ready c.requires.there
    c.told_in_scope.result c.args.parameter.now c.in-Some.tree c.in-Some.is c.told_in_scope.ensures

pub returns-in-None : goal.returns-in-None
returns-in-None c =
    default_none c.args.register.now.table c.args.later.now c.args.frame c.requires.complete.ready c.requires.there
    c.args.parameter.now c.in-None.is
