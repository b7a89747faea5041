use Rattle.plan_table.specs.Opened.{step_of}
use Rattle.point_sights.specs.Sources.{texts_in, meaning_of}
use Rattle.point_cells.proofs.CellNowLemmas.{argument_made}
use Rattle.point_cells.proofs.parameters.argument_told.Goals as goal

pub returns-in-Ok : goal.returns-in-Ok
returns-in-Ok c =
    argument_made c.args.register.now.table c.args.later.now c.args.frame c.requires.complete.ready c.requires.there
    (step_of c.args.instance) (texts_in c.texts_at-texts.result) c.texts_at-texts.ensures c.args.argument.now
    c.in-Ok.name
    c.in-Ok.ensures (meaning_of c.source_of-source.result) c.source_of-source.ensures c.told_in_instance-told.result
    c.told_in_instance-told.ensures
