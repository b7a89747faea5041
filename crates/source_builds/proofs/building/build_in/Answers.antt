use Rattle.source_builds.proofs.BuildLemmas.{emit_refused}
use Rattle.source_builds.proofs.building.build_in.Goals as goal

pub returns-in-Err : goal.returns-in-Err
returns-in-Err c =
    emit_refused c.args.program.now c.args.checked.now c.args.main.now c.args.form c.in-Err.fault
    c.emit_report.result c.refused.result c.in-Err.ensures c.emit_report.ensures c.refused.ensures
