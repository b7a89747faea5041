use Rattle.source_builds.proofs.BuildLemmas.{of_checked, check_refused}
use Rattle.source_builds.proofs.building.build_program.Goals as goal

pub build_in-built-requires : goal.build_in-built-requires
build_in-built-requires c = record {
  loaded = c.requires;
  checked = c.in-Ok.ensures.checked;
  faultless = c.in-Ok.ensures.none;
}

pub returns-in-Ok : goal.returns-in-Ok
returns-in-Ok c =
    of_checked c.args.program.now c.in-Ok.checked c.args.main.now c.args.form c.build_in-built.result
    c.letting_go.result c.letting_go.ensures
    (record { loaded = c.requires; checked = c.in-Ok.ensures.checked; faultless = c.in-Ok.ensures.none })
    c.build_in-built.ensures

pub returns-in-Err : goal.returns-in-Err
returns-in-Err c =
    check_refused c.args.program.now c.as_slice-files.result.now c.args.main.now c.args.form c.in-Err.fault
    c.check_report-report.result c.letting_go-in-Err.result c.refused.result c.as_slice-files.ensures.value
    c.in-Err.ensures.fault c.check_report-report.ensures
    c.letting_go-in-Err.ensures c.refused.ensures
