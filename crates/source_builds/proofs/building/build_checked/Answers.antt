use Rattle.std.proofs.Common.{inl}
use Rattle.source_builds.proofs.BuildLemmas.{may_be_written, bytes_emitted}
use Rattle.source_builds.proofs.building.build_checked.Goals as goal

pub build_bytes-bytes-requires : goal.build_bytes-bytes-requires
build_bytes-bytes-requires c =
    may_be_written c.args.form c.args.program.now c.args.checked.now c.in-Ok.template c.in-Ok.ensures.emitted

pub returns-in-Ok : goal.returns-in-Ok
returns-in-Ok c =
    bytes_emitted c.args.form c.args.program.now c.args.checked.now c.in-Ok.template c.build_bytes-bytes.result
    c.letting_go.result c.letting_go.ensures c.in-Ok.ensures.emitted c.build_bytes-bytes.ensures.bytes
    c.build_bytes-bytes.ensures.fault

pub returns-in-Err : goal.returns-in-Err
returns-in-Err c = inl c.in-Err.ensures.fault
