use Rattle.std.proofs.Common.{sym, ap, ◌∙◌}
use Rattle.arm_value.specs.Json.{null}
use Rattle.template_parts.specs.declared.parameter.Parameter.{Parameter}
use Rattle.fault_finding.proofs.BreakLemmas.{parameter_missing}
use Rattle.fault_finding.proofs.MissingLemmas.{parameter_read}
use Rattle.fault_finding.proofs.lines.parameter_missing.Goals as goal

pub returns-in-Ok : goal.returns-in-Ok
returns-in-Ok c = λ mode held.
    let q = c.index-parameters-number.result in
    parameter_missing c.args.table.now c.requires.sound c.args.path mode held null c.requires.laid c.args.frame
    c.args.number q c.in-Ok.name c.requires.missing
    (parameter_read c.args.table.now c.args.frame c.args.number c.index.result.now c.as_slice-parameters.result.now q
    c.requires.missing.is_placed.there c.index.ensures c.as_slice-parameters.ensures
    c.index-parameters-number.is)
    (c.in-Ok.ensures ∙ ap (λ (y : Parameter). y.name) (sym c.index-parameters-number.is))
