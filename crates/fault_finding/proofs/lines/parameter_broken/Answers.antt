use Rattle.std.proofs.Common.{[], sym, ◌∙◌}
use Rattle.arm_value.specs.View.{json}
use Rattle.template_parts.specs.declared.mode.Mode.TheVariants.{Incremental}
use Rattle.fault_finding.proofs.BreakLemmas.{parameter_bound, parameter_whole}
use Rattle.fault_finding.proofs.MissingLemmas.{parameter_read}
use Rattle.fault_finding.proofs.lines.parameter_broken.Goals as goal

pub unreachable-requires : goal.unreachable-requires
unreachable-requires c =
    let q = c.index-parameters-number.result in
    parameter_whole c.args.table.now c.requires.sound c.args.path Incremental [] (json c.args.value.now)
    c.requires.laid c.args.frame c.args.number c.requires.broken q
    (parameter_read c.args.table.now c.args.frame c.args.number c.index.result.now c.as_slice-parameters.result.now q
    c.requires.broken.is_placed.there c.index.ensures c.as_slice-parameters.ensures
    c.index-parameters-number.is)
    (sym c.in-Ok-None.ensures ∙ c.in-Ok-None.field-0-is)

pub returns-in-Ok-Some : goal.returns-in-Ok-Some
returns-in-Ok-Some c = λ mode held.
    let q = c.index-parameters-number.result in
    parameter_bound c.args.table.now c.requires.sound c.args.path mode held (json c.args.value.now)
    c.requires.laid c.args.frame c.args.number c.requires.broken q
    (parameter_read c.args.table.now c.args.frame c.args.number c.index.result.now c.as_slice-parameters.result.now q
    c.requires.broken.is_placed.there c.index.ensures c.as_slice-parameters.ensures
    c.index-parameters-number.is)
    c.in-Ok-Some.fault (sym c.in-Ok-Some.ensures ∙ c.in-Ok-Some.field-0-is)
