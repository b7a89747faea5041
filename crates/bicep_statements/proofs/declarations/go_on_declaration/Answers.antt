use Rattle.std.proofs.Common.{ap, ◌∙◌}
use Rattle.bicep_machine.specs.Machine.{declared_step}
use Rattle.bicep_machine.specs.Views.{kept_decorators, frames_of}
use Rattle.bicep_statements.proofs.StepLemmas.{declared-Param, declared-Output}
use Rattle.bicep_statements.proofs.declarations.go_on_declaration.Goals as goal

pub returns-in-Param : goal.returns-in-Param
returns-in-Param c =
    let ds = kept_decorators c.args.decorators in
    let S = frames_of c.args.stack.now.items in
    let e = ap (λ w. declared_step ds c.args.from w c.args.name S c.args.at c.args.terminal) c.in-Param.is
    ∙ declared-Param ds c.args.from c.args.name S c.args.at c.args.terminal in
    rw e (c.type_declaration.ensures S)

pub returns-in-Output : goal.returns-in-Output
returns-in-Output c =
    let ds = kept_decorators c.args.decorators in
    let S = frames_of c.args.stack.now.items in
    let e = ap (λ w. declared_step ds c.args.from w c.args.name S c.args.at c.args.terminal) c.in-Output.is
    ∙ declared-Output ds c.args.from c.args.name S c.args.at c.args.terminal in
    rw e (c.type_declaration-in-Output.ensures S)
