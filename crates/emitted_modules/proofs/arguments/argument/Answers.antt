use Rattle.std.proofs.Common.{sym, subst}
use Rattle.bicep_resolved.specs.View.{property_of}
use Rattle.emitted_expressions.specs.Sight.{frames_of}
use Rattle.emitted_resources.specs.Filled.{emission_sight}
use Rattle.emitted_resources.specs.Values.{IsContent}
use Rattle.emitted_resources.specs.Buildable.{MayBeBuilt}
use Rattle.emitted_modules.specs.Arguments.{argument_value}
use Rattle.emitted_modules.proofs.ArgumentLemmas.{is_argument}
use Rattle.emitted_modules.proofs.arguments.argument.Goals as goal

pub argument_content-requires-clause-fits : goal.argument_content-requires-clause-fits
argument_content-requires-clause-fits c =
    subst (λ v. MayBeBuilt (argument_value (emission_sight c.args.table.now) v (frames_of c.args.turns.now)))
    (sym c.value_in.ensures) c.requires.fits

pub returns-in-Ok : goal.returns-in-Ok
returns-in-Ok c =
    let w = emission_sight c.args.table.now in
    let fs = frames_of c.args.turns.now in
    let p = property_of c.args.member.now in
    is_argument w fs p.1 p.2 c.in-Ok.content c.name_in.result.now c.name_in.ensures
    (subst (λ v. IsContent (argument_value w v fs) c.in-Ok.content) c.value_in.ensures c.in-Ok.ensures)
    c.named.result c.named.ensures.name c.named.ensures.content
