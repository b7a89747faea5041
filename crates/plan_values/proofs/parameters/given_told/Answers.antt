use Rattle.std.proofs.Common.{◌<◌, length, sym, subst}
use Rattle.arm_value.specs.Look.{fold}
use Rattle.arm_value.specs.View.{json}
use Rattle.plan_sight.specs.Ready.{told_in}
use Rattle.plan_sight.specs.Seen.{Yields}
use Rattle.plan_sight.proofs.LookLemmas.{scopes_there, frames_there}
use Rattle.plan_table.specs.Lines.{IsNumber}
use Rattle.plan_table.specs.Opened.{step_of}
use Rattle.plan_table.specs.Found.{scope_at}
use Rattle.plan_telling.proofs.PlaceLemmas.{around_there}
use Rattle.plan_values.specs.Values.{argument_value}
use Rattle.plan_values.proofs.BoundLemmas.{opener_number, opener_copy, argument_shown, default_shown}
use Rattle.plan_values.proofs.BoundLemmas.{given_by_around}
use Rattle.plan_values.proofs.parameters.given_told.Goals as goal

pub arguments_of-arguments-requires-clause-there : goal.arguments_of-arguments-requires-clause-there
arguments_of-arguments-requires-clause-there c =
    let t = c.args.register.now.table in
    let there = scopes_there t c.args.frame c.requires.there in
    let o = c.opener_of-instance.ensures in
    subst (λ n. n < length t.frames.items) (sym c.around_of-around.ensures)
    (frames_there t (scope_at t c.args.frame).around
    (around_there t c.args.frame c.requires.complete.ready there (step_of c.opener_of-instance.result) o.0 o.1))

pub arguments_of-arguments-requires-clause-number : goal.arguments_of-arguments-requires-clause-number
arguments_of-arguments-requires-clause-number c =
    let t = c.args.register.now.table in
    let there = scopes_there t c.args.frame c.requires.there in
    let o = c.opener_of-instance.ensures in
    subst (λ n. IsNumber (scope_at t n) c.opener_of-instance.result.resource) (sym c.around_of-around.ensures)
    (opener_number t c.args.frame c.requires.complete.ready there (step_of c.opener_of-instance.result) o.0 o.1)

pub argument_told-requires-clause-there : goal.argument_told-requires-clause-there
argument_told-requires-clause-there c =
    let t = c.args.register.now.table in
    let there = scopes_there t c.args.frame c.requires.there in
    let o = c.opener_of-instance.ensures in
    subst (λ n. n < length t.frames.items) (sym c.around_of-around.ensures)
    (frames_there t (scope_at t c.args.frame).around
    (around_there t c.args.frame c.requires.complete.ready there (step_of c.opener_of-instance.result) o.0 o.1))

pub argument_told-requires-clause-number : goal.argument_told-requires-clause-number
argument_told-requires-clause-number c =
    let t = c.args.register.now.table in
    let there = scopes_there t c.args.frame c.requires.there in
    let o = c.opener_of-instance.ensures in
    subst (λ n. IsNumber (scope_at t n) c.opener_of-instance.result.resource) (sym c.around_of-around.ensures)
    (opener_number t c.args.frame c.requires.complete.ready there (step_of c.opener_of-instance.result) o.0 o.1)

pub argument_told-requires-clause-copy : goal.argument_told-requires-clause-copy
argument_told-requires-clause-copy c =
    let t = c.args.register.now.table in
    let there = scopes_there t c.args.frame c.requires.there in
    let o = c.opener_of-instance.ensures in
    opener_copy t c.args.frame c.requires.complete.ready there (step_of c.opener_of-instance.result) o.0 o.1

pub returns-in-Some : goal.returns-in-Some
returns-in-Some c =
    let t = c.args.register.now.table in
    let ready = c.requires.complete.ready in
    let there = scopes_there t c.args.frame c.requires.there in
    let s = step_of c.opener_of-instance.result in
    let o = c.opener_of-instance.ensures in
    argument_shown t c.args.frame ready there s o.0 o.1 c.args.parameter.now (fold c.args.parameter.now.name)
    c.argument_told.result c.in-Some.argument.now c.arguments_of-arguments.result.now
    (given_by_around t c.args.frame ready there s o.0 o.1 c.args.parameter.now
    (fold c.args.parameter.now.name) c.around_of-around.result c.around_of-around.ensures
    c.arguments_of-arguments.result.now c.arguments_of-arguments.ensures) c.in-Some.ensures
    (subst (λ n. Yields json t c.argument_told.result (told_in t (argument_value t n s c.in-Some.argument.now)))
    c.around_of-around.ensures c.argument_told.ensures)

pub returns-in-None : goal.returns-in-None
returns-in-None c =
    let t = c.args.register.now.table in
    let ready = c.requires.complete.ready in
    let there = scopes_there t c.args.frame c.requires.there in
    let s = step_of c.opener_of-instance.result in
    let o = c.opener_of-instance.ensures in
    default_shown t c.args.frame ready there s o.0 o.1 c.args.parameter.now (fold c.args.parameter.now.name)
    c.default_told.result c.arguments_of-arguments.result.now
    (given_by_around t c.args.frame ready there s o.0 o.1 c.args.parameter.now
    (fold c.args.parameter.now.name) c.around_of-around.result c.around_of-around.ensures
    c.arguments_of-arguments.result.now c.arguments_of-arguments.ensures) c.in-None.ensures c.default_told.ensures
