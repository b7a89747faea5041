use Rattle.std.proofs.Common.{arith}
use Rattle.foundation.proofs.Options.{if_ok}
use Rattle.plan_table.specs.Opened.{step_of}
use Rattle.plan_paths.specs.Texts.{a_path}
use Rattle.plan_paths.proofs.TextLemmas.{path_made, around_there, scope_made, root_made}
use Rattle.plan_paths.proofs.scopes.+scopes.Goals as goal

pub instance_path-returns : goal.instance_path-returns
instance_path-returns t c =
    if_ok _ _ c.join.result c.join.ensures (λ p e.
    path_made c.args.table.now c.args.frame (step_of c.args.instance) c.index.result.now c.in_ok-scope.scope
    c.in_ok-resource.resource p c.requires.laid c.requires.there c.index.ensures c.in_ok-scope.ensures
    c.in_ok-resource.ensures e)

pub scope_path-instance_path-requires : goal.scope_path-instance_path-requires
scope_path-instance_path-requires t c =
    let a = around_there c.args.table.now c.args.frame c.index-frame.result.now c.index-frame.result.now
    c.in-Some.instance.now c.as_slice.result.now c.requires.laid c.requires.there c.index-frame.ensures
    c.index-frame.ensures c.as_slice.ensures.value c.in-Some.ensures.value in
    let less = a.0 in
    (omega (arith, less, c.decreases), (c.requires.laid, a.1))

pub scope_path-returns-in_ok-path-in-Some : goal.scope_path-returns-in_ok-path-in-Some
scope_path-returns-in_ok-path-in-Some t c =
    if_ok _ _ c.inside.result c.inside.ensures (λ x m.
    scope_made a_path c.args.table.now c.args.frame c.index-frame.result.now c.index-frame.result.now
    c.in-Some.instance.now c.as_slice.result.now c.in_ok-path-in-Some.path x c.requires.laid c.requires.there
    c.index-frame.ensures c.index-frame.ensures c.as_slice.ensures.value c.in-Some.ensures.value
    c.in_ok-path-in-Some.ensures m)

pub scope_path-returns-in-None : goal.scope_path-returns-in-None
scope_path-returns-in-None t c =
    root_made a_path c.args.table.now c.args.frame c.index-frame.result.now c.as_slice.result.now c.root.result
    c.requires.there c.index-frame.ensures c.as_slice.ensures.value c.in-None.ensures.value c.root.ensures
