use Rattle.foundation.proofs.Options.{if_ok}
use Rattle.plan_paths.specs.Texts.{a_path}
use Rattle.plan_paths.proofs.TextLemmas.{around_there, scope_made, root_made}
use Rattle.scope_faults.proofs.paths.scope_path.Goals as goal

pub instance_path-requires-clause-there : goal.instance_path-requires-clause-there
instance_path-requires-clause-there c =
    (around_there c.args.table.now c.args.frame c.index-frame.result.now c.index-frame.result.now
    c.in-Some.instance.now c.as_slice.result.now c.requires.laid c.requires.there c.index-frame.ensures
    c.index-frame.ensures c.as_slice.ensures.value c.in-Some.ensures.value).1

pub returns-in_ok-path-in-Some : goal.returns-in_ok-path-in-Some
returns-in_ok-path-in-Some c =
    if_ok _ _ c.inside.result c.inside.ensures (λ x m.
    scope_made a_path c.args.table.now c.args.frame c.index-frame.result.now c.index-frame.result.now
    c.in-Some.instance.now c.as_slice.result.now c.in_ok-path-in-Some.path x c.requires.laid c.requires.there
    c.index-frame.ensures c.index-frame.ensures c.as_slice.ensures.value c.in-Some.ensures.value
    c.in_ok-path-in-Some.ensures m)

pub returns-in-None : goal.returns-in-None
returns-in-None c =
    root_made a_path c.args.table.now c.args.frame c.index-frame.result.now c.as_slice.result.now c.root.result
    c.requires.there c.index-frame.ensures c.as_slice.ensures.value c.in-None.ensures.value c.root.ensures
