use Rattle.std.proofs.Common.{◌≡◌, ◌<◌, map, ap, sym, ◌∙◌, drop, [], length, arith}
use Rattle.std.proofs.lemmas.List.{drop_all}
use Rattle.foundation.proofs.Lists.{next_item}
use Rattle.bicep_found.specs.Found.{all_found}
use Rattle.bicep_found.proofs.GatherLemmas.{after, after-none, more_some, none_some, all_given, at_rest}
use Rattle.bicep_names.specs.Scope.{scope}
use Rattle.bicep_declared.specs.Declare.{part_output}
use Rattle.bicep_declared.specs.View.{output_tree, outputs_tree, site_tree}
use Rattle.bicep_declared.proofs.FileLemmas.{output_at, all_after}
use Rattle.bicep_declared.proofs.files.declare_outputs.Goals as goal
use Rattle.bicep_names.proofs.ArmLemmas.{of_equal}

pub loop-site-init : goal.loop-site-init
loop-site-init c =
    let sc = scope c.args.symbols.now c.args.outputs.now in
    let all = all_found (map (output_at sc) c.args.sites.now) in
    after-none all ∙ ap (λ xs. after (map output_tree xs) all) (sym c.new-found.ensures.items)

pub returns-in-Err : goal.returns-in-Err
returns-in-Err c =
    let sc = scope c.args.symbols.now c.args.outputs.now in
    let i : c.loop-site.site-index < length c.args.sites.now = omega arith in
    of_equal outputs_tree _ _ _ (all_after (part_output sc) site_tree c.args.sites.now)
    (none_some output_tree _ _ _ c.push_some.new.values.items outputs_tree (λ x. x) _ _ _ _
    (at_rest (output_at sc) _ _ _ _ c.loop-site.invariant
    (next_item c.args.sites.now c.loop-site.site-index c.site-item.result i c.site-item.is))
    c.output_declared-part.ensures (c.in-Err.ensures {u = tt}) c.lacks.ensures)

pub loop-site-preserved : goal.loop-site-preserved
loop-site-preserved c =
    let sc = scope c.args.symbols.now c.args.outputs.now in
    let i : c.loop-site.site-index < length c.args.sites.now = omega arith in
    more_some output_tree _ _ _ _ _ _ tt
    (at_rest (output_at sc) _ _ _ _ c.loop-site.invariant
    (next_item c.args.sites.now c.loop-site.site-index c.site-item.result i c.site-item.is))
    c.output_declared-part.ensures (c.in-Ok.ensures {u = tt})

pub returns : goal.returns
returns c =
    let sc = scope c.args.symbols.now c.args.outputs.now in
    let e : drop c.loop-site.site-index c.args.sites.now ≡ [] =
    drop_all c.loop-site.site-index c.args.sites.now (omega arith) in
    all_after (part_output sc) site_tree c.args.sites.now
    ∙ all_given output_tree (λ x. x) _ c.loop-site.found.items
    (at_rest (output_at sc) _ _ _ _ c.loop-site.invariant e)
