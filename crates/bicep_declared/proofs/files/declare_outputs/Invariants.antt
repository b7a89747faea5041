use Rattle.std.proofs.Common.{◌≡◌, map, drop}
use Rattle.bicep_found.specs.Found.{all_found}
use Rattle.bicep_found.proofs.GatherLemmas.{after}
use Rattle.bicep_names.specs.Scope.{scope}
use Rattle.bicep_declared.specs.View.{output_tree}
use Rattle.bicep_declared.proofs.FileLemmas.{output_at}
use Rattle.bicep_declared.proofs.files.declare_outputs.Given as goal

-- what was found so far, and then what is found of the rest
abbrev pub invariant-loop-site : goal.invariant-loop-site
invariant-loop-site l =
    let sc = scope l.symbols l.outputs in
    all_found (map (output_at sc) l.sites)
    ≡ after (map output_tree l.found.items) (all_found (map (output_at sc) (drop l.site-index l.sites)))
