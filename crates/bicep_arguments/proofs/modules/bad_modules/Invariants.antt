use Rattle.std.proofs.Common.{◌≡◌, map, drop}
use Rattle.bicep_arguments.specs.Arguments as spec
use Rattle.bicep_arguments.specs.View.{parameters_tree, module_tree}
use Rattle.bicep_arguments.proofs.modules.bad_modules.Given as goal

-- the rest decides
abbrev pub invariant-loop-found : goal.invariant-loop-found
invariant-loop-found l =
    spec.bad_modules (map parameters_tree l.parameters) l.numbers (map module_tree l.modules)
    ≡ spec.bad_modules (map parameters_tree l.parameters) l.rest (map module_tree (drop l.found-index l.modules))
