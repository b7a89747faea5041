use Rattle.std.proofs.Common.{◌≡◌, map, drop}
use Rattle.bicep_declared.specs.View.{declared_tree}
use Rattle.bicep_placed.specs.Files as spec
use Rattle.bicep_placed.proofs.files.bad_declarations.Given as goal

-- the rest decides
abbrev pub invariant-loop-declaration : goal.invariant-loop-declaration
invariant-loop-declaration l =
    spec.bad_declarations l.kinds (map declared_tree l.declarations)
    ≡ spec.bad_declarations l.kinds (map declared_tree (drop l.declaration-index l.declarations))
