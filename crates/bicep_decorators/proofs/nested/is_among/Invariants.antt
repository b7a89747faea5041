use Rattle.std.proofs.Common.{◌≡◌, map, drop}
use Rattle.bicep_tree.specs.View as view
use Rattle.bicep_decorators.specs.Decorators.{is_among, decorator_name}
use Rattle.bicep_decorators.proofs.nested.is_among.Given as goal

-- the rest decides
abbrev pub invariant-loop-decorator : goal.invariant-loop-decorator
invariant-loop-decorator l =
    is_among (map (λ d. decorator_name (view.decorator_of d)) l.decorators) l.name
    ≡ is_among (map (λ d. decorator_name (view.decorator_of d)) (drop l.decorator-index l.decorators)) l.name
