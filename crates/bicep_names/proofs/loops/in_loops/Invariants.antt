use Rattle.std.proofs.Common.{◌≡◌, map, drop}
use Rattle.bicep_names.specs.Scope.{loop_from}
use Rattle.bicep_names.proofs.loops.in_loops.Given as goal

-- no loop so far has the name
abbrev pub invariant-loop-outwards : goal.invariant-loop-outwards
invariant-loop-outwards l =
    loop_from 0 l.name (map (λ x. x.now) l.loops)
    ≡ loop_from l.outwards l.name (map (λ x. x.now) (drop l.outwards l.loops))
