use Rattle.std.proofs.Common.{◌≡◌, map, drop}
use Rattle.std.specs.Str.{chars}
use Rattle.bicep_misplaced.proofs.words.is_among.Given as goal
use Rattle.arm_value.specs.Look.{is_among}

-- the rest decides
abbrev pub invariant-loop-other : goal.invariant-loop-other
invariant-loop-other l =
    is_among (map (λ n. chars n.now) l.names) (chars l.name)
    ≡ is_among (map (λ n. chars n.now) (drop l.other-index l.names)) (chars l.name)
