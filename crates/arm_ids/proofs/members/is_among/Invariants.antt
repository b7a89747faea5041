use Rattle.std.proofs.Common.{◌≡◌, drop, map, chars}
use Rattle.arm_ids.specs.Members.{is_among}
use Rattle.arm_ids.proofs.members.is_among.Given as goal

abbrev pub invariant-loop-other : goal.invariant-loop-other
invariant-loop-other l =
    is_among (map (λ n. chars n.now) l.names) l.name
    ≡ is_among (map (λ n. chars n.now) (drop l.other-index l.names)) l.name
