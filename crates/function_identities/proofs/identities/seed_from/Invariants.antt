use Rattle.std.proofs.Common.{◌≡◌, ◌++◌, drop, map, option_map, encode_utf8_all}
use Rattle.arm_value.specs.View.{json}
use Rattle.function_identities.specs.Identities.{after_zeros}
use Rattle.function_identities.proofs.identities.seed_from.Given as goal

-- the bytes so far, and those of the texts that are left
abbrev pub invariant-loop-other : goal.invariant-loop-other
invariant-loop-other l =
    option_map (λ rest. l.seed.items ++ rest) (after_zeros (map json (drop l.other-index l.others)))
    ≡ option_map (λ rest. encode_utf8_all l.first ++ rest) (after_zeros (map json l.others))
