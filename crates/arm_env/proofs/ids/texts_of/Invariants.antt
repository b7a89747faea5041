use Rattle.std.proofs.Common.{◌≡◌, take, map, chars}
use Rattle.arm_env.proofs.ids.texts_of.Given as goal

-- the texts so far
abbrev pub invariant-loop-part : goal.invariant-loop-part
invariant-loop-part l = l.texts ≡ map (λ x. chars x.now) (take l.part-index l.parts)
