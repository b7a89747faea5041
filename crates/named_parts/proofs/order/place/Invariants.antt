use Rattle.std.proofs.Common.{◌≡◌, ◌+◌, drop}
use Rattle.named_parts.specs.Order.{place_of}
use Rattle.named_parts.proofs.order.place.Given as goal

-- the parts before have names below it
abbrev pub invariant-loop-place : goal.invariant-loop-place
invariant-loop-place g l =
    place_of g.T.Named.name_of l.name l.parts ≡ l.place + place_of g.T.Named.name_of l.name (drop l.place l.parts)
