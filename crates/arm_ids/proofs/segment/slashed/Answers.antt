use Rattle.std.proofs.Common.{◌++◌, ap, ◌∙◌, chars, map, List, ℕ, Bor}
use Rattle.std.proofs.lemmas.Str.{chars-nil}
use Rattle.arm_ids.specs.Segments.{slashed}
use Rattle.arm_ids.proofs.segment.slashed.Goals as goal

pub loop-segment-init : goal.loop-segment-init
loop-segment-init c =
    ap (λ t. t ++ slashed (map (λ (x : Bor (List ℕ)). chars x.now) c.args.segments.now))
    (ap chars c.new-text.ensures.bytes ∙ chars-nil)
