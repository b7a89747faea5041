use Rattle.std.proofs.Common.{◌≡◌, drop}
use Rattle.std.specs.Prelude.{bytes_eq}
use Rattle.arm_value.specs.Look.{fold}
use Rattle.plan_cells.specs.Sites.{first_with}
use Rattle.point_cells.proofs.parameters.argument_named.Given as goal

abbrev pub invariant-loop-argument : goal.invariant-loop-argument
invariant-loop-argument l =
    first_with (λ a. bytes_eq (fold l.name) (fold a.name)) (drop l.argument-index l.arguments)
    ≡ first_with (λ a. bytes_eq (fold l.name) (fold a.name)) l.arguments
