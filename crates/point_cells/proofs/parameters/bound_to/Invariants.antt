use Rattle.std.proofs.Common.{◌≡◌, drop}
use Rattle.std.specs.Prelude.{bytes_eq}
use Rattle.arm_value.specs.Look.{fold}
use Rattle.plan_cells.specs.Sites.{first_with}
use Rattle.point_cells.proofs.parameters.bound_to.Given as goal

abbrev pub invariant-loop-parameter : goal.invariant-loop-parameter
invariant-loop-parameter l =
    first_with (λ b. bytes_eq (fold l.name) (fold b.name)) (drop l.parameter-index l.bound)
    ≡ first_with (λ b. bytes_eq (fold l.name) (fold b.name)) l.bound
