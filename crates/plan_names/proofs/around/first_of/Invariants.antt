use Rattle.std.proofs.Common.{◌≡◌, drop, map}
use Rattle.arm_value.specs.View.{json}
use Rattle.deploy_cells.specs.Listing.{named_of}
use Rattle.plan_sight.specs.Sites.{first_name}
use Rattle.plan_names.specs.Named.{is_spelled}
use Rattle.plan_names.proofs.around.first_of.Given as goal
use Rattle.arm_ids.specs.Members.{deployment_type}

abbrev pub invariant-loop-index : goal.invariant-loop-index
invariant-loop-index l =
    first_name (is_spelled l.text deployment_type) (drop l.index (map named_of (map json l.instances)))
    ≡ first_name (is_spelled l.text deployment_type) (map named_of (map json l.instances))
