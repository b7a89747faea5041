use Rattle.std.proofs.Common.{◌≡◌, drop, map}
use Rattle.arm_value.specs.View.{json}
use Rattle.deploy_cells.specs.Listing.{instances_of}
use Rattle.plan_sight.specs.Sites.{first_name, concat}
use Rattle.plan_names.specs.Named.{is_spelled}
use Rattle.plan_names.proofs.around.first_among.Given as goal
use Rattle.arm_ids.specs.Members.{deployment_type}

abbrev pub invariant-loop-number : goal.invariant-loop-number
invariant-loop-number l =
    first_name (is_spelled l.text deployment_type) (concat (drop l.number (map instances_of (map json l.deployments))))
    ≡ first_name (is_spelled l.text deployment_type) (concat (map instances_of (map json l.deployments)))
