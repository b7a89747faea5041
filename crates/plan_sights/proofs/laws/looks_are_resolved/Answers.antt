use Rattle.arm_value.specs.Json.{Json}
use Rattle.arm_env.specs.Look.{Look, Fact}
use Rattle.template_tree.specs.View.{template_tree}
use Rattle.deploy_cells.specs.Cells.{Cell}
use Rattle.plan_sight.specs.Sites.{looked_up}
use Rattle.plan_table.specs.Rows.{status_of, table}
use Rattle.plan_sights.specs.Seats.{site_of}
use Rattle.plan_sights.proofs.FollowLemmas.{resolved}
use Rattle.plan_sights.proofs.laws.looks_are_resolved.Goals as goal

pub returns : goal.returns
returns g c =
    λ s r. resolved Look Cell Fact Json _ (table (status_of s.0.0))
    (looked_up (template_tree s.0.1) s.1.0.1 (site_of s)) r
