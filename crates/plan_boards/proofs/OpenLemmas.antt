-- The board of a plan.
use Rattle.std.proofs.Common.{◌≡◌, List, sym, ap, subst, ◌∙◌}
use Rattle.arm_ids.specs.Held.{HeldResource}
use Rattle.plan_standings.specs.Plan.{Plan}
use Rattle.plan_standings.specs.Planned.{planned_by}
use Rattle.deploy_histories.specs.Planned.{Planned}
use Rattle.deploy_core.specs.Opens.{AreStartNeeds}
use Rattle.plan_standings.specs.declared.standings.PlanStandings.{PlanStandings}
use Rattle.plan_standings.specs.Kept.{planned_of, IsNew}

pub new_planned : (g : Plan) (held : List HeldResource) (s : PlanStandings) → IsNew g held s
    → planned_of s ≡ planned_by g held
new_planned g held s n =
    ap (λ (p : Plan). planned_by p s.held.now) n.plan ∙ ap (λ (h : List HeldResource). planned_by g h) n.held_then

pub needs_so : (g : Plan) (held : List HeldResource) (s : PlanStandings) → IsNew g held s
    → AreStartNeeds (planned_by g held) g.needs.items → AreStartNeeds (planned_of s) g.needs.items
needs_so g held s n a = subst (λ (x : Planned). AreStartNeeds x g.needs.items) (sym (new_planned g held s n)) a
