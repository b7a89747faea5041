-- Plans are what histories are of.
use Rattle.std.proofs.Common.{◌≡◌, ℕ, Bool, true, List, Some, sym, ap, subst}
use Rattle.std.specs.Prelude.{◌↔◌, slice_get}
use Rattle.arm_ids.specs.Held.{HeldResource}
use Rattle.reading.specs.Knowledge.{value, told}
use Rattle.deploy_cells.specs.Cells.{Cell, parameter, variable, offered, output, count, included, name, deployments}
use Rattle.deploy_cells.specs.Cells.{state}
use Rattle.deploy_cells.specs.Puts.{ResourcesDiffer, DeploymentsDiffer}
use Rattle.plan_cells.specs.Meaning.{Deployment}
use Rattle.plan_cells.specs.Desired.{kinds}
use Rattle.plan_cells.specs.Needs.{needs}
use Rattle.plan_cells.specs.Plan.{IsListed, AreNeeds}
use Rattle.plan_cells.specs.Start.{start_world}
use Rattle.plan_cells.specs.Tasks.{Task, work}
use Rattle.plan_table.specs.Whole.{whole_of, rows_in}
use Rattle.plan_tasks.specs.Answered.{is_asked, AreAnswered}
use Rattle.plan_tasks.proofs.AnswerLemmas.{cells_answered}
use Rattle.plan_assembly.specs.declared.plan.Plan.{Plan}
use Rattle.plan_assembly.specs.Plans.{deployment_of, known_in, work_in, IsPlanned}
use Rattle.deploy_histories.specs.Planned as histories
use Rattle.deploy_histories.specs.Planned.{is_asked_first}
use Rattle.deploy_histories.specs.Readiness.{is_yes, needs_first}
use Rattle.history_plans.specs.Planned.{planned_by}
use Rattle.history_plans.proofs.AnsweredLemmas.{all_told}

asked_too : (c : Cell) → is_asked_first c ≡ true → is_asked c ≡ true
asked_too (count p r) a = a
asked_too (included p s) a = a
asked_too (name p s) a = a
asked_too (parameter p x) a = a
asked_too (variable p x) a = a
asked_too (offered p x) a = a
asked_too (output p x) a = a
asked_too (deployments p) a = a
asked_too (state k) a = a

module _ (p : Plan) (held : List HeldResource) (planned : IsPlanned p held) where
  abbrev d : Deployment
  d = deployment_of p

  all_answered : AreAnswered d (known_in p)
  all_answered =
      subst (λ (e : Deployment). AreAnswered e (known_in p)) planned.whole
      (cells_answered (whole_of p.start.register.table) (rows_in p.start.register.table) planned.table.filled
      planned.table.answered)

  answered : (c : Cell) → is_asked_first c ≡ true → histories.IsAnswered (planned_by p held) c
  answered c a =
      let t = all_told d (known_in p) planned.is_start all_answered c (asked_too c a) in
      record { answer = t.0; is_told = t.1 }

  pub has_histories : ResourcesDiffer d.place (kinds d) (start_world (known_in p))
      → DeploymentsDiffer d.place (kinds d) (start_world (known_in p)) → histories.IsPlanned (planned_by p held)
  has_histories r n = record {
    is_start = planned.is_start;
    has_tasks = subst (λ (e : Deployment). told (known_in p) (work e p.mode held) ≡ value (work_in p)) planned.whole
        planned.are_planned.has_work;
    answered = answered;
    resources_differ = r;
    deployments_differ = n;
  }

  have_needs : AreNeeds d (known_in p) (work_in p).tasks p.needs.items
  have_needs =
      subst (λ (e : Deployment). AreNeeds e (known_in p) (work_in p).tasks p.needs.items) planned.whole
      planned.are_planned.has_needs

  pub has_needs : (i j : ℕ) (u v : Task) → slice_get (planned_by p held).tasks i ≡ Some u
      → slice_get (planned_by p held).tasks j ≡ Some v
      → ((needs_first (planned_by p held) u v ≡ true) ↔ IsListed (i, j) p.needs.items)
  has_needs i j u v e g =
      let n = have_needs i j u v e g in
      subst (λ (b : Bool). (b ≡ true) ↔ IsListed (i, j) p.needs.items)
      (sym (ap is_yes n.is_told)) n.listed
