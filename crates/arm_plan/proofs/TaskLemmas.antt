-- More tasks than can be numbered.
use Rattle.std.proofs.Common.{◌≡◌, inr, ℕ, ◌<◌, List, length, Result, Err, refl, sym, subst, ◌∙◌}
use Rattle.std.specs.Prelude.{IfErr}
use Rattle.std.proofs.lemmas.List.{length-map}
use Rattle.arm_ids.specs.Held.{HeldResource}
use Rattle.arm_ids.specs.declared.id.ResourceId.{ResourceId}
use Rattle.template_parts.specs.declared.limit.Which.TheVariants.{Instances}
use Rattle.template_parts.specs.declared.mode.Mode.{Mode}
use Rattle.plan_cells.specs.Plan.{Need}
use Rattle.plan_table.specs.declared.table.Table.{Table}
use Rattle.plan_table.specs.Whole.{whole_of, scopes_of}
use Rattle.plan_tasks.specs.Start.{start_of, IsStartTable}
use Rattle.plan_assembly.specs.declared.plan.Task.{Task}
use Rattle.plan_assembly.specs.Plans.{task_in, work_with, ArePlanned}
use Rattle.plan_assembly.proofs.WorkLemmas.{known_at_start}
use Rattle.plan_faults.specs.declared.fault.PlanFault.{PlanFault}
use Rattle.plan_faults.specs.declared.fault.PlanFault.TheVariants as fault
use Rattle.plan_faults.specs.Faults.{IsFault}

-- what holds of a fault holds of what fails with it
pub failed_by : {T : Type 0} (P : PlanFault → Type 0) (r : Result T PlanFault) (f : PlanFault) → r ≡ Err f → P f
    → IfErr r P
failed_by P r f e p = subst (λ x. IfErr x P) (sym e) p

pub too_many : (t : Table) → IsStartTable t → (mode : Mode) (held : List HeldResource) (us : List Task)
    (ks : List ResourceId) (ns : List Need) (n : ℕ) → ArePlanned t mode held us ks ns → n ≡ length us → 4294967295 < n
    → IsFault (whole_of t) mode held (fault.Limit Instances n)
too_many t start mode held us ks ns n a e h =
    inr (inr (record {
      table = start_of t;
      is_start = known_at_start t start;
      planned = work_with t us ks;
      has_tasks = a.has_work;
      is_number = e ∙ sym (length-map us (task_in (scopes_of t)));
      is_above = h;
      is_which = refl;
    }))
