-- The plan of a deployment that nothing refuses.
use Rattle.std.specs.Prelude.{◌≤◌, List, ℕ, length}
use Rattle.arm_ids.specs.Held.{HeldResource}
use Rattle.template_parts.specs.declared.fault.BindFault.{BindFault}
use Rattle.template_parts.specs.declared.limit.Which.{Which}
use Rattle.plan_assembly.specs.declared.plan.Plan.{Plan}
use Rattle.plan_assembly.specs.Plans.{deployment_of, known_in, IsPlanned}
use Rattle.plan_faults.specs.Faults.{IsFault}
use Rattle.plan_faults.specs.declared.fault.PlanFault.TheVariants as fault
use Rattle.fault_exactness.specs.Exact.{HaveOwnKeys}

-- it is the plan, and its tasks can be numbered; keys differ, no value breaks its rule, each element of `dependsOn`
-- names something of one key, and no limit is exceeded
pub record IsAccepted (p : Plan) (held : List HeldResource) : Type 0 where
  pub is_planned : IsPlanned p held
  pub few : length p.tasks.items ≤ 4294967295
  pub own_keys : HaveOwnKeys (deployment_of p) (known_in p)
  pub no_same_key : (first second : List ℕ) → IsFault (deployment_of p) p.mode held (fault.SameKey first second) → ⊥
  pub no_bind : (path : List ℕ) (f : BindFault) → IsFault (deployment_of p) p.mode held (fault.Bind path f) → ⊥
  pub no_unknown : (path : List ℕ) → IsFault (deployment_of p) p.mode held (fault.UnknownDependency path) → ⊥
  pub no_ambiguous : (path : List ℕ) → IsFault (deployment_of p) p.mode held (fault.AmbiguousDependency path) → ⊥
  pub no_limit : (w : Which) (n : ℕ) → IsFault (deployment_of p) p.mode held (fault.Limit w n) → ⊥
