-- A plan that nothing refuses.
use Rattle.std.proofs.Common.{◌≡◌, ◌≤◌, inl, inr, ℕ, List, length, sym, ap, subst, arith}
use Rattle.std.proofs.lemmas.List.{length-map}
use Rattle.arm_ids.specs.Held.{HeldResource}
use Rattle.reading.specs.Knowledge.{Told, value, told}
use Rattle.template_parts.specs.declared.fault.BindFault.{BindFault}
use Rattle.template_parts.specs.declared.limit.Which.{Which}
use Rattle.deploy_cells.specs.Cells.{Cell}
use Rattle.plan_cells.specs.Known as known
use Rattle.plan_cells.specs.Tasks.{Work, work}
use Rattle.plan_cells.specs.Meaning.{Deployment}
use Rattle.plan_table.specs.declared.table.Table.{Table}
use Rattle.plan_table.specs.Whole.{whole_of, scopes_of, rows_in}
use Rattle.plan_tasks.specs.Start.{start_of}
use Rattle.plan_settling.specs.Refused.{AreSettled}
use Rattle.plan_assembly.specs.declared.plan.Plan.{Plan}
use Rattle.plan_assembly.specs.Plans.{deployment_of, known_in, work_with, task_in, IsPlanned}
use Rattle.plan_assembly.proofs.WorkLemmas.{known_at_start}
use Rattle.plan_faults.specs.Faults.{IsFault}
use Rattle.plan_faults.specs.declared.fault.PlanFault.TheVariants as fault
use Rattle.fault_exactness.specs.Exact.{HaveOwnKeys, NoneExtra, NameOneKey}
use Rattle.fault_exactness.proofs.ExactLemmas.{same_never, bind_never, limit_never, unknown_never, ambiguous_never}
use Rattle.fault_exactness.proofs.KeyLemmas.{one_start}
use Rattle.arm_plan.specs.Accepted.{IsAccepted}

module _ (p : Plan) (held : List HeldResource) (planned : IsPlanned p held)
    (settled : AreSettled (rows_in p.start.register.table))
    (keys : HaveOwnKeys (whole_of p.start.register.table) (start_of p.start.register.table))
    (none : NoneExtra (whole_of p.start.register.table) (start_of p.start.register.table))
    (names : NameOneKey (whole_of p.start.register.table) (start_of p.start.register.table)) where
  abbrev t : Table
  t = p.start.register.table

  no_same_key : (first second : List ℕ) → IsFault (deployment_of p) p.mode held (fault.SameKey first second) → ⊥
  no_same_key first second h =
      let g = subst (λ (d : Deployment). IsFault d p.mode held (fault.SameKey first second)) (sym planned.whole) h in
      same_never t planned.table first second keys g.0 g.1.1.0 g.1.1.1

  no_bind : (path : List ℕ) (f : BindFault) → IsFault (deployment_of p) p.mode held (fault.Bind path f) → ⊥
  no_bind path f h =
      let g = subst (λ (d : Deployment). IsFault d p.mode held (fault.Bind path f)) (sym planned.whole) h in
      bind_never t planned.table path f settled none g.0 g.1.0 g.1.1

  no_unknown : (path : List ℕ) → IsFault (deployment_of p) p.mode held (fault.UnknownDependency path) → ⊥
  no_unknown path h =
      let g = subst (λ (d : Deployment). IsFault d p.mode held (fault.UnknownDependency path)) (sym planned.whole) h in
      unknown_never t planned.table path names g.0 g.1.1.0 g.1.1.1

  no_ambiguous : (path : List ℕ) → IsFault (deployment_of p) p.mode held (fault.AmbiguousDependency path) → ⊥
  no_ambiguous path h =
      let g =
      subst (λ (d : Deployment). IsFault d p.mode held (fault.AmbiguousDependency path)) (sym planned.whole) h in
      ambiguous_never t planned.table path names g.0 g.1.1.0 g.1.1.1

  same_work : (x y : Work) (u : Told Cell Work) → u ≡ value x → u ≡ value y → length x.tasks ≡ length y.tasks
  same_work x y u e g = let same : x ≡ y = cc in ap (λ (z : Work). length z.tasks) same

  no_limit : length p.tasks.items ≤ 4294967295 → (w : Which) (n : ℕ)
      → IsFault (deployment_of p) p.mode held (fault.Limit w n) → ⊥
  no_limit few w n h =
      by_case (subst (λ (d : Deployment). IsFault d p.mode held (fault.Limit w n)) (sym planned.whole) h)
    where
      by_case : IsFault (whole_of t) p.mode held (fault.Limit w n) → ⊥
      by_case (inl o) = limit_never t planned.table w n settled planned.sheet.counted (inl o)
      by_case (inr (inl a)) = limit_never t planned.table w n settled planned.sheet.counted (inr a)
      by_case (inr (inr m)) =
          let one = one_start (whole_of t) m.table (start_of t) m.is_start (known_at_start t planned.table) in
          let told_so : told (start_of t) (work (whole_of t) p.mode held) ≡ value m.planned =
          subst (λ (q : known.Table). told q (work (whole_of t) p.mode held) ≡ value m.planned) one m.has_tasks in
          let as_many = same_work m.planned (work_with t p.tasks.items p.keys.items)
          (told (start_of t) (work (whole_of t) p.mode held)) told_so planned.are_planned.has_work in
          let mapped = length-map p.tasks.items (task_in (scopes_of t)) in
          let above = m.is_above in
          let number = m.is_number in
          omega (arith, few, as_many, mapped, above, number)

  is_accepted : length p.tasks.items ≤ 4294967295 → IsAccepted p held
  is_accepted few = record {
    is_planned = planned;
    few = few;
    own_keys = subst (λ (d : Deployment). HaveOwnKeys d (known_in p)) planned.whole keys;
    no_same_key = no_same_key;
    no_bind = no_bind;
    no_limit = no_limit few;
    no_unknown = no_unknown;
    no_ambiguous = no_ambiguous;
  }

-- by the table that a plan was made of
pub accepted : (p : Plan) (held : List HeldResource) (t : Table) → IsPlanned p held → p.start.register.table ≡ t
    → AreSettled (rows_in t) → HaveOwnKeys (whole_of t) (start_of t) → NoneExtra (whole_of t) (start_of t)
    → NameOneKey (whole_of t) (start_of t) → length p.tasks.items ≤ 4294967295 → IsAccepted p held
accepted p held t planned e settled keys none names few =
    is_accepted p held planned (subst (λ (u : Table). AreSettled (rows_in u)) (sym e) settled)
    (subst (λ (u : Table). HaveOwnKeys (whole_of u) (start_of u)) (sym e) keys)
    (subst (λ (u : Table). NoneExtra (whole_of u) (start_of u)) (sym e) none)
    (subst (λ (u : Table). NameOneKey (whole_of u) (start_of u)) (sym e) names) few
