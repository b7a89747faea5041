-- The tasks and the keys of what is deployed, by its parts.
use Rattle.std.proofs.Common.{◌≡◌, ℕ, ◌+◌, List, [], ◌++◌, map, length, refl, sym, ap, ap₂, subst, ◌∙◌}
use Rattle.std.proofs.lemmas.List.{length-map, length-append}
use Rattle.arm_ids.specs.Held.{HeldResource}
use Rattle.arm_ids.specs.declared.id.ResourceId.{ResourceId}
use Rattle.reading.specs.Reading.{pure, continued}
use Rattle.reading.specs.Knowledge.{value, told, and_then}
use Rattle.reading.specs.World.{Each}
use Rattle.reading.proofs.Parts.{told-continued}
use Rattle.template_parts.specs.declared.mode.Mode.{Mode}
use Rattle.deploy_cells.specs.Cells.{Cell}
use Rattle.deploy_cells.specs.Guarded.{Reads}
use Rattle.arm_value.specs.Json.{Json}
use Rattle.plan_cells.specs.Known as known
use Rattle.plan_cells.specs.Meaning.{Deployment}
use Rattle.plan_cells.specs.Tasks as tasks
use Rattle.plan_cells.specs.Tasks.{Work, work, work_of, template_tasks, put_keys, delete, deletes_in}
use Rattle.plan_cells.specs.Plan.{Need, AreNeeds, IsPlan}
use Rattle.plan_cells.specs.Start.{IsStart}
use Rattle.plan_filling.proofs.FinalLemmas.{filled_is_final}
use Rattle.plan_tasks.proofs.AnswerLemmas.{gates_known}
use Rattle.plan_table.specs.declared.table.Table.{Table}
use Rattle.plan_table.specs.Whole.{whole_of, scopes_of, rows_in}
use Rattle.plan_tasks.specs.declared.task.ScopeTask.{ScopeTask}
use Rattle.plan_tasks.specs.Start.{start_of, IsStartTable, task_of}
use Rattle.plan_elements.specs.Needs.{all_tasks, AreInOrder, AreWithin}
use Rattle.plan_assembly.specs.declared.plan.Plan.{Plan}
use Rattle.plan_assembly.specs.declared.plan.Task.{Task}
use Rattle.plan_assembly.specs.Plans.{task_in, IsTaskIn, ArePlanned, deployment_of, work_in, known_in}
use Rattle.plan_assembly.specs.Plans.{IsPlanned}

module _ (d : Deployment) (q : known.Table) where
  one_then : {A B : Type 0} (r : Reads A) (f : A → Reads B) (x : A) → told q r ≡ value x
      → told q (continued r f) ≡ told q (f x)
  one_then {A} {B} r f x e =
      told-continued Cell Json A B q r f ∙ ap (λ t. and_then t (λ y. told q (f y))) e

  is_pure : {A : Type 0} (x : A) → told q (pure {C = Cell} {J = Json} x) ≡ value x
  unfolding told
  is_pure x = refl

  pub work_is : (mode : Mode) (held : List HeldResource) (ts : List tasks.Task) (ks : List ResourceId)
      → told q (template_tasks [] d.template) ≡ value ts → told q (put_keys d ts) ≡ value ks
      → told q (work d mode held) ≡ value (work_of mode d.place held ts ks)
  unfolding work
  work_is mode held ts ks e k =
      one_then (template_tasks [] d.template) (λ us. continued (put_keys d us) (λ ls.
      pure (work_of mode d.place held us ls))) ts e
      ∙ one_then (put_keys d ts) (λ ls. pure (work_of mode d.place held ts ls)) ks k
      ∙ is_pure (work_of mode d.place held ts ks)

pub planned : (t : Table) (mode : Mode) (held : List HeldResource) (us : List ScopeTask) (ks ds : List ResourceId)
    (all : List Task) (ns : List Need) → told (start_of t) (template_tasks [] (whole_of t).template)
    ≡ value (map (task_of (scopes_of t)) us)
    → told (start_of t) (put_keys (whole_of t) (map (task_of (scopes_of t)) us)) ≡ value ks
    → map delete ds ≡ deletes_in mode (whole_of t).place ks held
    → map (task_in (scopes_of t)) all ≡ all_tasks t us ds → Each (IsTaskIn t) all
    → AreNeeds (whole_of t) (start_of t) (all_tasks t us ds) ns → AreInOrder ns
    → AreWithin (length us + length ds) ns → ArePlanned t mode held all ks ns
planned t mode held us ks ds all ns e k m a l n o w =
    let ts = map (task_of (scopes_of t)) us in
    let same : map (task_in (scopes_of t)) all ≡ ts ++ deletes_in mode (whole_of t).place ks held =
    a ∙ ap (λ xs. ts ++ xs) m in
    record {
      has_work = work_is (whole_of t) (start_of t) mode held ts ks e k
          ∙ ap (λ (xs : List tasks.Task). value (record { tasks = xs; keys = ks })) (sym same);
      of_table = l;
      has_needs = subst (λ xs. AreNeeds (whole_of t) (start_of t) xs ns) (sym a) n;
      in_order = o;
      within = subst (λ (i : ℕ). AreWithin i ns) lengths w;
    }
  where
    lengths : length us + length ds ≡ length all
    lengths =
        sym (length-append (map (task_of (scopes_of t)) us) (map delete ds)
        ∙ ap₂ (λ i j. i + j) (length-map us (task_of (scopes_of t))) (length-map ds delete))
        ∙ ap length (sym a) ∙ length-map all (task_in (scopes_of t))

-- the start of a filled sheet whose counts, conditions and names have values
pub known_at_start : (t : Table) → IsStartTable t → IsStart (whole_of t) (start_of t)
known_at_start t s = (filled_is_final (whole_of t) (rows_in t) s.filled (gates_known (rows_in t) s.answered)).is_start

pub is_plan : (p : Plan) (held : List HeldResource) → IsPlanned p held
    → IsPlan (deployment_of p) p.mode held (work_in p) p.needs.items
is_plan p held h = record {
  table = known_in p;
  is_start = h.is_start;
  has_tasks = subst (λ d. told (known_in p) (work d p.mode held) ≡ value (work_in p)) h.whole h.are_planned.has_work;
  has_needs = subst (λ d. AreNeeds d (known_in p) (work_in p).tasks p.needs.items) h.whole h.are_planned.has_needs;
}
