-- Each put has a key, so the keys of all are known.
use Rattle.std.proofs.Common.{◌≡◌, ℕ, zero, suc, ◌+◌, ◌<◌, ◌≤◌, List, [], ◌∷◌, ◌++◌, map, length, get_or}
use Rattle.std.proofs.Common.{Some, refl, sym, subst, ◌∙◌, arith}
use Rattle.arm_ids.specs.declared.id.ResourceId.{ResourceId}
use Rattle.reading.specs.World.{Each}
use Rattle.reading.specs.Knowledge.{value, no_value, told}
use Rattle.deploy_cells.specs.Puts.{key_at}
use Rattle.plan_cells.specs.Tasks.{put_keys}
use Rattle.plan_table.specs.declared.table.Table.{Table}
use Rattle.plan_table.specs.Whole.{whole_of, scopes_of}
use Rattle.plan_tasks.specs.declared.task.ScopeTask.{ScopeTask}
use Rattle.plan_tasks.specs.declared.task.ScopeTask.TheVariants.{Enter, Put, Leave}
use Rattle.plan_tasks.specs.Start.{start_of, IsStartTable, IsTaskOf, task_of}
use Rattle.plan_tasks.proofs.KeyLemmas.{KeysLeft, keys_begin, put_at, enter_at, leave_at, keys_end}
use Rattle.plan_elements.proofs.InstanceLemmas.{title, key_there}
use Rattle.plan_elements.proofs.ScopeLemmas.{each_at}

module _ (t : Table) (all : List ScopeTask) (start : IsStartTable t) (tasks : Each (IsTaskOf t) all) where
  one_more : (i : ℕ) → i < length all → (ks : List ResourceId) → KeysLeft t all i ks → (x : ScopeTask)
      → get_or all i (Enter 0) ≡ x → IsTaskOf t x → (ls : List ResourceId) × KeysLeft t all (i + 1) ls
  one_more i h ks c (Put f r j) e a =
      let k = key_at (whole_of t).place a.0.number.listed.type (title t f r j start a.0) in (
        ks ++ k ∷ [],
        put_at t all i f r j (Enter 0) ks (ks ++ k ∷ []) (Some k) k start tasks h e (key_there t f r j start a.0) refl
            refl c,
      )
  one_more i h ks c (Enter f) e a = (ks, enter_at t all i f (Enter 0) ks ks h e refl c)
  one_more i h ks c (Leave f) e a = (ks, leave_at t all i f (Enter 0) ks ks h e refl c)

  up_to : (i : ℕ) → i ≤ length all → (ks : List ResourceId) × KeysLeft t all i ks
  up_to zero h = ([], keys_begin t all)
  up_to (suc i) h =
      let old = up_to i (omega (arith, h)) in
      let new = one_more i (omega (arith, h)) old.0 old.1 (get_or all i (Enter 0)) refl
      (each_at (IsTaskOf t) all i (Enter 0) tasks (omega (arith, h))) in
      (new.0, subst (λ (k : ℕ). KeysLeft t all k new.0) (let z : i + 1 ≡ suc i = omega arith in z) new.1)

  pub keys_known : told (start_of t) (put_keys (whole_of t) (map (task_of (scopes_of t)) all)) ≡ no_value → ⊥
  keys_known e =
      let last = up_to (length all) (omega arith) in
      let known = keys_end t all (length all) last.0 (omega arith) last.1 in
      let no : value last.0 ≡ no_value = sym known ∙ e in cc
