-- Each put and each leave of a plan is listed once.
use Rattle.std.proofs.Common.{◌≡◌, ◌∷◌, [], ℕ, Some, sym, ap, ◌∙◌}
use Rattle.std.specs.Prelude.{slice_get}
use Rattle.arm_ids.specs.declared.id.ResourceId.{ResourceId}
use Rattle.deploy_cells.specs.Cells.{Step, Position}
use Rattle.plan_cells.specs.Start.{start_world}
use Rattle.plan_cells.specs.Tasks as task
use Rattle.plan_cells.specs.Tasks.{Task}
use Rattle.deploy_histories.specs.Planned.{Planned, IsPlanned}
use Rattle.history_laws.proofs.Puts.{deletes_alone}
use Rattle.history_starts.proofs.Once.{IsPlaced, listed_once}
use Rattle.history_starts.proofs.Start.{the_list}

-- the position of an instance that is put, and of a scope that is left
abbrev place_of : Task → Position
place_of (task.put q s) = s ∷ q
place_of (task.leave q) = q
place_of (task.enter q) = q
place_of (task.delete k) = []

put_placed : (q : Position) (s : Step) → IsPlaced (task.put q s) (s ∷ q)
put_placed q s = record {
  no_enter = λ p e. cc;
  by_leave = λ p e. absurd (cc);
  by_put = λ p r e. sym (ap place_of e);
}

leave_placed : (q : Position) → IsPlaced (task.leave q) q
leave_placed q = record {
  no_enter = λ p e. cc;
  by_leave = λ p e. sym (ap place_of e);
  by_put = λ p r e. absurd (cc);
}

module _ (x : Planned) (planned : IsPlanned x) where
  task_once : (t : Task) (z : Position) → IsPlaced t z → ((k : ResourceId) → task.delete k ≡ t → ⊥) → (u v : ℕ)
      → slice_get x.tasks u ≡ Some t → slice_get x.tasks v ≡ Some t → u ≡ v
  task_once t z placed other u v a b =
      let l = the_list x planned in
      let ds = task.deletes_in x.mode x.deployment.place x.keys x.held in
      listed_once (start_world x.known) t z placed x.deployment.template l.scopes ds x.tasks l.is_read
      (λ d i e.
      let k = deletes_alone x.mode x.deployment.place x.keys x.held d i in other k.0 (sym k.1 ∙ e))
      l.joined u v a b

  pub put_once : (q : Position) (s : Step) (u v : ℕ) → slice_get x.tasks u ≡ Some (task.put q s)
      → slice_get x.tasks v ≡ Some (task.put q s) → u ≡ v
  put_once q s u v a b = task_once (task.put q s) (s ∷ q) (put_placed q s) (λ k e. cc) u v a b

  pub leave_once : (q : Position) (u v : ℕ) → slice_get x.tasks u ≡ Some (task.leave q)
      → slice_get x.tasks v ≡ Some (task.leave q) → u ≡ v
  leave_once q u v a b = task_once (task.leave q) q (leave_placed q) (λ k e. cc) u v a b
