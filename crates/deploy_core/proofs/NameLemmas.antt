-- The names of tasks.
use Rattle.std.proofs.Common.{◌≡◌, ℕ, List, ◌++◌, codes, chars, Option, Some, None, refl, sym, ap, ◌∙◌}
use Rattle.std.specs.Prelude.{option_map, option_and_then, Result, Ok, Err, IfOk}
use Rattle.std.specs.declared.alloc.AllocError.{AllocError}
use Rattle.std.proofs.lemmas.Option.{same_Some}
use Rattle.deploy_cells.specs.Cells.{Position}
use Rattle.plan_cells.specs.Tasks as task
use Rattle.plan_cells.specs.Tasks.{Task}
use Rattle.deploy_histories.specs.Planned.{Planned}
use Rattle.deploy_histories.specs.Legal.{IsAct}
use Rattle.deploy_histories.specs.Outcome.{target}
use Rattle.task_standings.specs.declared.standing.Kind.{Kind}
use Rattle.task_standings.specs.declared.standing.Kind.TheVariants.{Enter, Put, Delete, Leave}
use Rattle.task_standings.specs.Standings.{kind_of, scope_of}
use Rattle.deploy_core.specs.Names.{name_in}
use Rattle.foundation.proofs.AsciiWords.{word}

pub scope_there : (o : Option Task) (k : Kind) → option_map kind_of o ≡ Some k → k ≡ Enter
    → (q : Position) × (option_and_then scope_of o ≡ Some q)
scope_there None k e i = let f : None ≡ Some k = e in absurd (cc)
scope_there (Some (task.enter q)) k e i = (q, refl)
scope_there (Some (task.leave q)) k e i = (q, refl)
scope_there (Some (task.put p s)) k e i = absurd (let f : Put ≡ Enter = same_Some Put k e ∙ i in cc)
scope_there (Some (task.delete c)) k e i = absurd (let f : Delete ≡ Enter = same_Some Delete k e ∙ i in cc)

pub scope_left : (o : Option Task) (k : Kind) → option_map kind_of o ≡ Some k → k ≡ Leave
    → (q : Position) × (option_and_then scope_of o ≡ Some q)
scope_left None k e i = let f : None ≡ Some k = e in absurd (cc)
scope_left (Some (task.enter q)) k e i = (q, refl)
scope_left (Some (task.leave q)) k e i = (q, refl)
scope_left (Some (task.put p s)) k e i = absurd (let f : Put ≡ Leave = same_Some Put k e ∙ i in cc)
scope_left (Some (task.delete c)) k e i = absurd (let f : Delete ≡ Leave = same_Some Delete k e ∙ i in cc)

pub act_put : (o : Option Task) (k : Kind) → option_map kind_of o ≡ Some k → k ≡ Put
    → (one : Task) × ((o ≡ Some one) × IsAct one)
act_put None k e i = let f : None ≡ Some k = e in absurd (cc)
act_put (Some (task.put p s)) k e i = (task.put p s, (refl, tt))
act_put (Some (task.delete c)) k e i = (task.delete c, (refl, tt))
act_put (Some (task.enter q)) k e i = absurd (let f : Enter ≡ Put = same_Some Enter k e ∙ i in cc)
act_put (Some (task.leave q)) k e i = absurd (let f : Leave ≡ Put = same_Some Leave k e ∙ i in cc)

pub act_delete : (o : Option Task) (k : Kind) → option_map kind_of o ≡ Some k → k ≡ Delete
    → (one : Task) × ((o ≡ Some one) × IsAct one)
act_delete None k e i = let f : None ≡ Some k = e in absurd (cc)
act_delete (Some (task.put p s)) k e i = (task.put p s, (refl, tt))
act_delete (Some (task.delete c)) k e i = (task.delete c, (refl, tt))
act_delete (Some (task.enter q)) k e i = absurd (let f : Enter ≡ Delete = same_Some Enter k e ∙ i in cc)
act_delete (Some (task.leave q)) k e i = absurd (let f : Leave ≡ Delete = same_Some Leave k e ∙ i in cc)

module _ (titled : Planned → Position → List ℕ) (x : Planned) (t : List ℕ) where
  pub named_enter : (o : Option Task) (k : Kind) → option_map kind_of o ≡ Some k → k ≡ Enter
      → option_map (λ q. chars (codes "enter ") ++ titled x q) (option_and_then scope_of o) ≡ Some t
      → name_in titled x o ≡ Some t
  named_enter None k e i n = let f : None ≡ Some k = e in absurd (cc)
  named_enter (Some (task.enter q)) k e i n =
      ap (λ w. Some (w ++ titled x q)) (sym (word (codes "enter ") refl)) ∙ n
  named_enter (Some (task.leave q)) k e i n = absurd (let f : Leave ≡ Enter = same_Some Leave k e ∙ i in cc)
  named_enter (Some (task.put p s)) k e i n = absurd (let f : Put ≡ Enter = same_Some Put k e ∙ i in cc)
  named_enter (Some (task.delete c)) k e i n = absurd (let f : Delete ≡ Enter = same_Some Delete k e ∙ i in cc)

  pub named_leave : (o : Option Task) (k : Kind) → option_map kind_of o ≡ Some k → k ≡ Leave
      → option_map (λ q. chars (codes "leave ") ++ titled x q) (option_and_then scope_of o) ≡ Some t
      → name_in titled x o ≡ Some t
  named_leave None k e i n = let f : None ≡ Some k = e in absurd (cc)
  named_leave (Some (task.leave q)) k e i n =
      ap (λ w. Some (w ++ titled x q)) (sym (word (codes "leave ") refl)) ∙ n
  named_leave (Some (task.enter q)) k e i n = absurd (let f : Enter ≡ Leave = same_Some Enter k e ∙ i in cc)
  named_leave (Some (task.put p s)) k e i n = absurd (let f : Put ≡ Leave = same_Some Put k e ∙ i in cc)
  named_leave (Some (task.delete c)) k e i n = absurd (let f : Delete ≡ Leave = same_Some Delete k e ∙ i in cc)

  pub named_act : (o : Option Task) (one : Task) → o ≡ Some one → IsAct one
      → option_map (λ a. a.id) (option_and_then (target x) o) ≡ Some t → name_in titled x o ≡ Some t
  named_act None one e i n = let f : None ≡ Some one = e in absurd (cc)
  named_act (Some (task.put p s)) one e i n = n
  named_act (Some (task.delete c)) one e i n = n
  named_act (Some (task.enter q)) one e i n = let f : None ≡ Some t = n in absurd (cc)
  named_act (Some (task.leave q)) one e i n = let f : None ≡ Some t = n in absurd (cc)

-- ---- a text that is returned

pub if_ok : {A B : List ℕ → Type 0} → ((t : List ℕ) → A t → B t) → (r : Result (List ℕ) AllocError) → IfOk r A
    → IfOk r B
if_ok f (Ok t) a = f t a
if_ok f (Err e) a = tt

pub scope_named : (o : Option Position) (f : Position → List ℕ) (w place t : List ℕ) → option_map f o ≡ Some place
    → t ≡ w ++ place → option_map (λ q. w ++ f q) o ≡ Some t
scope_named None f w place t e i = let g : None ≡ Some place = e in absurd (cc)
scope_named (Some q) f w place t e i =
    ap (λ (k : List ℕ). Some (w ++ k)) (same_Some (f q) place e) ∙ ap (λ (k : List ℕ). Some k) (sym i)
