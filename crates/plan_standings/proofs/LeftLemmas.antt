-- What is kept of a plan under way: at its start, after a task was looked at, and after a scope was left.
use Rattle.std.proofs.Common.{◌≡◌, inl, inr, ℕ, ◌<◌, List, [], ◌∷◌, length, Option, Some, sym, ap, subst, ◌∙◌}
use Rattle.std.proofs.Common.{arith}
use Rattle.std.specs.Prelude.{slice_get}
use Rattle.std.proofs.lemmas.List.{length-map}
use Rattle.std.proofs.lemmas.Option.{same_Some}
use Rattle.arm_ids.specs.Held.{HeldResource}
use Rattle.reading.specs.World.{Each}
use Rattle.reading.specs.Knowledge.{IsThere}
use Rattle.template_tree.specs.Tree.{TemplateTree}
use Rattle.deploy_cells.specs.Cells.{Position, offered, output}
use Rattle.plan_cells.specs.Children.{Has, output_names}
use Rattle.plan_cells.specs.Meaning.{Deployment}
use Rattle.plan_cells.specs.Scopes.{template_at}
use Rattle.plan_cells.specs.Tasks.{enter, leave}
use Rattle.plan_table.specs.declared.table.Table.{Table}
use Rattle.plan_table.specs.Opened.{opened_of}
use Rattle.plan_table.specs.Whole.{whole_of, scopes_of}
use Rattle.plan_table.specs.Found.{scope_at}
use Rattle.plan_sight.specs.Ready.{IsReady}
use Rattle.scope_faults.proofs.SymbolLemmas.{each_found}
use Rattle.task_aims.specs.Plan.{Plan}
use Rattle.task_aims.specs.Task.TheVariants.{Leave}
use Rattle.task_aims.specs.Plans.{deployment_of, task_in, IsPlanned}
use Rattle.task_aims.specs.Numbers.{IsOfTable}
use Rattle.deploy_histories.specs.Planned as histories
use Rattle.deploy_histories.specs.Planned.{Planned}
use Rattle.deploy_histories.specs.Events.{Event, Progress, progress, at_opening, IsDone}
use Rattle.deploy_histories.specs.Legal.{IsLegal}
use Rattle.task_aims.specs.Planned.{planned_by}
use Rattle.point_values.specs.Seen.{IsSeen}
use Rattle.point_rows.specs.declared.later.Later.{Later}
use Rattle.point_rows.specs.Rows.{known_now, IsFit}
use Rattle.point_knowledge.specs.Steps.{IsBlank}
use Rattle.scope_faults.specs.Entries.{line_cell, IsToldEntry, AreTold}
use Rattle.scope_faults.specs.Outputs.{names_of, AreNoted, IsKept, Leaves}
use Rattle.scope_faults.proofs.KeepLemmas.{noted_within}
use Rattle.task_standings.specs.Standings.{AreScopesSeen, IsScopeSeen}
use Rattle.plan_standings.specs.Waits.{table_of, IsAtPoint}
use Rattle.plan_standings.proofs.NumberedLemmas.{planned_task}
use Rattle.plan_standings.specs.declared.leaving.Outputs.{Outputs}
use Rattle.plan_standings.specs.declared.standings.PlanStandings.{PlanStandings}
use Rattle.plan_standings.specs.Kept.{planned_of, known_of, IsSound, IsNoted}

-- a table of a plan may be asked
pub ready_table : (g : Plan) (held : List HeldResource) → IsPlanned g held → IsReady (table_of g)
ready_table g held p = record { laid = p.table.laid; sound = p.table.filled.sound }

-- ---- at the start

module _ (g : Plan) (held : List HeldResource) (planned : IsPlanned g held)
    (has : histories.IsPlanned (planned_by g held)) (l : Later)
    (blank : IsBlank l) where
  pub blank_told : AreTold (table_of g) l
  blank_told j h s =
      subst (IsToldEntry (table_of g) l (line_cell (table_of g) j)) (sym (blank.no_entry j)) tt

  pub blank_seen : ((x : Planned) (p : Progress) (t : Table) (l : Later) → histories.IsPlanned x
      → x.deployment ≡ whole_of t → IsReady t → IsBlank l → IsSeen x p (known_now t l))
      → IsSeen (planned_by g held) at_opening (known_now (table_of g) l)
  blank_seen law =
      law (planned_by g held) at_opening (table_of g) l has (sym planned.whole) (ready_table g held planned) blank

-- ---- a task was looked at

pub at_point : (s : PlanStandings) (h : List Event) → IsSound s → IsLegal (planned_of s) h
    → IsSeen (planned_of s) (progress h) (known_of s) → AreScopesSeen (planned_of s) (progress h) (known_of s)
    → IsAtPoint s.plan.now s.held.now s.numbers h s.later
at_point s h sound legal seen scopes = record {
  under_way = record {
    is_planned = sound.is_planned;
    has_histories = sound.has_histories;
    numbers = sound.numbers;
    legal = legal;
  };
  fit = sound.fit;
  kept = record { seen = seen; scopes = scopes };
}

pub number_within : (s : PlanStandings) (u : ℕ) → u < length (planned_of s).tasks → u < length s.plan.now.tasks.items
number_within s u h =
    let m = length-map s.plan.now.tasks.items (task_in (scopes_of (table_of s.plan.now))) in omega (arith, m, h)

-- what is kept is sound still
pub sound_after : (s : PlanStandings) → IsSound s → (m : Later) (o : Option Outputs) → IsFit (table_of s.plan.now) m
    → AreTold (table_of s.plan.now) m → IsSound (record s { later = m; noted = o })
sound_after s h m o fit told = record {
  is_planned = h.is_planned;
  has_histories = h.has_histories;
  numbers = h.numbers;
  fit = fit;
  told = told;
}

-- ---- a scope was left

module _ (g : Plan) (held : List HeldResource) (planned : IsPlanned g held)
    (has : histories.IsPlanned (planned_by g held)) (l m : Later) (fit : IsFit (table_of g) l) (u : ℕ)
    (o : Option Outputs) (n : IsNoted g l o u) where
  abbrev x : Planned
  x = planned_by g held

  abbrev t : Table
  t = table_of g

  abbrev q : Position
  q = (scope_at t n.frame).position

  abbrev d : Deployment
  d = deployment_of g

  noted_is : (k : Outputs) → o ≡ Some k → n.noted ≡ k
  noted_is k e = same_Some n.noted k (sym n.is ∙ e)

  -- the lines of what is noted have entries
  pub are_within : (k : Outputs) → o ≡ Some k → Each (λ y. y.at < length l.entries.items) k.told.items
  are_within k e =
      noted_within t n.frame l (names_of t n.frame) k.told.items fit
      (subst (λ (z : Outputs). AreNoted t l n.frame (names_of t n.frame) z.told.items) (noted_is k e) n.are_noted)

  -- what is kept of them after that
  pub leaves_by : ((k : Outputs) → o ≡ Some k → (t : Table) (f : ℕ) → IsReady t → IsFit t l
      → AreNoted t l f (names_of t f) k.told.items → Leaves t f l m) → Leaves t n.frame l m
  leaves_by keeps = keeps n.noted n.is t n.frame (ready_table g held planned) fit n.are_noted

  pub kept_by : ((k : Outputs) → o ≡ Some k → (t : Table) (f : ℕ) → IsReady t → IsFit t l
      → AreNoted t l f (names_of t f) k.told.items → Each (IsKept t m f) (names_of t f))
      → Each (IsKept t m n.frame) (names_of t n.frame)
  kept_by keeps = keeps n.noted n.is t n.frame (ready_table g held planned) fit n.are_noted

  pub left_there : Each (IsOfTable t) g.tasks.items → n.frame < length t.frames.items
  left_there all = each_found (IsOfTable t) g.tasks.items all u (Leave n.frame) n.is_task

  is_task : slice_get x.tasks u ≡ Some (leave q)
  is_task = planned_task (scopes_of t) g.tasks.items u (Leave n.frame) n.is_task

  module _ (leaves : Leaves t n.frame l m) where
    pub left_seen : ((x : Planned) → histories.IsPlanned x → (q : Position) (v w : ℕ)
        → slice_get x.tasks v ≡ Some (leave q) → slice_get x.tasks w ≡ Some (leave q) → v ≡ w)
        → (p : Progress) → IsDone p u → IsSeen x p (known_now t l) → IsSeen x p (known_now t m)
    left_seen once p done seen =
        leaves.seen x p (sym planned.whole)
        (record {
          number = u;
          is_task = is_task;
          are_done = λ v e. subst (λ (w : ℕ). IsDone p w) (once x has q u v is_task e) done;
        })
        seen

  same_leave : (a b : Position) → Some (leave a) ≡ Some (leave b) → a ≡ b
  same_leave a b e = cc

  not_enter : (a b : Position) → Some (leave a) ≡ Some (enter b) → ⊥
  not_enter a b e = cc

  template_is : (there : n.frame < length t.frames.items)
      → template_at d.template q ≡ Some (scope_at t n.frame).template
  template_is there =
      subst (λ (b : Deployment). template_at b.template q ≡ Some (scope_at t n.frame).template) planned.whole
      (planned.table.laid.kept n.frame
      (let k = length-map t.frames.items opened_of in omega (arith, k, there))).template

  has_each : (P : List ℕ → Type 0) (ys : List (List ℕ)) (y : List ℕ) → Each P ys → Has y ys → P y
  has_each P [] y a h = absurd h
  has_each P (z ∷ ys) y a h = elim h [ inl e ↦ subst P e a.0 | inr i ↦ has_each P ys y a.1 i ]

  pub scope_seen : n.frame < length t.frames.items → Each (IsKept t m n.frame) (names_of t n.frame)
      → IsScopeSeen x (known_now t m) u
  scope_seen there kept = record {
    entered = λ r e c i. absurd (not_enter q r (sym is_task ∙ e));
    left = λ r y z e f i.
        let at = same_leave q r (sym is_task ∙ e) in
        let is = same_Some (scope_at t n.frame).template z
        (sym (template_is there) ∙ ap (template_at d.template) at ∙ f) in
        subst (λ (a : Position). IsThere (known_now t m (offered a y)) × IsThere (known_now t m (output a y))) at
        (has_each (IsKept t m n.frame) (names_of t n.frame) y kept
        (subst (λ (b : TemplateTree). Has y (output_names b)) (sym is) i));
  }
