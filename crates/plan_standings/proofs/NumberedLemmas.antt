-- The tasks that enter and leave scopes, by their numbers.
use Rattle.std.proofs.Common.{◌≡◌, ℕ, zero, suc, ◌<◌, Bool, true, false, List, [], ◌∷◌, map}
use Rattle.std.proofs.Common.{length, get_or, Option, Some, None, refl, sym, ap, subst, ◌∙◌, arith}
use Rattle.std.specs.Prelude.{slice_get, if◌then◌else◌}
use Rattle.std.proofs.lemmas.Bool.{or_left, or_right}
use Rattle.arm_ids.specs.declared.id.ResourceId.{ResourceId}
use Rattle.reading.specs.Reading.{pure}
use Rattle.reading.specs.Knowledge.{told}
use Rattle.deploy_cells.specs.Cells.{Position}
use Rattle.deploy_cells.proofs.SameLemmas.{position_same}
use Rattle.plan_cells.specs.Tasks.{Task, enter, leave}
use Rattle.plan_cells.specs.Needs.{started, ended, leaves, is_position, scope_of, is_entry_of, is_entered_by}
use Rattle.plan_cells.specs.Needs.{needs_by_order, depends_on, needs}
use Rattle.plan_cells.specs.Meaning.{Deployment}
use Rattle.plan_table.specs.declared.table.Table.{Table}
use Rattle.plan_table.specs.declared.line.Line.{Line}
use Rattle.plan_table.specs.Lines.{frame_of, line_at}
use Rattle.plan_table.proofs.FrameLemmas.{open_frame}
use Rattle.plan_table.specs.Whole.{scopes_of, IsLaid}
use Rattle.plan_table.specs.Opened.{Opened}
use Rattle.plan_table.specs.Found.{scope_at}
use Rattle.task_aims.specs.Task as plan
use Rattle.task_aims.specs.Task.TheVariants.{Enter, Put, Leave, Delete}
use Rattle.task_aims.specs.Plans.{task_in}
use Rattle.task_aims.specs.Numbers.{enter_tag, leave_tag, AreOfScopes}
use Rattle.task_aims.proofs.NumberLemmas.{first_has}
use Rattle.tag_places.specs.Places.{first_place}
use Rattle.deploy_histories.specs.Planned.{Planned}
use Rattle.deploy_histories.specs.Events.{Progress}
use Rattle.deploy_histories.specs.Readiness.{is_yes, needs_first}
use Rattle.task_standings.specs.Standings.{AreStartNeedsDone}
use Rattle.plan_standings.specs.Waits.{line_frame, IsEntered}

-- ---- a task by its tag

got_leave : (us : List plan.Task) (v f : ℕ) → slice_get (map leave_tag us) v ≡ Some (Some (f ∷ []))
    → slice_get us v ≡ Some (Leave f)
got_leave [] v f e = let h : None ≡ Some (Some (f ∷ [])) = e in absurd (cc)
got_leave (Leave g ∷ us) zero f e =
    let h : Some (Some (g ∷ [])) ≡ Some (Some (f ∷ [])) = e in
    let same : g ≡ f = cc in
    ap (λ k. Some (Leave k)) same
got_leave (Enter g ∷ us) zero f e = let h : Some None ≡ Some (Some (f ∷ [])) = e in absurd (cc)
got_leave (Put g r i ∷ us) zero f e = let h : Some None ≡ Some (Some (f ∷ [])) = e in absurd (cc)
got_leave (Delete k ∷ us) zero f e = let h : Some None ≡ Some (Some (f ∷ [])) = e in absurd (cc)
got_leave (u ∷ us) (suc v) f e = got_leave us v f e

got_enter : (us : List plan.Task) (v f : ℕ) → slice_get (map enter_tag us) v ≡ Some (Some (f ∷ []))
    → slice_get us v ≡ Some (Enter f)
got_enter [] v f e = let h : None ≡ Some (Some (f ∷ [])) = e in absurd (cc)
got_enter (Enter g ∷ us) zero f e =
    let h : Some (Some (g ∷ [])) ≡ Some (Some (f ∷ [])) = e in
    let same : g ≡ f = cc in
    ap (λ k. Some (Enter k)) same
got_enter (Leave g ∷ us) zero f e = let h : Some None ≡ Some (Some (f ∷ [])) = e in absurd (cc)
got_enter (Put g r i ∷ us) zero f e = let h : Some None ≡ Some (Some (f ∷ [])) = e in absurd (cc)
got_enter (Delete k ∷ us) zero f e = let h : Some None ≡ Some (Some (f ∷ [])) = e in absurd (cc)
got_enter (u ∷ us) (suc v) f e = got_enter us v f e

pub leave_at : (us : List plan.Task) (f v : ℕ) → first_place (f ∷ []) (map leave_tag us) ≡ Some v
    → slice_get us v ≡ Some (Leave f)
leave_at us f v e = got_leave us v f (first_has (f ∷ []) (map leave_tag us) v e).1

pub enter_at : (us : List plan.Task) (f v : ℕ) → first_place (f ∷ []) (map enter_tag us) ≡ Some v
    → slice_get us v ≡ Some (Enter f)
enter_at us f v e = got_enter us v f (first_has (f ∷ []) (map enter_tag us) v e).1

-- ---- the task of the plan

pub planned_task : (os : List Opened) (us : List plan.Task) (v : ℕ) (u : plan.Task) → slice_get us v ≡ Some u
    → slice_get (map (task_in os) us) v ≡ Some (task_in os u)
planned_task os [] v u e = let h : None ≡ Some u = e in absurd (cc)
planned_task os (w ∷ us) zero u e =
    let h : Some w ≡ Some u = e in
    let same : w ≡ u = cc in
    ap (λ y. Some (task_in os y)) same
planned_task os (w ∷ us) (suc v) u e = planned_task os us v u e

-- a scope is entered before its tasks, and before it is left
pub entered_before : (d : Deployment) (u v : Task) → is_entered_by d u v ≡ true → needs_by_order d u v ≡ true
entered_before d u v e = or_left (is_entered_by d u v) _ e

pub entered_itself : (d : Deployment) (q : Position) → needs_by_order d (leave q) (enter q) ≡ true
entered_itself d q =
    or_right (is_entered_by d (leave q) (enter q)) _
    (or_left (leaves d (leave q) (enter q)) _
    (or_right (is_position d q (scope_of d (enter q))) (is_entry_of d q (enter q)) (position_same q)))

module _ (x : Planned) where
  by_order : (u v : Task) → needs_by_order x.deployment u v ≡ true → needs_first x u v ≡ true
  unfolding needs told
  by_order u v e =
      ap (λ b. is_yes (told x.known (if b then pure true else depends_on x.deployment (started u) (ended v)))) e

  module _ (t : Table) (us : List plan.Task) (ks : List ResourceId)
      (tasks : map (task_in (scopes_of t)) us ≡ x.tasks) (scopes : AreOfScopes t us ks) where
    -- the scope is entered, where a task waits for that first
    pub start_entered : (p : Progress) (u : ℕ) (task : Task) → slice_get x.tasks u ≡ Some task
        → AreStartNeedsDone x p u → (f : ℕ) → f < length t.frames.items
        → needs_by_order x.deployment task (enter (scope_at t f).position) ≡ true
        → IsEntered x p (scope_at t f).position
    start_entered p u task e needs f h by =
        let n = scopes.entered f h in
        let has : slice_get x.tasks n.0 ≡ Some (enter (scope_at t f).position)
        = ap (λ (ts : List Task). slice_get ts n.0) (sym tasks)
        ∙ planned_task (scopes_of t) us n.0 (Enter f) (enter_at us f n.0 n.1) in
        record {
          number = n.0;
          is_task = has;
          is_done =
              needs task n.0 (enter (scope_at t f).position) e has
              (by_order task (enter (scope_at t f).position) by);
        }

    pub leave_task : (f v : ℕ) → slice_get us v ≡ Some (Leave f)
        → slice_get x.tasks v ≡ Some (leave (scope_at t f).position)
    leave_task f v e =
        ap (λ (ts : List Task). slice_get ts v) (sym tasks) ∙ planned_task (scopes_of t) us v (Leave f) e

    -- each scope has a task that leaves it
    pub leave_there : (f : ℕ) → f < length t.frames.items
        → (v : ℕ) × (slice_get x.tasks v ≡ Some (leave (scope_at t f).position))
    leave_there f h = let n = scopes.left f h in (n.0, leave_task f n.0 (leave_at us f n.0 n.1))

-- ---- the leave of the scope of a line

line_here : (ls : List Line) (j : ℕ) (x : Line) → j < length ls → x ≡ get_or ls j x → line_at ls j ≡ x
line_here [] j x h e = absurd (omega (arith, h))
line_here (y ∷ ls) zero x h e = sym e
line_here (y ∷ ls) (suc j) x h e = line_here ls j x (omega (arith, h)) e

no_number : (o : Option ℕ) (v : ℕ) → o ≡ None → o ≡ Some v → ⊥
no_number o v e f = let g : None ≡ Some v = sym e ∙ f in cc

module _ (t : Table) (us : List plan.Task) (ks : List ResourceId) (scopes : AreOfScopes t us ks) (laid : IsLaid t)
    (j : ℕ) (listed : j < length t.lines.items) (x : Line) (is : x ≡ get_or t.lines.items j x) (frame : ℕ)
    (of_line : frame ≡ frame_of x.spot) where
  frame_is : frame ≡ line_frame t j
  frame_is = of_line ∙ ap (λ (y : Line). frame_of y.spot) (sym (line_here t.lines.items j x listed is))

  frame_there : frame < length t.frames.items
  frame_there =
      subst (λ (f : ℕ). f < length t.frames.items) (sym frame_is)
      (open_frame t.frames.items (line_frame t j) (laid.placed j listed).there)

  pub never_none : (o : Option ℕ) → o ≡ first_place (frame ∷ []) (map leave_tag us) → o ≡ None → ⊥
  never_none o e n = let h = scopes.left frame frame_there in no_number o h.0 n (e ∙ h.1)

  pub leaver_at : (o : Option ℕ) (v : ℕ) → o ≡ first_place (frame ∷ []) (map leave_tag us) → o ≡ Some v
      → slice_get us v ≡ Some (Leave (line_frame t j))
  leaver_at o v e s =
      leave_at us frame v (sym e ∙ s) ∙ ap (λ (f : ℕ). Some (Leave f)) frame_is
