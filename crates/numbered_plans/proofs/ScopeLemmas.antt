-- Each scope of the table of a plan is entered and left, and each task is of the table.
use Rattle.std.proofs.Common.{◌≡◌, ℕ, ◌<◌, true, List, [], ◌∷◌, map, length, Some, refl, sym, ap, subst}
use Rattle.std.proofs.Common.{◌∙◌, arith}
use Rattle.std.proofs.lemmas.List.{length-map}
use Rattle.std.specs.Prelude.{slice_get}
use Rattle.arm_ids.specs.Held.{HeldResource}
use Rattle.arm_value.specs.Kinds.{is_true}
use Rattle.reading.specs.World.{Each}
use Rattle.reading.specs.Knowledge.{known_value}
use Rattle.deploy_cells.specs.Cells.{Step, step, Position, World, included, deployments}
use Rattle.plan_cells.specs.Children.{Has}
use Rattle.plan_cells.specs.Meaning.{Deployment}
use Rattle.plan_cells.specs.Scopes.{template_at}
use Rattle.plan_cells.specs.Start.{start_world}
use Rattle.plan_cells.specs.Tasks as cells
use Rattle.plan_cells.specs.Tasks.{enter, leave, put, delete, deletes_in}
use Rattle.plan_cells.proofs.ListLemmas.{has_left}
use Rattle.plan_filling.specs.Rows.{status_of}
use Rattle.plan_filling.specs.Final.{or_unlisted}
use Rattle.plan_table.specs.declared.line.Spot.TheVariants.{Deployments}
use Rattle.plan_table.specs.declared.table.Table.{Table}
use Rattle.plan_table.specs.Opened.{opened_of}
use Rattle.plan_table.specs.Lines.{cell_of, status_in}
use Rattle.plan_table.specs.Whole.{whole_of, scopes_of, rows_in}
use Rattle.plan_table.specs.Found.{scope_at, state_at}
use Rattle.plan_table.proofs.HaltLemmas.{one_scope}
use Rattle.plan_sight.specs.Ready.{IsReady}
use Rattle.plan_sight.proofs.LookLemmas.{status_at}
use Rattle.plan_places.proofs.PlaceLemmas.{admitted_by}
use Rattle.plan_tasks.specs.Start.{start_of}
use Rattle.plan_needs.proofs.InstanceLemmas.{few}
use Rattle.plan_telling.proofs.SymbolLemmas.{each_found}
use Rattle.point_states.specs.Plan.{Plan}
use Rattle.point_states.specs.Task.{Task}
use Rattle.point_states.specs.Task.TheVariants.{Enter, Put, Leave, Delete}
use Rattle.point_states.specs.Plans.{task_in, IsTaskIn, IsPlanned}
use Rattle.point_states.specs.Numbers.{IsOfTable, enter_tag, leave_tag, HasPlace}
use Rattle.deploy_histories.specs.Planned as histories
use Rattle.deploy_histories.specs.Planned.{Planned}
use Rattle.history_laws.proofs.OneWorld.{has_number}
use Rattle.history_plans.specs.Planned.{planned_by}
use Rattle.history_starts.proofs.Listed.{IsThere, entered_listed, left_listed}
use Rattle.history_starts.proofs.Start.{opened, the_list, there}
use Rattle.numbered_plans.proofs.ListLemmas.{mapped, of_mapped, placed}

-- the scope of a task that enters or leaves one
abbrev scope_in : cells.Task → Position
scope_in (enter q) = q
scope_in (leave q) = q
scope_in (put q s) = q
scope_in (delete k) = []

module _ (p : Plan) (held : List HeldResource) (planned : IsPlanned p held)
    (history : histories.IsPlanned (planned_by p held)) where
  abbrev t : Table
  t = p.start.register.table

  abbrev us : List Task
  us = p.tasks.items

  abbrev x : Planned
  x = planned_by p held

  abbrev w : World
  w = start_world (start_of t)

  ready : IsReady t
  ready = record { laid = planned.table.laid; sound = planned.table.filled.sound }

  within : (f : ℕ) → f < length t.frames.items → f < length (scopes_of t)
  within f h = let n = length-map t.frames.items opened_of in omega (arith, n, h)

  -- ---- each scope is there

  opened_by : (f : ℕ) → f < length t.frames.items → (q : Position) → (scope_at t f).position ≡ q
      → opened x history q ≡ true
  opened_by f h [] e = refl
  opened_by f h (s ∷ q) e =
      let l = planned.table.laid.cells f (within f h) (Deployments f) refl tt tt in
      let found : status_of (rows_in t) (deployments (s ∷ q)) ≡ Some (status_in (state_at t l.line)) =
      ap (status_of (rows_in t)) (sym (ap (cell_of (scopes_of t)) l.is ∙ ap deployments e))
      ∙ status_at t l.line ready l.listed in
      let a = admitted_by t ready (deployments (s ∷ q)) (included q s) (status_in (state_at t l.line)) found refl in
      ap (λ o. is_true (known_value (or_unlisted (status_of (rows_in t)) (included q s) o))) a.has ∙ a.admitted

  scope_there : (f : ℕ) → f < length t.frames.items → IsThere w x.deployment.template (scope_at t f).position
  scope_there f h =
      there x history (scope_at t f).position (scope_at t f).template
      (subst (λ (d : Deployment). template_at d.template (scope_at t f).position ≡ Some (scope_at t f).template)
      planned.whole (planned.table.laid.kept f (within f h)).template)
      (opened_by f h (scope_at t f).position refl)

  abbrev AmongTasks : cells.Task → Type 0
  AmongTasks y = (u : ℕ) × (slice_get x.tasks u ≡ Some y)

  among : (y : cells.Task) → Has y (the_list x history).scopes → AmongTasks y
  among y i =
      let l = the_list x history in
      has_number x.tasks y
      (subst (λ (ts : List cells.Task). Has y ts) (sym l.joined)
      (has_left y l.scopes (deletes_in x.mode x.deployment.place x.keys x.held) i))

  enter_among : (f : ℕ) → f < length t.frames.items → AmongTasks (enter (scope_at t f).position)
  enter_among f h =
      let l = the_list x history in
      among (enter (scope_at t f).position)
      (entered_listed w x.deployment.template (scope_at t f).position l.scopes (scope_there f h) l.is_read)

  leave_among : (f : ℕ) → f < length t.frames.items → AmongTasks (leave (scope_at t f).position)
  leave_among f h =
      let l = the_list x history in
      among (leave (scope_at t f).position)
      (left_listed w x.deployment.template (scope_at t f).position l.scopes (scope_there f h) l.is_read)

  -- ---- the task has the number of the scope

  one_frame : (f g : ℕ) → f < length t.frames.items → g < length t.frames.items
      → (scope_at t g).position ≡ (scope_at t f).position → g ≡ f
  one_frame f g h k e =
      one_scope (whole_of t) (scopes_of t) t.index t.lines.items planned.table.laid planned.table.filled.sound.distinct
      g f (within g k) (within f h) e

  enter_by : (f u : ℕ) → f < length t.frames.items → (y : Task) → slice_get us u ≡ Some y
      → task_in (scopes_of t) y ≡ enter (scope_at t f).position → slice_get us u ≡ Some (Enter f)
  enter_by f u h (Enter g) e i =
      let k : g < length t.frames.items = each_found (IsTaskIn t) us planned.are_planned.of_table u (Enter g) e in
      e ∙ ap (λ n. Some (Enter n)) (one_frame f g h k (ap scope_in i))
  enter_by f u h (Leave g) e i =
      let j : leave (scope_at t g).position ≡ enter (scope_at t f).position = i in absurd (cc)
  enter_by f u h (Delete k) e i = let j : delete k ≡ enter (scope_at t f).position = i in absurd (cc)
  enter_by f u h (Put g r c) e i = absurd (no_put (scope_at t g).position (step r c) i)
    where
      no_put : (q : Position) (s : Step) → put q s ≡ enter (scope_at t f).position → ⊥
      no_put q s e = cc

  leave_by : (f u : ℕ) → f < length t.frames.items → (y : Task) → slice_get us u ≡ Some y
      → task_in (scopes_of t) y ≡ leave (scope_at t f).position → slice_get us u ≡ Some (Leave f)
  leave_by f u h (Leave g) e i =
      let k : g < length t.frames.items = each_found (IsTaskIn t) us planned.are_planned.of_table u (Leave g) e in
      e ∙ ap (λ n. Some (Leave n)) (one_frame f g h k (ap scope_in i))
  leave_by f u h (Enter g) e i =
      let j : enter (scope_at t g).position ≡ leave (scope_at t f).position = i in absurd (cc)
  leave_by f u h (Delete k) e i = let j : delete k ≡ leave (scope_at t f).position = i in absurd (cc)
  leave_by f u h (Put g r c) e i = absurd (no_put (scope_at t g).position (step r c) i)
    where
      no_put : (q : Position) (s : Step) → put q s ≡ leave (scope_at t f).position → ⊥
      no_put q s e = cc

  pub entered : (f : ℕ) → f < length t.frames.items → HasPlace (map enter_tag us) f
  entered f h =
      let a = enter_among f h in
      let b = of_mapped (task_in (scopes_of t)) us a.0 (enter (scope_at t f).position) a.1 in
      placed (f ∷ []) (map enter_tag us) a.0
      (mapped enter_tag us a.0 (Enter f) (enter_by f a.0 h b.one b.has b.is))

  pub left : (f : ℕ) → f < length t.frames.items → HasPlace (map leave_tag us) f
  left f h =
      let a = leave_among f h in
      let b = of_mapped (task_in (scopes_of t)) us a.0 (leave (scope_at t f).position) a.1 in
      placed (f ∷ []) (map leave_tag us) a.0
      (mapped leave_tag us a.0 (Leave f) (leave_by f a.0 h b.one b.has b.is))

  -- ---- each task

  of_task : (y : Task) → IsTaskIn t y → IsOfTable t y
  of_task (Enter f) h = h
  of_task (Leave f) h = h
  of_task (Delete k) h = tt
  of_task (Put f r c) h = (h.0.there, (h.0.number, (few t f r c planned.table h.0, h.1)))

  each_task : (ys : List Task) → Each (IsTaskIn t) ys → Each (IsOfTable t) ys
  each_task [] h = tt
  each_task (y ∷ ys) h = (of_task y h.0, each_task ys h.1)

  pub of_table : Each (IsOfTable t) us
  of_table = each_task us planned.are_planned.of_table
