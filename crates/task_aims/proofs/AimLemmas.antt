-- What a put is for, by the line of its name.
use Rattle.std.proofs.Common.{◌≡◌, ℕ, ◌<◌, List, [], length, get_or, Option, Some, None, refl, sym, ap}
use Rattle.std.proofs.Common.{◌∙◌}
use Rattle.std.specs.Prelude.{slice_get, option_map, option_and_then, Result, Ok, Err, IfOk}
use Rattle.std.specs.declared.alloc.AllocError.{AllocError}
use Rattle.std.proofs.lemmas.Option.{none-some, same_Some, slice_get-map, slice_get-get_or, slice_get_within}
use Rattle.arm_value.specs.Json.{Json, null, bool, int, text, array, object}
use Rattle.arm_value.specs.View.{json}
use Rattle.arm_value.specs.declared.value.Value.{Value}
use Rattle.arm_ids.specs.Id.{text_of}
use Rattle.arm_ids.specs.Held.{HeldResource}
use Rattle.provider_trait.specs.declared.act.Act.TheVariants as act
use Rattle.arm_ids.specs.declared.id.Place.{Place}
use Rattle.reading.specs.World.{Each}
use Rattle.reading.specs.Knowledge.{known_value}
use Rattle.deploy_cells.specs.Cells.{step, Position, name}
use Rattle.deploy_cells.specs.Puts.{Kind, id_at}
use Rattle.plan_cells.specs.Desired.{kinds, kind_of}
use Rattle.plan_cells.specs.Meaning.{Deployment}
use Rattle.plan_cells.specs.Start.{start_world}
use Rattle.plan_cells.specs.Tasks as tasks
use Rattle.plan_cells.specs.Tasks.{put}
use Rattle.plan_table.specs.declared.frame.Frame.{Frame}
use Rattle.plan_table.specs.declared.line.Line.{Line}
use Rattle.plan_table.specs.declared.line.State.{State}
use Rattle.plan_table.specs.declared.listed.Listed.{Listed}
use Rattle.plan_table.specs.declared.table.Table.{Table}
use Rattle.plan_table.specs.Listed.{listed_of}
use Rattle.plan_table.specs.Whole.{whole_of, scopes_of}
use Rattle.plan_table.specs.Found.{scope_at, IsLineOf}
use Rattle.plan_tasks.specs.Start.{start_of, IsStartTable, IsInstance}
use Rattle.plan_tasks.proofs.TableLemmas.{line_known, line_is}
use Rattle.plan_tasks.proofs.BodyLemmas.{listed_is}
use Rattle.plan_needs.proofs.InstanceLemmas.{title, listed_there, name_there}
use Rattle.point_states.specs.Plan.{Plan}
use Rattle.point_states.specs.Task.{Task}
use Rattle.point_states.specs.Plans.{task_in, IsTaskIn, IsPlanned}
use Rattle.plan_telling.proofs.SymbolLemmas.{each_found}
use Rattle.plan_paths.specs.Texts.{a_position, scope_text}
use Rattle.deploy_histories.specs.Planned.{Planned}
use Rattle.deploy_histories.specs.Outcome.{Target, target, target_of, put_target, delete_target}
use Rattle.point_states.specs.Planned.{planned_by}
use Rattle.task_standings.specs.Standings.{scope_of}
use Rattle.task_standings.specs.declared.standing.Aim.{Aim}
use Rattle.task_aims.specs.Aims.{target_by, named_target, IsAimOf, said_by, target_at, place_text}

-- ---- what the put of an instance is for

module _ (t : Table) (f r i : ℕ) (start : IsStartTable t) (h : IsInstance t f r i) where
  pub target_there : (a : Target) × (target_at t f r i ≡ Some a)
  target_there = (
    record {
      act = act.Put;
      id = text_of (id_at (whole_of t).place (kind_of h.number.listed).type (title t f r i start h));
      api = (kind_of h.number.listed).api;
    },
    ap (λ o. put_target (whole_of t).place (option_map kind_of o)
        (start_world (start_of t) (name (scope_at t f).position (step r i)))) (listed_there t f r i start h)
        ∙ ap (λ k. put_target (whole_of t).place (Some (kind_of h.number.listed)) (known_value k))
        (name_there t f r i start h),
  )

module _ (g : Plan) (held : List HeldResource) (planned : IsPlanned g held) (f r i : ℕ) where
  abbrev x : Planned
  x = planned_by g held

  abbrev q : Position
  q = (scope_at g.start.register.table f).position

  is_target : (d : Deployment) → d ≡ whole_of g.start.register.table
      → put_target d.place (kinds d q r) (start_world x.known (name q (step r i)))
      ≡ target_at g.start.register.table f r i
  is_target d e =
      ap (λ (b : Deployment). put_target b.place (kinds b q r) (start_world x.known (name q (step r i)))) e

  pub target_of_put : target x (put q (step r i)) ≡ target_at g.start.register.table f r i
  target_of_put = is_target x.deployment (sym planned.whole)

-- ---- the name

-- what a put is for that has a value as its name
pub title_by : (place : Place) (k : Kind) (j : Json) (g : Target) → put_target place (Some k) (Some j) ≡ Some g
    → (n : List ℕ) × (j ≡ text n)
title_by place k (text n) g e = (n, refl)
title_by place k null g e = absurd (none-some g e)
title_by place k (bool b) g e = absurd (none-some g e)
title_by place k (int z) g e = absurd (none-some g e)
title_by place k (array js) g e = absurd (none-some g e)
title_by place k (object ms) g e = absurd (none-some g e)

pub named_so : (place : Place) (l : Listed) (v : Value) (n : List ℕ) → json v ≡ text n → (r : Result Aim AllocError)
    → IfOk r (λ a. target_by a ≡ named_target place l n) → IfOk r (IsAimOf place l v)
named_so place l v n e (Ok a) h =
    ap (λ j. put_target place (Some (kind_of (listed_of l))) (Some j)) e ∙ ap (λ g. Some g) (sym h)
named_so place l v n e (Err b) h = tt

-- ---- the line of the name

module _ (t : Table) (f r i j : ℕ) (fr : Frame) (p : Listed) (l : Line) (start : IsStartTable t)
    (h : IsInstance t f r i) (line : IsLineOf t f (name (scope_at t f).position (step r i)) j)
    (e : fr ≡ get_or t.frames.items f fr) (m : p ≡ get_or fr.resources.items r p)
    (n : l ≡ get_or t.lines.items j l) where
  pub said_here : target_at t f r i ≡ said_by (whole_of t).place p l.state
  said_here =
      ap (λ o. put_target (whole_of t).place (option_map kind_of o)
      (start_world (start_of t) (name (scope_at t f).position (step r i)))) (listed_there t f r i start h)
      ∙ ap (λ y. put_target (whole_of t).place (Some (kind_of y))
      (start_world (start_of t) (name (scope_at t f).position (step r i))))
      (listed_is t f r fr p h.number.listed h.there e m h.number.has)
      ∙ ap (λ k. put_target (whole_of t).place (Some (kind_of (listed_of p))) (known_value k))
      (line_known t f (name (scope_at t f).position (step r i)) j start.filled.sound.distinct line)
      ∙ ap (λ (s : State). said_by (whole_of t).place p s)
      (ap (λ (y : Line). y.state) (line_is t.lines.items j l line.listed n))

-- ---- the task of a number

module _ (g : Plan) (held : List HeldResource) (u : ℕ) where
  abbrev ts : List tasks.Task
  ts = (planned_by g held).tasks

  abbrev in_plan : Task → tasks.Task
  in_plan = task_in (scopes_of g.start.register.table)

  by_number : (o : Option Task) (a : tasks.Task) → slice_get g.tasks.items u ≡ o → option_map in_plan o ≡ Some a
      → (b : Task) × (slice_get g.tasks.items u ≡ Some b)
  by_number None a e f = absurd (none-some a f)
  by_number (Some b) a e f = (b, e)

  pub is_within : (a : tasks.Task) → slice_get ts u ≡ Some a → u < length g.tasks.items
  is_within a e =
      let b = by_number (slice_get g.tasks.items u) a refl (sym (slice_get-map in_plan g.tasks.items u) ∙ e) in
      slice_get_within g.tasks.items u b.0 b.1

  module _ (task found : Task) (is : found ≡ get_or g.tasks.items u found) (found_is : found ≡ task)
      (within : u < length g.tasks.items) where
    pub is_here : slice_get g.tasks.items u ≡ Some task
    is_here =
        slice_get-get_or g.tasks.items u found within ∙ ap (λ (y : Task). Some y) (sym is ∙ found_is)

    pub in_plan_here : slice_get ts u ≡ Some (in_plan task)
    in_plan_here = slice_get-map in_plan g.tasks.items u ∙ ap (option_map in_plan) is_here

    pub here_in : Each (IsTaskIn g.start.register.table) g.tasks.items → IsTaskIn g.start.register.table task
    here_in all = each_found (IsTaskIn g.start.register.table) g.tasks.items all u task is_here

    pub same_here : (a : tasks.Task) → slice_get ts u ≡ Some a → in_plan task ≡ a
    same_here a e = same_Some (in_plan task) a (sym in_plan_here ∙ e)

    -- what it is for
    pub aims_so : (o : Option Target) → target (planned_by g held) (in_plan task) ≡ o → (r : Result Aim AllocError)
        → IfOk r (λ a. o ≡ Some (target_by a))
        → IfOk r (λ a. target_of (planned_by g held) u ≡ Some (target_by a))
    aims_so o e (Ok a) h = ap (option_and_then (target (planned_by g held))) in_plan_here ∙ e ∙ h
    aims_so o e (Err b) h = tt

    pub placed_here : (o : Option (List ℕ))
        → option_map (scope_text a_position (whole_of g.start.register.table).template) (scope_of (in_plan task)) ≡ o
        → place_text g u ≡ o
    placed_here o e =
        ap (λ y. option_map (scope_text a_position (whole_of g.start.register.table).template)
        (option_and_then scope_of y)) in_plan_here ∙ e

    pub places_so : (n : List ℕ)
        → option_map (scope_text a_position (whole_of g.start.register.table).template) (scope_of (in_plan task))
        ≡ Some n → (r : Result (List ℕ) AllocError) → IfOk r (λ t. t ≡ n) → IfOk r (λ t. place_text g u ≡ Some t)
    places_so n e (Ok t) h = placed_here (Some n) e ∙ ap (λ m. Some m) (sym h)
    places_so n e (Err b) h = tt

pub placed_within : (g : Plan) (u : ℕ) (n : List ℕ) → place_text g u ≡ Some n → u < length g.tasks.items
placed_within g u n e = by_task (slice_get (planned_by g []).tasks u) refl e
  where
    by_task : (o : Option tasks.Task) → slice_get (planned_by g []).tasks u ≡ o
        → option_map (scope_text a_position (whole_of g.start.register.table).template) (option_and_then scope_of o)
        ≡ Some n → u < length g.tasks.items
    by_task None a b = absurd (none-some n b)
    by_task (Some t) a b = is_within g [] u t a

-- ---- what is held

pub deleted_so : (o : Option HeldResource) (h : HeldResource) (id : List ℕ) → o ≡ Some h → h.id ≡ id
    → (r : Result Aim AllocError)
    → IfOk r (λ a. (b : HeldResource) → b.id ≡ id → delete_target (Some b) ≡ Some (target_by a))
    → IfOk r (λ a. delete_target o ≡ Some (target_by a))
deleted_so o h id e f (Ok a) k = ap delete_target e ∙ k h f
deleted_so o h id e f (Err b) k = tt
