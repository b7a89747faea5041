-- Each put of a plan has a key, and no two have one.
use Rattle.std.proofs.Common.{◌≡◌, ℕ, zero, suc, ◌≤◌, List, [], ◌∷◌, map, length, Option, Some, None, refl, sym, ap}
use Rattle.std.proofs.Common.{subst, ◌∙◌, arith}
use Rattle.std.specs.Prelude.{slice_get, option_map, is_some}
use Rattle.std.proofs.lemmas.Option.{same_Some}
use Rattle.arm_ids.specs.Held.{HeldResource}
use Rattle.arm_ids.specs.declared.id.ResourceId.{ResourceId}
use Rattle.reading.specs.Knowledge.{known_value}
use Rattle.tag_places.specs.Places.{Tag}
use Rattle.key_tags.specs.KeyCodes.{key_code}
use Rattle.deploy_cells.specs.Cells.{step, Position, World}
use Rattle.deploy_cells.specs.Puts.{Kind, IsPut, key_at}
use Rattle.plan_cells.specs.Desired.{kind_of, kinds}
use Rattle.plan_cells.specs.Meaning.{Deployment}
use Rattle.plan_cells.specs.Reads.{key_in}
use Rattle.plan_cells.specs.Start.{start_world}
use Rattle.plan_cells.specs.Tasks as cells
use Rattle.plan_cells.specs.Tasks.{enter, put}
use Rattle.plan_table.specs.declared.table.Table.{Table}
use Rattle.plan_table.specs.Opened.{Opened}
use Rattle.plan_table.specs.Whole.{scopes_of}
use Rattle.plan_table.specs.Found.{scope_at}
use Rattle.plan_tasks.specs.Start.{start_of, IsInstance, IsPutAt}
use Rattle.plan_needs.proofs.InstanceLemmas.{title, listed_there, name_there, key_there}
use Rattle.plan_telling.proofs.SymbolLemmas.{each_found}
use Rattle.point_states.specs.Plan.{Plan}
use Rattle.point_states.specs.Task.{Task}
use Rattle.point_states.specs.Task.TheVariants.{Enter, Put, Leave, Delete}
use Rattle.point_states.specs.Plans.{deployment_of, task_in, IsTaskIn, IsPlanned}
use Rattle.point_states.specs.Numbers.{puts_in, put_tags, AreApart, HaveOwnKeys}
use Rattle.point_states.specs.Lookups.{tag_in}
use Rattle.point_states.proofs.TagLemmas.{plan_tags}
use Rattle.deploy_histories.specs.Planned as histories
use Rattle.deploy_histories.specs.Planned.{Planned}
use Rattle.history_plans.specs.Planned.{planned_by}
use Rattle.history_starts.proofs.Puts.{put_once}
use Rattle.planned_tasks.proofs.PutLemmas.{put_included}
use Rattle.numbered_plans.proofs.ListLemmas.{mapped, of_mapped, one_key}

-- ---- as many keys as puts

-- each of these tasks that puts has a tag
abbrev AreTagged : List Task → List ResourceId → Type 0
AreTagged us ks =
    (i f r c : ℕ) → slice_get us i ≡ Some (Put f r c) → (t : Tag) × (slice_get (put_tags us ks) i ≡ Some (Some t))

enough : (us : List Task) (ks : List ResourceId) → AreTagged us ks → puts_in us ≤ length ks
enough [] ks h = omega arith
enough (Enter f ∷ us) ks h = enough us ks (λ i g r c e. h (suc i) g r c e)
enough (Leave f ∷ us) ks h = enough us ks (λ i g r c e. h (suc i) g r c e)
enough (Delete k ∷ us) ks h = enough us ks (λ i g r c e. h (suc i) g r c e)
enough (Put f r c ∷ us) [] h =
    let a = h zero f r c refl in let e : Some None ≡ Some (Some a.0) = a.1 in absurd (cc)
enough (Put f r c ∷ us) (k ∷ ks) h = let l = enough us ks (λ i g s d e. h (suc i) g s d e) in omega (arith, l)

-- ---- the puts of a plan

abbrev put_in : Position → cells.Task
put_in [] = enter []
put_in (s ∷ p) = put p s

module _ (p : Plan) (held : List HeldResource) (planned : IsPlanned p held)
    (history : histories.IsPlanned (planned_by p held)) where
  abbrev t : Table
  t = p.start.register.table

  abbrev os : List Opened
  os = scopes_of t

  abbrev us : List Task
  us = p.tasks.items

  abbrev ks : List ResourceId
  ks = p.keys.items

  abbrev x : Planned
  x = planned_by p held

  abbrev w : World
  w = start_world (start_of t)

  abbrev at : ℕ → Position
  at f = (scope_at t f).position

  -- an instance that a task puts, and its key
  record PutOf (d : Deployment) (f r c : ℕ) : Type 0 where
    kind : Kind
    name : List ℕ
    is_put : IsPut (kinds d) w (at f) (step r c) kind name
    has_key : key_in d w (at f) (step r c) ≡ Some (key_at d.place kind.type name)

  there : (u : ℕ) (y : Task) → slice_get us u ≡ Some y → slice_get x.tasks u ≡ Some (task_in os y)
  there u y e = mapped (task_in os) us u y e

  put_of : (u f r c : ℕ) → slice_get us u ≡ Some (Put f r c) → PutOf (deployment_of p) f r c
  put_of u f r c e =
      let i : IsInstance t f r c × IsPutAt t f r = each_found (IsTaskIn t) us planned.are_planned.of_table
      u (Put f r c) e in
      let n = i.0.number in
      subst (λ (d : Deployment). PutOf d f r c) planned.whole
      (record {
        kind = kind_of n.listed;
        name = title t f r c planned.table i.0;
        is_put = record {
          is_included = record {
            is_declared = ap (option_map kind_of) (listed_there t f r c planned.table i.0);
            has_condition = put_included x history (at f) (step r c) u (there u (Put f r c) e);
            has_name = ap known_value (name_there t f r c planned.table i.0);
          };
          is_resource = ap is_some (i.1 n.listed n.has);
        };
        has_key = key_there t f r c planned.table i.0;
      })

  tags_are : put_tags us ks ≡ map (tag_in x) x.tasks
  tags_are = plan_tags x os history us refl

  are_tagged : AreTagged us ks
  are_tagged i f r c e =
      let q = put_of i f r c e in (
        key_code (key_at (deployment_of p).place q.kind.type q.name),
        ap (λ (ts : List (Option Tag)). slice_get ts i) tags_are
            ∙ (mapped (tag_in x) x.tasks i (put (at f) (step r c)) (there i (Put f r c) e)
            ∙ ap (λ (o : Option ResourceId). Some (option_map (λ k. key_code k) o)) q.has_key),
      )

  -- a task that has a tag
  record TaggedPut (i : ℕ) (s : Tag) : Type 0 where
    frame : ℕ
    resource : ℕ
    copy : ℕ
    is_task : slice_get us i ≡ Some (Put frame resource copy)
    has_tag : tag_in x (put (at frame) (step resource copy)) ≡ Some s

  by_task : (i : ℕ) (s : Tag) (y : Task) → slice_get us i ≡ Some y → tag_in x (task_in os y) ≡ Some s → TaggedPut i s
  by_task i s (Put f r c) e h = record { frame = f; resource = r; copy = c; is_task = e; has_tag = h }
  by_task i s (Enter f) e h = let g : None ≡ Some s = h in absurd (cc)
  by_task i s (Leave f) e h = let g : None ≡ Some s = h in absurd (cc)
  by_task i s (Delete k) e h = let g : None ≡ Some s = h in absurd (cc)

  tagged : (i : ℕ) (s : Tag) → slice_get (put_tags us ks) i ≡ Some (Some s) → TaggedPut i s
  tagged i s e =
      let a = of_mapped (tag_in x) x.tasks i (Some s)
      (ap (λ (ts : List (Option Tag)). slice_get ts i) (sym tags_are) ∙ e) in
      let b = of_mapped (task_in os) us i a.one a.has in
      by_task i s b.one b.has (ap (tag_in x) b.is ∙ a.is)

  key_of : (i : ℕ) (s : Tag) (a : TaggedPut i s) (q : PutOf (deployment_of p) a.frame a.resource a.copy)
      → key_code (key_at (deployment_of p).place q.kind.type q.name) ≡ s
  key_of i s a q =
      same_Some (key_code (key_at (deployment_of p).place q.kind.type q.name)) s
      (ap (λ (o : Option ResourceId). option_map (λ k. key_code k) o) (sym q.has_key) ∙ a.has_tag)

  pub apart : AreApart (put_tags us ks)
  apart i j s e f =
      let a = tagged i s e in
      let b = tagged j s f in
      let y = put_of i a.frame a.resource a.copy a.is_task in
      let z = put_of j b.frame b.resource b.copy b.is_task in
      let key = one_key (key_at (deployment_of p).place y.kind.type y.name)
      (key_at (deployment_of p).place z.kind.type z.name) (key_of i s a y ∙ sym (key_of j s b z)) in
      let same : (step a.resource a.copy ∷ at a.frame) ≡ (step b.resource b.copy ∷ at b.frame) =
      history.resources_differ (at a.frame) (at b.frame) (step a.resource a.copy) (step b.resource b.copy) y.kind z.kind
      y.name z.name y.is_put z.is_put key in
      put_once x history (at a.frame) (step a.resource a.copy) i j
      (there i (Put a.frame a.resource a.copy) a.is_task)
      (there j (Put b.frame b.resource b.copy) b.is_task ∙ ap (λ (q : Position). Some (put_in q)) (sym same))

  pub own_keys : HaveOwnKeys us ks
  own_keys = record { enough = enough us ks are_tagged; apart = apart }
