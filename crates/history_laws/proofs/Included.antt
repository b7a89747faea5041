-- The puts of a plan in a desired state of its template, and what is known at the start.
use Rattle.std.proofs.Common.{◌≡◌, inl, inr, ℕ, true, false, true≢false, List, [], ◌++◌}
use Rattle.std.proofs.Common.{Option, Some, None, refl, sym, ap, subst, ◌∙◌}
use Rattle.std.specs.Prelude.{option_map, option_and_then, is_some}
use Rattle.std.specs.List.{list_any}
use Rattle.std.proofs.lemmas.Option.{same_Some}
use Rattle.foundation.proofs.Options.{none_there}
use Rattle.arm_value.specs.Json.{Json, null, bool, int, text, array, object}
use Rattle.arm_ids.specs.Id.{text_of}
use Rattle.arm_ids.specs.declared.id.Place.{Place}
use Rattle.arm_ids.specs.declared.id.ResourceId.{ResourceId}
use Rattle.reading.specs.Reading.{pure, continued}
use Rattle.reading.specs.World.{value_in}
use Rattle.reading.specs.Knowledge.{Known, known, Holds, Completes, known_value, told}
use Rattle.reading.proofs.Parts.{value_in-continued}
use Rattle.provider_trait.specs.declared.act.Act.TheVariants.{Put}
use Rattle.deploy_cells.specs.Cells.{Step, Position, Cell, parameter, variable, offered, output, count, included, name}
use Rattle.deploy_cells.specs.Cells.{deployments, state, World}
use Rattle.deploy_cells.specs.Guarded.{Reads, there_if, IsWorld}
use Rattle.deploy_cells.specs.Puts.{Kind, IsPut, IsPutAt, body_in, id_at, key_at}
use Rattle.deploy_cells.specs.Same.{same_id}
use Rattle.deploy_histories.specs.Resources.{Listed, nested_in}
use Rattle.deploy_histories.specs.Scopes.{resource_of}
use Rattle.deploy_histories.specs.Meaning.{Deployment, meaning}
use Rattle.deploy_histories.specs.Desired.{kind_of, kinds}
use Rattle.deploy_histories.specs.Known.{Access, by_others, entry_of, entry_by, entry_told}
use Rattle.deploy_histories.specs.Start as start
use Rattle.deploy_histories.specs.Start.{start_world, IsSo}
use Rattle.deploy_histories.specs.Children.{Has}
use Rattle.deploy_histories.specs.Reads.{key_in}
use Rattle.deploy_histories.specs.Tasks as task
use Rattle.deploy_histories.specs.Tasks.{Task, put, delete, template_tasks, key_by, put_keys, deletes_in, work_of, Work, work}
use Rattle.deploy_histories.specs.TaskOf.{IsResource, AreTasks}
use Rattle.deploy_histories.proofs.KnownLemmas.{completes, told_so}
use Rattle.deploy_histories.proofs.PlanLemmas.{true_at_start}
use Rattle.deploy_histories.proofs.TaskLemmas.{all_tasks}
use Rattle.deploy_histories.proofs.ListLemmas.{has_joined, has_left}
use Rattle.deploy_histories.specs.Planned.{Planned, IsPlanned, is_asked_first}
use Rattle.deploy_histories.specs.Outcome.{put_target, target}
use Rattle.history_laws.proofs.Puts.{deletes_alone, HasKeyAt, key_listed, has_any}

-- the tasks and the keys of a plan in a world
pub record HasWork (x : Planned) (w : World) : Type 0 where
  pub scopes : List Task
  pub are_tasks : AreTasks x.deployment w scopes
  pub has_keys : value_in w (put_keys x.deployment scopes) ≡ Some x.keys
  pub joined : x.tasks ≡ scopes ++ deletes_in x.mode x.deployment.place x.keys x.held

module _ (x : Planned) (w : World) where
  abbrev d : Deployment
  d = x.deployment

  abbrev the_work : Work
  the_work = record { tasks = x.tasks; keys = x.keys }

  by_keys : (ts : List Task) → AreTasks d w ts → (o : Option (List ResourceId)) → value_in w (put_keys d ts) ≡ o
      → option_and_then (λ ks. value_in w (pure (work_of x.mode d.place x.held ts ks))) o ≡ Some the_work
      → HasWork x w
  unfolding value_in
  by_keys ts a None e f = let g : None ≡ Some the_work = f in absurd (cc)
  by_keys ts a (Some ks) e f =
      let g : work_of x.mode d.place x.held ts ks ≡ the_work
      = same_Some (work_of x.mode d.place x.held ts ks) the_work f in
      let k : ks ≡ x.keys = ap (λ (v : Work). v.keys) g in
      record {
        scopes = ts;
        are_tasks = a;
        has_keys = e ∙ ap Some k;
        joined =
            sym (ap (λ (v : Work). v.tasks) g)
            ∙ ap (λ (ls : List ResourceId). ts ++ deletes_in x.mode d.place ls x.held) k;
      }

  work_in : (ts : List Task) → AreTasks d w ts → value_in w (work d x.mode x.held) ≡ Some the_work → HasWork x w
  unfolding work value_in
  work_in ts a e =
      by_keys ts a (value_in w (put_keys d ts)) refl
      (sym (value_in-continued Cell Json (List ResourceId) Work w (put_keys d ts)
      (λ ks. pure (work_of x.mode d.place x.held ts ks)))
      ∙ (ap (option_and_then (λ us. value_in w (continued (put_keys d us) (λ ks.
      pure (work_of x.mode d.place x.held us ks))))) (sym a.is_read)
      ∙ (sym (value_in-continued Cell Json (List Task) Work w (template_tasks [] d.template) (λ us.
      continued (put_keys d us) (λ ks. pure (work_of x.mode d.place x.held us ks)))) ∙ e)))

title_is : (place : Place) (o : Option Kind) (j : Json) (k : ResourceId) → key_by place o j ≡ Some k
    → (n : List ℕ) × (j ≡ text n)
title_is place None j k e = let f : None ≡ Some k = e in absurd (cc)
title_is place (Some q) (text n) k e = (n, refl)
title_is place (Some q) null k e = let f : None ≡ Some k = e in absurd (cc)
title_is place (Some q) (bool b) k e = let f : None ≡ Some k = e in absurd (cc)
title_is place (Some q) (int z) k e = let f : None ≡ Some k = e in absurd (cc)
title_is place (Some q) (array js) k e = let f : None ≡ Some k = e in absurd (cc)
title_is place (Some q) (object ms) k e = let f : None ≡ Some k = e in absurd (cc)

-- a put in a world: what is declared there, its name, and that its key is one of the plan's
pub record IsPutOf (x : Planned) (w : World) (p : Position) (s : Step) : Type 0 where
  pub kind : Kind
  pub title : List ℕ
  pub is_put : IsPut (kinds x.deployment) w p s kind title
  pub listed : list_any (same_id (key_at x.deployment.place kind.type title)) x.keys ≡ true

module _ (x : Planned) (planned : IsPlanned x) (w : World) (world : IsWorld (meaning x.deployment) w) where
  -- what is known at the start is so
  pub start_so : Completes x.known w
  start_so = completes (meaning x.deployment) start.start w world (true_at_start w) x.known planned.is_start

  pub the_works : HasWork x w
  the_works =
      let a = all_tasks x.deployment w world in
      work_in x w a.0 a.1
      (subst (IsSo w (work x.deployment x.mode x.held)) planned.has_tasks
      (told_so Work w x.known start_so (work x.deployment x.mode x.held)))

  not_deleted : (p : Position) (s : Step) (t : Task) → t ≡ put p s → (k : ResourceId) → t ≡ delete k → ⊥
  not_deleted p s t e k f = let g : put p s ≡ delete k = sym e ∙ f in cc

  -- a put among the tasks is one of a scope
  put_of_scope : (p : Position) (s : Step) → Has (put p s) x.tasks → Has (put p s) the_works.scopes
  put_of_scope p s h =
      elim (has_joined (put p s) the_works.scopes
      (deletes_in x.mode x.deployment.place x.keys x.held)
      (subst (λ (ts : List Task). Has (put p s) ts) the_works.joined h)) [
        | inl i ↦ i
        | inr i ↦ (let g = deletes_alone x.mode x.deployment.place x.keys x.held (put p s) i in
            absurd (not_deleted p s (put p s) refl g.0 g.1))
      ]

  of_listed : (p : Position) (s : Step) (r : IsResource x.deployment w p s)
      → HasKeyAt x.deployment w p s x.keys → IsPutOf x w p s
  of_listed p s r k =
      let declared : kinds x.deployment p s.resource ≡ Some (kind_of r.listed) = ap (option_map kind_of) r.is_listed in
      let by_kind = ap (λ (o : Option Kind). key_by x.deployment.place o k.title) (sym declared) ∙ k.is_key in
      let t = title_is x.deployment.place (Some (kind_of r.listed)) k.title k.key by_kind in
      let is : key_at x.deployment.place (kind_of r.listed).type t.0 ≡ k.key
      = same_Some (key_at x.deployment.place (kind_of r.listed).type t.0) k.key
      (ap (key_by x.deployment.place (Some (kind_of r.listed))) (sym t.1) ∙ by_kind) in
      record {
        kind = kind_of r.listed;
        title = t.0;
        is_put = record {
          is_included = record {
            is_declared = declared;
            has_condition = r.is_included;
            has_name = k.has_name ∙ ap Some t.1;
          };
          is_resource = ap is_some r.is_put;
        };
        listed =
            subst (λ (i : ResourceId). list_any (same_id i) x.keys ≡ true) (sym is)
            (has_any k.key x.keys k.listed);
      }

  -- each put among the tasks puts a resource of the world, at a key of the plan
  pub put_is : (p : Position) (s : Step) → Has (put p s) x.tasks → IsPutOf x w p s
  put_is p s h =
      let i = put_of_scope p s h in
      of_listed p s (the_works.are_tasks.each (put p s) i)
      (key_listed x.deployment w the_works.scopes x.keys the_works.has_keys p s i)

  resource_by : (p : Position) (s : Step) (k : Kind) (n : List ℕ) → IsPut (kinds x.deployment) w p s k n
      → (o : Option Listed) → resource_of x.deployment.template p s.resource ≡ o → option_map kind_of o ≡ Some k
      → IsResource x.deployment w p s
  resource_by p s k n i None e f = let g : None ≡ Some k = f in absurd (cc)
  resource_by p s k n i (Some r) e f = record {
    listed = r;
    is_listed = e;
    is_put =
        none_there (nested_in r.content)
        (ap (λ (q : Kind). q.is_deployment) (same_Some (kind_of r) k f) ∙ i.is_resource);
    is_included = i.is_included.has_condition;
  }

  -- each resource that is put in the world is put by a task
  pub put_listed : (p : Position) (s : Step) (k : Kind) (n : List ℕ) → IsPut (kinds x.deployment) w p s k n
      → Has (put p s) x.tasks
  put_listed p s k n i =
      let r = resource_by p s k n i (resource_of x.deployment.template p s.resource) refl i.is_included.is_declared in
      subst (λ (ts : List Task). Has (put p s) ts) (sym the_works.joined)
      (has_left (put p s) the_works.scopes (deletes_in x.mode x.deployment.place x.keys x.held)
      (the_works.are_tasks.all (put p s) r))

  same_title : (m n : List ℕ) → Some (text m) ≡ Some (text n) → m ≡ n
  same_title m n e = cc

  -- a put has one kind and one title
  pub one_kind : (p : Position) (s : Step) (k l : Kind) (m n : List ℕ) → IsPut (kinds x.deployment) w p s k m
      → IsPut (kinds x.deployment) w p s l n → (k ≡ l) × (m ≡ n)
  one_kind p s k l m n a b = (
    same_Some k l (sym a.is_included.is_declared ∙ b.is_included.is_declared),
    same_title m n (sym a.is_included.has_name ∙ b.is_included.has_name),
  )

  pub keys_listed : (k : ResourceId) → IsPutAt x.deployment.place (kinds x.deployment) w k
      → list_any (same_id k) x.keys ≡ true
  keys_listed k i =
      let q = put_is i.at i.instance (put_listed i.at i.instance i.kind i.title i.is_put) in
      let e = one_kind i.at i.instance q.kind i.kind q.title i.title q.is_put i.is_put in
      subst (λ (l : ResourceId). list_any (same_id l) x.keys ≡ true) i.has_key
      (subst (λ (n : List ℕ). list_any (same_id (key_at x.deployment.place i.kind.type n)) x.keys ≡ true) e.1
      (subst (λ (c : Kind). list_any (same_id (key_at x.deployment.place c.type q.title)) x.keys ≡ true) e.0 q.listed))

asked_by_others : (c : Cell) → is_asked_first c ≡ true → start.start c ≡ by_others
asked_by_others (count p r) e = refl
asked_by_others (included p s) e = refl
asked_by_others (name p s) e = refl
asked_by_others (parameter p x) e = refl
asked_by_others (variable p x) e = refl
asked_by_others (offered p x) e = refl
asked_by_others (output p x) e = refl
asked_by_others (deployments p) e = refl
asked_by_others (state k) e = absurd (true≢false (sym e))

value_of_entry : (o : Option Json) → known_value (entry_of o) ≡ o
value_of_entry None = refl
value_of_entry (Some v) = refl

holds_entry : (o u : Option Json) → Holds o (entry_of u) → o ≡ u
holds_entry o None h = h
holds_entry o (Some v) h = h

module _ (x : Planned) (planned : IsPlanned x) where
  -- the entry of what is asked first
  pub first_entry : (c : Cell) → is_asked_first c ≡ true → (o : Option Json) × (x.known c ≡ entry_of o)
  first_entry c e =
      let a = planned.answered c e in (
        a.answer,
        planned.is_start.closed c
            ∙ (ap (λ (q : Access). entry_by q (entry_told (told x.known (meaning x.deployment c))))
            (asked_by_others c e)
            ∙ ap entry_told a.is_told),
      )

  pub start_is : (w : World) → Completes x.known w → (c : Cell) → is_asked_first c ≡ true
      → start_world x.known c ≡ w c
  start_is w all c e =
      let a = first_entry c e in
      ap known_value a.1 ∙ (value_of_entry a.0
      ∙ sym (holds_entry (w c) a.0 (subst (λ (k : Known Json). Holds (w c) k) a.1 (all c))))

module _ (x : Planned) (planned : IsPlanned x) (w : World) (all : Completes x.known w) where
  -- a name of a put is known at the start
  title_at_start : (p : Position) (s : Step) (n : List ℕ) → w (name p s) ≡ Some (text n)
      → start_world x.known (name p s) ≡ Some (text n)
  title_at_start p s n e = start_is x planned w all (name p s) refl ∙ e

  pub key_at_start : (p : Position) (s : Step) (k : Kind) (n : List ℕ) → IsPut (kinds x.deployment) w p s k n
      → key_in x.deployment (start_world x.known) p s ≡ Some (key_at x.deployment.place k.type n)
  key_at_start p s k n i =
      ap (option_and_then (task.key_by x.deployment.place (kinds x.deployment p s.resource)))
      (title_at_start p s n i.is_included.has_name)
      ∙ ap (λ (o : Option Kind). task.key_by x.deployment.place o (text n)) i.is_included.is_declared

  pub target_at_start : (p : Position) (s : Step) (k : Kind) (n : List ℕ) → IsPut (kinds x.deployment) w p s k n
      → target x (task.put p s)
      ≡ Some (record { act = Put; id = text_of (id_at x.deployment.place k.type n); api = k.api })
  target_at_start p s k n i =
      ap (put_target x.deployment.place (kinds x.deployment p s.resource))
      (title_at_start p s n i.is_included.has_name)
      ∙ ap (λ (o : Option Kind). put_target x.deployment.place o (Some (text n))) i.is_included.is_declared

-- the body of a put in a world
pub body_there : (w : World) (o : Option (Reads Json)) (b : Json) → body_in w o ≡ Some b
    → value_in w (there_if o) ≡ Some (Some b)
unfolding value_in
body_there w None b e = let f : None ≡ Some b = e in absurd (cc)
body_there w (Some r) b e =
    value_in-continued Cell Json Json (Option Json) w r (λ v. pure (Some v))
    ∙ ap (option_and_then (λ v. value_in w (pure (Some v)))) e
