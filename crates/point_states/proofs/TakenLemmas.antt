-- The states that are taken are known at the point.
use Rattle.std.proofs.Common.{◌≡◌, inl, inr, ℕ, zero, suc, Bool, true, false, true≢false, List, [], ◌∷◌}
use Rattle.std.proofs.Common.{map, Option, Some, None, refl, sym, ap, subst, ◌∙◌}
use Rattle.std.specs.Prelude.{slice_get, option_map, option_and_then, Result, Ok, Err, IfOk, if◌then◌else◌}
use Rattle.std.specs.declared.alloc.AllocError.{AllocError}
use Rattle.std.specs.List.{list_any}
use Rattle.std.proofs.lemmas.Slice.Eq.{bytes_eq-Decides}
use Rattle.std.proofs.lemmas.Option.{same_Some}
use Rattle.foundation.proofs.Words.{swapped}
use Rattle.arm_value.specs.Json.{Json}
use Rattle.arm_value.specs.View.{json}
use Rattle.arm_ids.specs.Held.{HeldResource}
use Rattle.arm_ids.specs.declared.id.ResourceId.{ResourceId}
use Rattle.tag_places.specs.Places.{Tag, is_tag, first_place}
use Rattle.key_tags.specs.KeyCodes.{key_code}
use Rattle.key_tags.proofs.CodeLemmas.{key_eq}
use Rattle.deploy_cells.specs.Cells.{Step, Position, state}
use Rattle.deploy_cells.specs.Same.{same_id}
use Rattle.deploy_cells.proofs.SameLemmas.{id_same}
use Rattle.plan_cells.specs.Children.{Has}
use Rattle.plan_cells.specs.Desired.{held_state}
use Rattle.plan_cells.specs.Known.{outright}
use Rattle.plan_cells.specs.Reads.{key_in, is_state_at, is_given_by}
use Rattle.plan_cells.specs.Start.{start_world, where_stored, at_point}
use Rattle.plan_cells.specs.Tasks as task
use Rattle.plan_cells.specs.Tasks.{Task, enter, put, leave, delete, deletes_in}
use Rattle.plan_cells.proofs.ListLemmas.{has_joined, has_left}
use Rattle.plan_table.specs.declared.table.Table.{Table}
use Rattle.plan_table.specs.Whole.{scopes_of}
use Rattle.plan_numbers.specs.Task as plan
use Rattle.plan_numbers.specs.declared.numbers.Numbers.{Numbers}
use Rattle.plan_numbers.specs.Numbers.{put_tags, AreApart}
use Rattle.deploy_histories.specs.Planned.{Planned, IsPlanned, first_task, puts_at, putter, basis}
use Rattle.deploy_histories.specs.Events.{Event, is_done, Progress, progress, at_opening, done_status, IsDone}
use Rattle.deploy_histories.specs.Events.{state_in}
use Rattle.deploy_histories.specs.Points.{point}
use Rattle.deploy_histories.specs.Legal.{IsLegal}
use Rattle.deploy_histories.proofs.ReadinessLemmas.{first_is, none_is}
use Rattle.history_laws.specs.Past.{IsLeft}
use Rattle.history_laws.proofs.Alone.{anything, all_given}
use Rattle.history_laws.proofs.Keeping.{kept_always}
use Rattle.history_laws.proofs.OneWorld.{has_number}
use Rattle.history_laws.proofs.Puts.{listed_task, deletes_alone, key_listed, key_has_put, has_any, any_has}
use Rattle.history_laws.proofs.Steps.{done_of}
use Rattle.history_laws.proofs.Way.{put_with, key_of_state}
use Rattle.history_starts.proofs.Start.{HasList, the_list}
use Rattle.point_rows.specs.declared.later.StateAt.{StateAt}
use Rattle.point_knowledge.specs.Steps.{IsStateThen}
use Rattle.point_rows.specs.declared.later.Later.{Later}
use Rattle.point_states.specs.Lookups.{tag_in, Keeps, IsStored, IsAsked, IsTaken}
use Rattle.point_states.specs.declared.taking.Taken.{Taken}
use Rattle.point_states.specs.declared.taking.Taken.TheVariants.{Known, Undone}
use Rattle.point_states.proofs.TagLemmas.{plan_tags}

-- ---- places of keys are the numbers of those that put there

by_key : (k : ResourceId) (o : Option ResourceId)
    → is_tag (key_code k) (option_map (λ l. key_code l) o) ≡ is_state_at o (state k)
by_key k None = refl
by_key k (Some l) = swapped (key_code k) (key_code l) ∙ key_eq l k

module _ (x : Planned) (k : ResourceId) where
  tag_is : (t : Task) → is_tag (key_code k) (tag_in x t) ≡ puts_at x k t
  tag_is (put p s) = by_key k (key_in x.deployment (start_world x.known) p s)
  tag_is (enter p) = refl
  tag_is (leave p) = refl
  tag_is (delete l) = refl

  pub place_of : (ts : List Task) → first_place (key_code k) (map (tag_in x) ts) ≡ first_task (λ n t. puts_at x k t) ts
  place_of [] = refl
  place_of (t ∷ ts) =
      ap (λ (b : Bool). if b then Some zero
      else option_map (λ n. suc n) (first_place (key_code k) (map (tag_in x) ts))) (tag_is t)
      ∙ ap (λ (o : Option ℕ). if puts_at x k t then Some zero else option_map (λ n. suc n) o) (place_of ts)

  -- a tag that is found
  tag_by : (o : Option Tag) → is_tag (key_code k) o ≡ true → o ≡ Some (key_code k)
  tag_by None e = absurd (true≢false (sym e))
  tag_by (Some u) e = ap Some (sym ((bytes_eq-Decides (key_code k) u).0 e))

  get_tag : (ts : List Task) (u : ℕ) (t : Task) → slice_get ts u ≡ Some t → puts_at x k t ≡ true
      → slice_get (map (tag_in x) ts) u ≡ Some (Some (key_code k))
  get_tag [] u t e f = let g : None ≡ Some t = e in absurd (cc)
  get_tag (y ∷ ts) zero t e f =
      let g : y ≡ t = (let h : Some y ≡ Some t = e in cc) in
      ap Some (tag_by (tag_in x y) (tag_is y ∙ ap (puts_at x k) g ∙ f))
  get_tag (y ∷ ts) (suc u) t e f = get_tag ts u t e f

  -- no two put there
  one_putter : AreApart (map (tag_in x) x.tasks) → (u v : ℕ) (t s : Task) → slice_get x.tasks u ≡ Some t
      → puts_at x k t ≡ true → slice_get x.tasks v ≡ Some s → puts_at x k s ≡ true → u ≡ v
  one_putter a u v t s e f g h =
      a u v (key_code k) (get_tag x.tasks u t e f) (get_tag x.tasks v s g h)

  -- ---- the key is one of the plan's exactly where a task puts there

  module _ (planned : IsPlanned x) where
    list : HasList x
    list = the_list x planned

    of_scope : (p : Position) (s : Step) → Has (put p s) x.tasks → Has (put p s) list.scopes
    of_scope p s h =
        elim (has_joined (put p s) list.scopes (deletes_in x.mode x.deployment.place x.keys x.held)
        (subst (λ (ts : List Task). Has (put p s) ts) list.joined h)) [
          | inl i ↦ i
          | inr i ↦ (let d = deletes_alone x.mode x.deployment.place x.keys x.held (put p s) i in
              let e : put p s ≡ delete d.0 = d.1 in absurd (cc))
        ]

    put_key : (u : ℕ) (t : Task) → slice_get x.tasks u ≡ Some t → puts_at x k t ≡ true
        → list_any (same_id k) x.keys ≡ true
    put_key u t e f =
        let a = put_with x k t f in
        let h = key_listed x.deployment (start_world x.known) list.scopes x.keys list.has_keys a.at a.instance
        (of_scope a.at a.instance (listed_task x.tasks u (put a.at a.instance) (e ∙ ap Some a.is))) in
        let l = key_of_state (key_in x.deployment (start_world x.known) a.at a.instance) k a.has_key in
        let same : h.key ≡ k
        = same_Some h.key l.0 (sym (ap (option_and_then (task.key_by x.deployment.place _)) h.has_name ∙ h.is_key) ∙ l.1.0)
        ∙ l.1.1 in
        has_any k x.keys (subst (λ (z : ResourceId). Has z x.keys) same h.listed)

    key_put : list_any (same_id k) x.keys ≡ true → putter x k ≡ None → ⊥
    key_put e none =
        let i = key_has_put x.deployment (start_world x.known) k list.scopes x.keys list.has_keys (any_has k x.keys e)
        in
        let listed : Has (put i.at i.instance) x.tasks
        = subst (λ (ts : List Task). Has (put i.at i.instance) ts) (sym list.joined)
        (has_left (put i.at i.instance) list.scopes (deletes_in x.mode x.deployment.place x.keys x.held) i.listed) in
        let n = has_number x.tasks (put i.at i.instance) listed in
        let key : key_in x.deployment (start_world x.known) i.at i.instance ≡ Some k
        = ap (option_and_then (task.key_by x.deployment.place _)) i.has_name ∙ i.is_key in
        true≢false (sym (ap (λ (o : Option ResourceId). is_state_at o (state k)) key ∙ id_same k)
        ∙ none_is (λ m t. puts_at x k t) x.tasks none n.0 (put i.at i.instance) n.1)

    -- ---- what is known of the state

    module _ (p : Progress) (s : StateAt) (at : s.key ≡ k) where
      -- nothing puts there
      pub held_then : putter x k ≡ None → option_map json s.state ≡ held_state x.held k → IsStateThen x p s
      held_then none e = record {
        is_known = subst (λ (l : ResourceId). at_point (basis x) (point x p.status) (state l)
            ≡ outright (option_map json s.state)) (sym at)
            (by_key_of (list_any (same_id k) x.keys) refl);
        is_stored = λ v t i g. absurd (true≢false (sym (subst (λ (l : ResourceId). is_given_by x.deployment
            (start_world x.known) t (state l) ≡ true) at g)
            ∙ none_is (λ m u. puts_at x k u) x.tasks none v t i));
      }
        where
          by_key_of : (b : Bool) → list_any (same_id k) x.keys ≡ b
              → at_point (basis x) (point x p.status) (state k) ≡ outright (option_map json s.state)
          by_key_of true f = absurd (key_put f none)
          by_key_of false f =
              ap (λ (b : Bool). if b then where_stored ((point x p.status).stored k)
              else outright (held_state x.held k)) f
              ∙ ap (λ (o : Option Json). outright o) (sym e)

      -- the one that puts there is done
      pub stored_then : (u : ℕ) (j : Json) → putter x k ≡ Some u → AreApart (map (tag_in x) x.tasks)
          → p.status u ≡ is_done (Some j) → option_map json s.state ≡ Some j → IsStateThen x p s
      stored_then u j is_putter apart done e =
          let f = first_is (λ n t. puts_at x k t) x.tasks u is_putter in
          record {
            is_known = subst (λ (l : ResourceId). at_point (basis x) (point x p.status) (state l)
                ≡ outright (option_map json s.state)) (sym at)
                (ap (λ (b : Bool). if b then where_stored ((point x p.status).stored k)
                else outright (held_state x.held k)) (put_key u f.found f.has f.passes)
                ∙ ap where_stored (ap (option_and_then (λ v. state_in (p.status v))) is_putter ∙ ap state_in done)
                ∙ ap (λ (o : Option Json). outright o) (sym e));
            is_stored = λ v t i g.
                let same : u ≡ v = one_putter apart u v f.found t f.has f.passes i
                (subst (λ (l : ResourceId). is_given_by x.deployment (start_world x.known) t (state l) ≡ true) at g) in
                subst (IsDone p) same (ap done_status done);
          }

-- ---- a put that is done has a state

left_state : (x : Planned) (p : Position) (s : Step) (body : Json) (o : Option Json)
    → IsLeft anything x (put p s) body o → (j : Json) × (o ≡ Some j)
left_state x p s body o h = (h.0, h.1.0)

pub done_put : (x : Planned) (h : List Event) → IsLegal x h → (u : ℕ) (t : Task) (k : ResourceId)
    → slice_get x.tasks u ≡ Some t → puts_at x k t ≡ true → IsDone (progress h) u
    → (j : Json) × ((progress h).status u ≡ is_done (Some j))
done_put x h legal u t k e f d =
    let o = done_of ((progress h).status u) d in
    let z = (kept_always anything x h legal (all_given x at_opening h)).done u o.0 o.1 in
    let a = put_with x k t f in
    let same : z.task ≡ put a.at a.instance = same_Some z.task t (sym z.is_task ∙ e) ∙ a.is in
    let l = left_state x a.at a.instance z.body o.0
    (subst (λ (y : Task). IsLeft anything x y z.body o.0) same z.is_left) in
    (l.0, o.1 ∙ ap is_done l.1)

-- ---- what came of a look

module _ (x : Planned) (h : List Event) (held : List HeldResource) (t : Table) (us : List plan.Task)
    (ks : List ResourceId) (n : Numbers) (asked : IsAsked x h held t us ks n) (k : ResourceId) where
  abbrev FirstAt : Option ℕ → Type 0
  FirstAt o = o ≡ first_place (key_code k) (put_tags us ks)

  tags : put_tags us ks ≡ map (tag_in x) x.tasks
  tags =
      subst (λ (ls : List ResourceId). put_tags us ls ≡ map (tag_in x) x.tasks) asked.has_keys
      (plan_tags x (scopes_of t) asked.planned us asked.has_tasks)

  apart : AreApart (map (tag_in x) x.tasks)
  apart = subst (λ (os : List (Option Tag)). AreApart os) tags asked.numbers.of_scopes.keys.apart

  putter_is : (o : Option ℕ) → FirstAt o → putter x k ≡ o
  putter_is o e = sym (e ∙ ap (λ (os : List (Option Tag)). first_place (key_code k) os) tags ∙ place_of x k x.tasks)

  stored_by : (l m : Later) (v : ℕ) → putter x k ≡ Some v → (r : Taken) → IsStored (progress h) v k l m r
      → IsTaken x (progress h) k l m r
  stored_by l m v e Known s =
      let f = first_is (λ j u. puts_at x k u) x.tasks v e in
      let d = done_put x h asked.legal v f.found k f.has f.passes s.0 in (
        s.1.kept,
        (
          s.1.is_at,
          (
            s.1.has,
            stored_then x k asked.planned (progress h) s.1.kept s.1.is_at v d.0 e apart d.1
                (s.1.is ∙ ap state_in d.1),
          ),
        ),
      )
  stored_by l m v e (Undone u) s =
      let f = first_is (λ j w. puts_at x k w) x.tasks v e in (
        s.1.1,
        subst (λ (w : ℕ). (done_status ((progress h).status w) ≡ false)
            × ((giver : Task) × ((slice_get x.tasks w ≡ Some giver)
            × (is_given_by x.deployment (start_world x.known) giver (state k) ≡ true)))) (sym s.0)
            (s.1.0, (f.found, (f.has, f.passes))),
      )

  pub taken_stored : (l m : Later) (o : Option ℕ) (v : ℕ) → FirstAt o → o ≡ Some v → (r : Result Taken AllocError)
      → IfOk r (IsStored (progress h) v k l m) → IfOk r (IsTaken x (progress h) k l m)
  taken_stored l m o v e f (Ok r) s = stored_by l m v (putter_is o e ∙ f) r s
  taken_stored l m o v e f (Err error) s = tt

  pub taken_held : (l m : Later) (o : Option ℕ) → FirstAt o → o ≡ None → Keeps k (held_state held k) l m
      → IsTaken x (progress h) k l m Known
  taken_held l m o e f s = (
    s.kept,
    (
      s.is_at,
      (
        s.has,
        held_then x k asked.planned (progress h) s.kept s.is_at (putter_is o e ∙ f)
            (s.is ∙ ap (λ (hs : List HeldResource). held_state hs k) (sym asked.is_held)),
      ),
    ),
  )
