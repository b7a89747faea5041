-- The tags of the puts of a plan are those of its tasks by what is known at the start.
use Rattle.std.proofs.Common.{◌≡◌, inl, inr, List, [], ◌∷◌, ◌++◌, map, drop, Option, Some, None, refl, sym, ap, subst}
use Rattle.std.proofs.Common.{◌∙◌}
use Rattle.std.specs.Prelude.{slice_get, option_map, option_and_then}
use Rattle.arm_ids.specs.declared.id.ResourceId.{ResourceId}
use Rattle.reading.specs.World.{value_in}
use Rattle.tag_places.specs.Places.{Tag}
use Rattle.key_tags.specs.KeyCodes.{key_code}
use Rattle.deploy_cells.specs.Cells.{Step, step, Position, World}
use Rattle.plan_cells.specs.Children.{Has}
use Rattle.plan_cells.specs.Desired.{kinds}
use Rattle.plan_cells.specs.Start.{start_world}
use Rattle.plan_cells.specs.Tasks.{Task, enter, put, leave, delete, key_by, put_keys, deletes_in}
use Rattle.plan_table.specs.Opened.{Opened, opened_at}
use Rattle.plan_numbers.specs.Plans.{task_in}
use Rattle.plan_numbers.specs.Task as code
use Rattle.plan_numbers.specs.Task.TheVariants as planned
use Rattle.plan_numbers.specs.Numbers.{key_tag, put_tags}
use Rattle.deploy_histories.specs.Planned.{Planned, IsPlanned}
use Rattle.history_laws.proofs.Puts.{deletes_alone, FirstKey, first_key}
use Rattle.history_starts.proofs.Start.{the_list}
use Rattle.point_states.specs.Lookups.{tag_in}

-- ---- all tags

module _ (x : Planned) (os : List Opened) where
  abbrev w : World
  w = start_world x.known

  abbrev tags : List code.Task → List (Option Tag)
  tags us = map (tag_in x) (map (task_in os) us)

  abbrev AreDeletes : List Task → Type 0
  AreDeletes ts = (t : Task) → Has t ts → (k : ResourceId) × (t ≡ delete k)

  -- where all that is left are deletes
  no_tags : (us : List code.Task) (ks : List ResourceId) → AreDeletes (map (task_in os) us) → put_tags us ks ≡ tags us
  no_tags [] ks h = refl
  no_tags (planned.Delete k ∷ us) ks h = ap (λ rest. None ∷ rest) (no_tags us ks (λ t i. h t (inr i)))
  no_tags (planned.Enter f ∷ us) ks h =
      let g = h (enter (opened_at os f).position) (inl refl) in
      let e : enter (opened_at os f).position ≡ delete g.0 = g.1 in absurd (cc)
  no_tags (planned.Leave f ∷ us) ks h =
      let g = h (leave (opened_at os f).position) (inl refl) in
      let e : leave (opened_at os f).position ≡ delete g.0 = g.1 in absurd (cc)
  no_tags (planned.Put f r i ∷ us) ks h =
      let g = h (put (opened_at os f).position (step r i)) (inl refl) in
      let e : put (opened_at os f).position (step r i) ≡ delete g.0 = g.1 in absurd (cc)

  first_is : (t u : Task) (ts us : List Task) → t ∷ ts ≡ u ∷ us → t ≡ u
  first_is t u ts us e = cc

  rest_is : (t u : Task) (ts us : List Task) → t ∷ ts ≡ u ∷ us → ts ≡ us
  rest_is t u ts us e = cc

  key_is : (p : Position) (s : Step) (ts : List Task) (ks : List ResourceId) (f : FirstKey x.deployment w p s ts ks)
      → tag_in x (put p s) ≡ Some (key_code f.key)
  key_is p s ts ks f =
      ap (option_map (λ k. key_code k))
      (ap (option_and_then (key_by x.deployment.place (kinds x.deployment p s.resource))) f.has_name ∙ f.is_key)

  tags_are : (us : List code.Task) (ts ds : List Task) (ks : List ResourceId) → map (task_in os) us ≡ ts ++ ds
      → value_in w (put_keys x.deployment ts) ≡ Some ks → AreDeletes ds → put_tags us ks ≡ tags us
  tags_are us [] ds ks e v h = no_tags us ks (subst AreDeletes (sym e) h)
  tags_are [] (t ∷ ts) ds ks e v h = refl
  tags_are (planned.Enter f ∷ us) (t ∷ ts) ds ks e v h =
      let p = (opened_at os f).position in
      ap (λ rest. None ∷ rest)
      (tags_are us ts ds ks (rest_is (enter p) t (map (task_in os) us) (ts ++ ds) e)
      (subst (λ (z : Task). value_in w (put_keys x.deployment (z ∷ ts)) ≡ Some ks)
      (sym (first_is (enter p) t (map (task_in os) us) (ts ++ ds) e)) v) h)
  tags_are (planned.Leave f ∷ us) (t ∷ ts) ds ks e v h =
      let p = (opened_at os f).position in
      ap (λ rest. None ∷ rest)
      (tags_are us ts ds ks (rest_is (leave p) t (map (task_in os) us) (ts ++ ds) e)
      (subst (λ (z : Task). value_in w (put_keys x.deployment (z ∷ ts)) ≡ Some ks)
      (sym (first_is (leave p) t (map (task_in os) us) (ts ++ ds) e)) v) h)
  tags_are (planned.Delete k ∷ us) (t ∷ ts) ds ks e v h =
      ap (λ rest. None ∷ rest)
      (tags_are us ts ds ks (rest_is (delete k) t (map (task_in os) us) (ts ++ ds) e)
      (subst (λ (z : Task). value_in w (put_keys x.deployment (z ∷ ts)) ≡ Some ks)
      (sym (first_is (delete k) t (map (task_in os) us) (ts ++ ds) e)) v) h)
  tags_are (planned.Put f r i ∷ us) (t ∷ ts) ds ks e v h =
      let p = (opened_at os f).position in
      let z = first_key x.deployment w p (step r i) ts ks
      (subst (λ (y : Task). value_in w (put_keys x.deployment (y ∷ ts)) ≡ Some ks)
      (sym (first_is (put p (step r i)) t (map (task_in os) us) (ts ++ ds) e)) v) in
      ap (λ ls. key_tag (slice_get ls 0) ∷ put_tags us (drop 1 ls)) z.is
      ∙ ap (λ (o : Option Tag). o ∷ put_tags us z.more) (sym (key_is p (step r i) ts ks z))
      ∙ ap (λ rest. tag_in x (put p (step r i)) ∷ rest)
      (tags_are us ts ds z.more (rest_is (put p (step r i)) t (map (task_in os) us) (ts ++ ds) e) z.others h)

  -- of a plan
  pub plan_tags : IsPlanned x → (us : List code.Task) → map (task_in os) us ≡ x.tasks
      → put_tags us x.keys ≡ map (tag_in x) x.tasks
  plan_tags planned us e =
      let l = the_list x planned in
      tags_are us l.scopes (deletes_in x.mode x.deployment.place x.keys x.held) x.keys (e ∙ l.joined) l.has_keys
      (λ t i. deletes_alone x.mode x.deployment.place x.keys x.held t i)
      ∙ ap (map (tag_in x)) e
