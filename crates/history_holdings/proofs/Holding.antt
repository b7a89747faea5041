-- What is held after a history that has succeeded is what is held after a deployment to its desired state.
use Rattle.std.proofs.Common.{◌≡◌, ◌⊎◌, inl, inr, ℕ, zero, suc, Bool, true, false, true≢false, List, [], ◌∷◌, Option}
use Rattle.std.proofs.Common.{Some, None}
use Rattle.std.proofs.Common.{refl, sym, ap, ap₂, subst, ◌∙◌}
use Rattle.std.specs.Prelude.{not, option_and_then, slice_get, if◌then◌else◌}
use Rattle.std.specs.List.{list_any}
use Rattle.std.proofs.lemmas.Option.{none-some, same_Some}
use Rattle.foundation.proofs.TruthValues.{both, and_true, of_not, unless}
use Rattle.arm_value.specs.Json.{Json}
use Rattle.arm_ids.specs.Id.{text_of, folded_text, HasKey, IsIdOf}
use Rattle.arm_ids.specs.Held.{HeldResource, find}
use Rattle.arm_ids.specs.declared.id.ResourceId.{ResourceId}
use Rattle.arm_ids.proofs.KeyLemmas.{folded_text-folded}
use Rattle.provider_trait.specs.declared.answer.Answer.{Answer}
use Rattle.provider_trait.specs.declared.answer.Answer.TheVariants.{Stored, Gone, Refused}
use Rattle.template_parts.specs.declared.mode.Mode.{Mode}
use Rattle.template_parts.specs.declared.mode.Mode.TheVariants.{Incremental, Complete}
use Rattle.deploy_cells.specs.Cells.{Step, Position, state, World}
use Rattle.deploy_cells.specs.Puts.{Kind, IsPut, body_in, id_at, key_at}
use Rattle.deploy_cells.specs.Same.{same_id}
use Rattle.plan_cells.specs.Meaning.{Deployment, bodies}
use Rattle.plan_cells.specs.Desired.{kinds, Satisfies}
use Rattle.plan_cells.specs.Children.{Has}
use Rattle.plan_cells.specs.Tasks as task
use Rattle.plan_cells.specs.Tasks.{Task, is_of_group, is_deleted}
use Rattle.deploy_histories.specs.Planned.{Planned, IsPlanned}
use Rattle.deploy_histories.specs.Events.{Event, progress}
use Rattle.deploy_histories.specs.Legal.{SuitsTask, IsLegal, HasSucceeded}
use Rattle.deploy_histories.specs.Answers.{Noted, answers_of}
use Rattle.deploy_histories.specs.Outcome.{Target, delete_target, target, target_of, IsStoredAs, BelongsTo}
use Rattle.deploy_histories.specs.Outcome.{resource_put}
use Rattle.deploy_histories.specs.Outcome.{key_in_group, unless_in_group, unless_deleted, NotPutAs, IsHeldAfter}
use Rattle.deploy_histories.specs.Outcome.{held_after}
use Rattle.history_laws.proofs.Steps.{done_of}
use Rattle.history_laws.proofs.Puts.{any_has}
use Rattle.history_laws.proofs.Included.{start_so, keys_listed, one_kind, target_at_start}
use Rattle.history_holdings.specs.Opening.{IsOpening}
use Rattle.history_holdings.proofs.ReadingLemmas.{key_of_id, id_of_read, one_key}
use Rattle.history_holdings.proofs.Effects.{Effect, put_effect, gone_effect, effect, effect_of, PutsKeys, Leaves}
use Rattle.history_holdings.proofs.Effects.{Reaches}
use Rattle.history_holdings.proofs.Effects.{order_after, keys_after, found_after}
use Rattle.history_holdings.proofs.Deletes.{found_same, found_has, key_of_held, numbered}
use Rattle.history_holdings.proofs.Ended.{suited, gone_in}
use Rattle.history_holdings.proofs.Puts.{put_id, one_resource, key_put, deletion_of, deletes_it}

modes_differ : Incremental ≡ Complete → ⊥
modes_differ e = cc

-- ---- what an effect is of

-- a resource of the desired state is put
pub record IsPutEffect (x : Planned) (w : World) (e : Effect) : Type 0 where
  pub at : Position
  pub instance : Step
  pub kind : Kind
  pub title : List ℕ
  pub body : Json
  pub stored : Json
  pub is_put : IsPut (kinds x.deployment) w at instance kind title
  pub has_body : body_in w (bodies x.deployment at instance) ≡ Some body
  pub has_state : w (state (key_at x.deployment.place kind.type title)) ≡ Some stored
  pub is : e ≡ put_effect (resource_put x.deployment.place kind title body stored)

-- what is held at a key is deleted
pub record IsGoneEffect (x : Planned) (e : Effect) : Type 0 where
  pub key : ResourceId
  pub entry : HeldResource
  pub is_task : Has (task.delete key) x.tasks
  pub is_found : find (folded_text key) x.held ≡ Some entry
  pub is : e ≡ gone_effect entry.id

no_effect : (o : Option Target) (body : Json) (code : List ℕ) (e : Effect) → effect o body (Refused code) ≡ Some e → ⊥
no_effect None body code e f = none-some e f
no_effect (Some g) body code e f = none-some e f

listed : (ts : List Task) (u : ℕ) (t : Task) → slice_get ts u ≡ Some t → Has t ts
listed [] u t e = absurd (none-some t e)
listed (s ∷ ts) zero t e = inl (same_Some s t e)
listed (s ∷ ts) (suc u) t e = inr (listed ts u t e)

by_entry : (x : Planned) (k : ResourceId) (body : Json) (e : Effect) → Has (task.delete k) x.tasks
    → (o : Option HeldResource) → find (folded_text k) x.held ≡ o → effect (delete_target o) body Gone ≡ Some e
    → IsGoneEffect x e
by_entry x k body e h None f g = absurd (none-some e g)
by_entry x k body e h (Some r) f g = record {
  key = k;
  entry = r;
  is_task = h;
  is_found = f;
  is = sym (same_Some (gone_effect r.id) e g);
}

by_task : (x : Planned) (t : Task) (body : Json) (e : Effect) → SuitsTask t Gone → Has t x.tasks
    → effect (target x t) body Gone ≡ Some e → IsGoneEffect x e
by_task x (task.put p s) body e suits h f = absurd suits
by_task x (task.enter p) body e suits h f = absurd suits
by_task x (task.leave p) body e suits h f = absurd suits
by_task x (task.delete k) body e suits h f = by_entry x k body e h (find (folded_text k) x.held) refl f

module _ (x : Planned) (planned : IsPlanned x) (opening : IsOpening x) (h : List Event) (legal : IsLegal x h)
    (ended : HasSucceeded x (progress h)) (w : World) (sat : Satisfies x.deployment x.held w)
    (belongs : BelongsTo x w (answers_of h)) where
  abbrev d : Deployment
  d = x.deployment

  abbrev ns : List Noted
  ns = answers_of h

  stored_effect : (p : Position) (s : Step) (n : Noted) (q : IsStoredAs x w p s n)
      → effect_of x n
      ≡ Some (put_effect (resource_put d.place q.is_put_as.kind q.is_put_as.title n.body q.stored))
  stored_effect p s n q =
      let t = ap (option_and_then (target x)) q.is_task
      ∙ target_at_start x planned w (start_so x planned w sat.is_world) p s q.is_put_as.kind q.is_put_as.title
      q.is_put_as.is_put in
      λ j. effect (t j) n.body (q.is_stored j)

  gone_effect_of : (n : Noted) (e : Effect) → Has n ns → n.answer ≡ Gone → effect_of x n ≡ Some e → IsGoneEffect x e
  gone_effect_of n e i a f =
      let s = suited x h legal n i in
      by_task x s.of n.body e (subst (λ (b : Answer). SuitsTask s.of b) a s.suits)
      (listed x.tasks n.task s.of s.is_task)
      (sym (λ j. effect (option_and_then (target x) (s.is_task j)) n.body (a j)) ∙ f)

  -- each effect is a put of the desired state, or a deletion
  says : (n : Noted) (e : Effect) → Has n ns → effect_of x n ≡ Some e → IsPutEffect x w e ⊎ IsGoneEffect x e
  says n e i f = by_answer n.answer refl
    where
      by_answer : (a : Answer) → n.answer ≡ a → IsPutEffect x w e ⊎ IsGoneEffect x e
      by_answer (Stored j) a =
          let g = belongs.each_stored n j i a in
          let q = g.1.1 in
          inl (record {
            at = g.0;
            instance = g.1.0;
            kind = q.is_put_as.kind;
            title = q.is_put_as.title;
            body = n.body;
            stored = q.stored;
            is_put = q.is_put_as.is_put;
            has_body = q.is_put_as.has_body;
            has_state = q.is_put_as.has_state;
            is = same_Some e (put_effect (resource_put d.place q.is_put_as.kind q.is_put_as.title n.body q.stored))
                (sym f ∙ stored_effect g.0 g.1.0 n q);
          })
      by_answer Gone a = inr (gone_effect_of n e i a f)
      by_answer (Refused code) a =
          absurd (no_effect (target_of x n.task) n.body code e (ap (effect (target_of x n.task) n.body) (sym a) ∙ f))

  -- the id of an effect is that of its key
  put_at : (e : Effect) (q : IsPutEffect x w e) → e.id ≡ folded_text (key_at d.place q.kind.type q.title)
  put_at e q = ap (λ (f : Effect). f.id) q.is ∙ sym (folded_text-folded (id_at d.place q.kind.type q.title))

  gone_at : (e : Effect) (g : IsGoneEffect x e) → e.id ≡ folded_text g.key
  gone_at e g = ap (λ (f : Effect). f.id) g.is ∙ found_same (folded_text g.key) x.held g.entry g.is_found

  gone_key : (e : Effect) (g : IsGoneEffect x e)
      → (x.mode ≡ Complete) × ((t : List ℕ) × (IsIdOf t g.key × (is_deleted d.place x.keys g.key ≡ true)))
  gone_key e g =
      let i = deletion_of x planned opening w sat g.key g.is_task in
      (i.is_complete, (i.deleted.entry.id, (id_of_read i.deleted.entry.id g.key i.deleted.of_key, i.deleted.is)))

  -- ---- what is put

  puts_keys : (n : Noted) → Has n ns → PutsKeys (effect_of x n)
  puts_keys n i e r f g = elim (says n e i f) [
    | inl q ↦
        subst (λ (z : HeldResource). HasKey z.id)
        (same_Some (resource_put d.place q.kind q.title q.body q.stored) r
        (sym (ap (λ (c : Effect). c.now) q.is) ∙ g))
        (key_at d.place q.kind.type q.title, put_id x planned opening w sat q.at q.instance q.kind q.title q.is_put)
    | inr c ↦ absurd (none-some r (sym (ap (λ (z : Effect). z.now) c.is) ∙ g))
  ]

  not_deleted : (k : ResourceId) → list_any (same_id k) x.keys ≡ true → is_deleted d.place x.keys k ≡ true → ⊥
  not_deleted k a b =
      true≢false (sym a ∙ of_not (list_any (same_id k) x.keys)
      (both (is_of_group d.place k) (not (list_any (same_id k) x.keys)) b).1)

  module _ (p : Position) (s : Step) (k : Kind) (title : List ℕ) (body stored : Json)
      (i : IsPut (kinds d) w p s k title) (b : body_in w (bodies d p s) ≡ Some body)
      (u : w (state (key_at d.place k.type title)) ≡ Some stored) where
    abbrev key : ResourceId
    key = key_at d.place k.type title

    leaves_put : (n : Noted) → Has n ns
        → Leaves (folded_text key) (Some (resource_put d.place k title body stored)) (effect_of x n)
    leaves_put n j e f t = elim (says n e j f) [
      | inl q ↦
          ap (λ (c : Effect). c.now) q.is
          ∙ ap Some (one_resource x planned opening w sat q.at p q.instance s q.kind k q.title title q.body body
          q.stored stored q.is_put i q.has_body b q.has_state u (sym (put_at e q) ∙ t))
      | inr g ↦
          (let a = gone_key e g in
          let same : g.key ≡ key
          = one_key a.1.0 (text_of (id_at d.place k.type title)) g.key key a.1.1.0
          (put_id x planned opening w sat p s k title i) (sym (gone_at e g) ∙ t) in
          absurd (not_deleted key
          (keys_listed x planned w sat.is_world key
          (record { at = p; instance = s; kind = k; title = title; is_put = i; has_key = refl }))
          (ap (is_deleted d.place x.keys) (sym same) ∙ a.1.1.1)))
    ]

    put_reached : (n : Noted) × (Has n ns × Reaches (folded_text key) (effect_of x n))
    put_reached =
        let m = belongs.each_put p s k title i in
        let q = m.1.1 in
        let z = q.is_put_as in
        let o = one_kind x planned w sat.is_world p s z.kind k z.title title z.is_put i in (
          m.0,
          (
            m.1.0,
            (
              put_effect (resource_put d.place q.is_put_as.kind q.is_put_as.title m.0.body q.stored),
              (
                stored_effect p s m.0 q,
                sym (folded_text-folded (id_at d.place q.is_put_as.kind.type q.is_put_as.title))
                    ∙ ap₂ (λ (c : Kind) (l : List ℕ). folded_text (key_at d.place c.type l)) o.0 o.1,
              ),
            ),
          ),
        )

    put_found : find (folded_text key) (held_after x ns x.held) ≡ Some (resource_put d.place k title body stored)
    put_found =
        found_after x (folded_text key) (Some (resource_put d.place k title body stored)) ns x.held opening.in_order
        leaves_put (inr put_reached)

  -- ---- what is not put

  module _ (id : List ℕ) (never : NotPutAs d w id) where
    leaves_by : (v : Option HeldResource) (n : Noted) → Has n ns
        → ((e : Effect) (g : IsGoneEffect x e) → e.id ≡ id → e.now ≡ v) → Leaves id v (effect_of x n)
    leaves_by v n i gone e f t = elim (says n e i f) [
      | inl q ↦ absurd (never q.at q.instance q.kind q.title q.is_put (sym (put_at e q) ∙ t))
      | inr g ↦ gone e g t
    ]

    gone_now : (e : Effect) (g : IsGoneEffect x e) → e.id ≡ id → e.now ≡ None
    gone_now e g t = ap (λ (c : Effect). c.now) g.is

    in_incremental : x.mode ≡ Incremental → find id (held_after x ns x.held) ≡ find id x.held
    in_incremental m =
        found_after x id (find id x.held) ns x.held opening.in_order
        (λ n i. leaves_by (find id x.held) n i
        (λ e g t. absurd (modes_differ (sym m ∙ (gone_key e g).0)))) (inl refl)

    not_held : find id x.held ≡ None → find id (held_after x ns x.held) ≡ None
    not_held e =
        found_after x id None ns x.held opening.in_order (λ n i. leaves_by None n i gone_now) (inl e)

    module _ (r : HeldResource) (found : find id x.held ≡ Some r) (k : ResourceId) (is_id : IsIdOf r.id k) where
      text_is : folded_text k ≡ id
      text_is = sym is_id.spelled ∙ found_same id x.held r found

      not_a_key : list_any (same_id k) x.keys ≡ false
      not_a_key =
          unless (list_any (same_id k) x.keys) (λ e.
          let q = key_put x planned opening w sat k (any_has k x.keys e) in
          never q.at q.instance q.kind q.title q.is_put (ap folded_text q.has_key ∙ text_is))

      in_group : x.mode ≡ Complete → is_of_group d.place k ≡ true → find id (held_after x ns x.held) ≡ None
      in_group m e =
          found_after x id None ns x.held opening.in_order (λ n i. leaves_by None n i gone_now) (inr reached)
        where
          among : Has (task.delete k) x.tasks
          among =
              deletes_it x planned opening w sat k m
              (record {
                entry = r;
                is_held = found_has id x.held r found;
                of_key = key_of_id r.id k is_id;
                is =
                    and_true (is_of_group d.place k) (not (list_any (same_id k) x.keys)) e
                    (ap not not_a_key);
              })

          reached : (n : Noted) × (Has n ns × Reaches id (effect_of x n))
          reached =
              let u = numbered x.tasks (task.delete k) among in
              let o = done_of ((progress h).status u.0) (ended.all_done u.0 (task.delete k) u.1) in
              let g = gone_in x u.0 k u.1 h legal o.0 o.1 in
              let is : effect_of x g.by ≡ Some (gone_effect r.id)
              = (λ j. effect (option_and_then (target x) (slice_get x.tasks (g.of j))) g.by.body (g.is_gone j))
              ∙ (ap (λ (t : Option Task). effect (option_and_then (target x) t) g.by.body Gone) u.1
              ∙ ap (λ (q : Option HeldResource). effect (delete_target q) g.by.body Gone)
              (ap (λ (t : List ℕ). find t x.held) text_is ∙ found)) in
              (g.by, (g.listed, (gone_effect r.id, (is, found_same id x.held r found))))

      elsewhere : is_of_group d.place k ≡ false → find id (held_after x ns x.held) ≡ Some r
      elsewhere e =
          found_after x id (Some r) ns x.held opening.in_order
          (λ n i. leaves_by (Some r) n i (λ c g t.
          let a = gone_key c g in
          let same : g.key ≡ k
          = one_key a.1.0 r.id g.key k a.1.1.0 is_id (sym (gone_at c g) ∙ (t ∙ sym text_is)) in
          let of_it = (both (is_of_group d.place g.key) (not (list_any (same_id g.key) x.keys)) a.1.1.1).0 in
          absurd (true≢false (sym of_it ∙ (ap (is_of_group d.place) same ∙ e))))) (inl found)

      by_group : x.mode ≡ Complete → (b : Bool) → is_of_group d.place k ≡ b
          → find id (held_after x ns x.held) ≡ (if b then None else Some r)
      by_group m true e = in_group m e
      by_group m false e = elsewhere e

      in_complete : x.mode ≡ Complete → find id (held_after x ns x.held) ≡ unless_in_group d.place (Some r)
      in_complete m =
          by_group m (is_of_group d.place k) refl
          ∙ ap (λ (o : Option ResourceId). if key_in_group d.place o then None else Some r)
          (sym (key_of_id r.id k is_id))

    by_found : x.mode ≡ Complete → (o : Option HeldResource) → find id x.held ≡ o
        → find id (held_after x ns x.held) ≡ unless_in_group d.place o
    by_found m None e = not_held e
    by_found m (Some r) e =
        let k = key_of_held x.held r opening.have_keys (found_has id x.held r e) in in_complete r e k.0 k.1 m

    by_mode : (m : Mode) → x.mode ≡ m
        → find id (held_after x ns x.held) ≡ unless_deleted m d.place (find id x.held)
    by_mode Incremental e = in_incremental e
    by_mode Complete e = by_found e (find id x.held) refl

  pub is_held : IsHeldAfter d x.mode x.held w (held_after x ns x.held)
  is_held = record {
    in_order = order_after x ns x.held opening.in_order;
    have_keys = keys_after x ns x.held puts_keys opening.have_keys;
    put_in = λ p s k title body stored i b u. put_found p s k title body stored i b u;
    others = λ id never. by_mode id never x.mode refl;
  }
