-- The world of all that is known at the end of a history that has succeeded is a desired state.
use Rattle.std.proofs.Common.{◌≡◌, inl, inr, ℕ, Bool, true, false, true≢false, List, [], ◌∷◌, Option, Some, None}
use Rattle.std.proofs.Common.{refl, sym, ap, subst, ◌∙◌}
use Rattle.std.specs.Prelude.{slice_get, option_map, option_and_then, is_some}
use Rattle.std.specs.List.{list_any}
use Rattle.std.proofs.lemmas.Option.{same_Some}
use Rattle.foundation.proofs.Options.{none_there}
use Rattle.arm_value.specs.Json.{Json, bool, text}
use Rattle.arm_ids.specs.Id.{text_of}
use Rattle.arm_ids.specs.declared.id.ResourceId.{ResourceId}
use Rattle.reading.specs.Reading.{pure}
use Rattle.reading.specs.World.{value_in}
use Rattle.reading.specs.Knowledge.{Told, value, told, Completes, Holds, Known, known, absent, missing}
use Rattle.reading.proofs.Parts.{value_in-continued}
use Rattle.provider_trait.specs.declared.act.Act.TheVariants.{Put}
use Rattle.provider_trait.specs.declared.answer.Answer.{Answer}
use Rattle.provider_trait.specs.declared.answer.Answer.TheVariants.{Stored}
use Rattle.template_tree.specs.Tree.{BodyTree, body_members, deployment}
use Rattle.deploy_cells.specs.Cells.{Step, Position, Cell, included, name, state, World}
use Rattle.deploy_cells.specs.Guarded.{Reads, there_if}
use Rattle.deploy_cells.specs.Puts.{Kind, IsIncluded, IsPut, IsNested, IsPutAt, key_at, id_at, body_in, AreAllowed}
use Rattle.deploy_cells.specs.Same.{same_id}
use Rattle.plan_cells.specs.Resources.{Listed, nested_in, members_in}
use Rattle.plan_cells.specs.Scopes.{resource_of}
use Rattle.plan_cells.specs.Meaning.{Deployment, meaning, bodies, body_value}
use Rattle.plan_cells.specs.Desired.{kind_of, kinds, held_state, Satisfies}
use Rattle.plan_cells.specs.Known.{entry_of, IsKnown}
use Rattle.plan_cells.specs.Start.{start_world, IsSo, at_point}
use Rattle.plan_cells.specs.Children.{Has}
use Rattle.plan_cells.specs.Tasks as task
use Rattle.plan_cells.specs.Tasks.{Task}
use Rattle.plan_cells.specs.Reads.{key_in}
use Rattle.plan_cells.proofs.KnownLemmas.{told_so}
use Rattle.deploy_histories.specs.Planned.{Planned, IsPlanned, is_asked_first, basis}
use Rattle.deploy_histories.specs.Events.{Event, enter, begin, answer, back, leave, crash, Status, is_waiting}
use Rattle.deploy_histories.specs.Events.{is_begun}
use Rattle.deploy_histories.specs.Events.{is_done, Progress, after_answer, after, after_all, at_opening, progress}
use Rattle.deploy_histories.specs.Points.{point}
use Rattle.deploy_histories.specs.Values.{a_body, body_reading, value_or_null}
use Rattle.deploy_histories.specs.Legal.{SuitsTask, MayEnd, IsLegalFrom, IsLegal, HasSucceeded}
use Rattle.deploy_histories.specs.Answers.{Noted, noted, answers_from, answers_of}
use Rattle.deploy_histories.specs.Outcome.{MayAnswer, stores_by, Target, target, IsGivenTo, AreGiven, IsStoredAs}
use Rattle.deploy_histories.specs.Outcome.{BelongsTo}
use Rattle.history_laws.specs.Past.{WasReady, IsLeft, IsKept}
use Rattle.history_laws.proofs.Steps.{at_itself, all_stay_done}
use Rattle.history_laws.proofs.Keeping.{ready_still, kept_step, kept_opening, kept_always}
use Rattle.history_laws.proofs.Puts.{listed_task, any_has}
use Rattle.history_laws.proofs.Included.{start_so, put_is, keys_listed, start_is, key_at_start}
use Rattle.history_laws.proofs.Included.{target_at_start}
use Rattle.history_laws.proofs.Way.{stored_by, put_with, key_of_state}
use Rattle.history_laws.proofs.Belonging.{stored_in}
use Rattle.history_replays.proofs.Later.{known_later}
use Rattle.history_starts.proofs.Lists.{lists_known}
use Rattle.history_starts.proofs.Puts.{put_once}
use Rattle.history_worlds.proofs.Values.{the_world, known_so, is_world, a_putter, stored_at, put_value, held_value}

holds_by : (a : Option Json) (k : Known Json) → ((u : Option Json) → k ≡ entry_of u → a ≡ u) → Holds a k
holds_by a (known v) h = h (Some v) refl
holds_by a absent h = h None refl
holds_by a missing h = tt

-- ---- the answers that stored

-- the task of an answer was ready with the answer's body, and is done with its state
record WasStored (x : Planned) (f : ℕ → Status) (n : Noted) (j : Json) : Type 0 where
  of : Task
  is_task : slice_get x.tasks n.task ≡ Some of
  suits : SuitsTask of (Stored j)
  was_ready : WasReady x f n.task of n.body
  is_stored : f n.task ≡ is_done (Some j)

noted_is : (u : ℕ) (a : Answer) (s : Status) (w : ℕ) (b : Json) → s ≡ is_begun w b
    → noted u a s ≡ record { task = u; worker = w; body = b; answer = a }
noted_is u a s w b e = ap (noted u a) e

module _ (may : MayAnswer) (x : Planned) where
  head_stored : (p : Progress) (u : ℕ) (a : Answer) (es : List Event) (j : Json) → IsKept may x p.status
      → (m : MayEnd x p u a) → IsLegalFrom x p (answer u a ∷ es) → a ≡ Stored j
      → WasStored x (after_all es (after_answer u a p)).status (noted u a (p.status u)) j
  head_stored p u a es j kept m l e =
      let h = m.is_begun in
      let b = kept.begun u h.0 h.1.0 h.1.1 in
      let same = same_Some m.ended b.task (sym m.is_task ∙ b.is_task) in
      let suits : SuitsTask b.task (Stored j)
      = subst (λ (t : Task). SuitsTask t (Stored j)) same (subst (λ (c : Answer). SuitsTask m.ended c) e m.suits) in
      let stored : (after_answer u a p).status u ≡ is_done (Some j)
      = ap (λ (c : Answer). (after_answer u c p).status u) e ∙ at_itself u (is_done (Some j)) p.status in
      subst (λ (n : Noted). WasStored x (after_all es (after_answer u a p)).status n j)
      (sym (noted_is u a (p.status u) h.0 h.1.0 h.1.1))
      (record {
        of = b.task;
        is_task = b.is_task;
        suits = suits;
        was_ready =
            ready_still may x p.status (after_all es (after_answer u a p)).status
            (all_stay_done x p (answer u a ∷ es) l) u b.task h.1.0 b.was_ready;
        is_stored = all_stay_done x (after_answer u a p) es l.1 u (Some j) stored;
      })

  was_stored : (es : List Event) (p : Progress) → IsLegalFrom x p es → AreGiven may x p es → IsKept may x p.status
      → (n : Noted) (j : Json) → Has n (answers_from p es) → n.answer ≡ Stored j
      → WasStored x (after_all es p).status n j
  was_stored [] p l g k n j h e = absurd h
  was_stored (answer u a ∷ es) p l g k n j h e = elim h [
    | inl i ↦
        subst (λ (m : Noted). WasStored x (after_all es (after_answer u a p)).status m j) i
        (head_stored p u a es j k l.0 l
        (sym (answer_is u a (p.status u)) ∙ (ap (λ (m : Noted). m.answer) i ∙ e)))
    | inr i ↦
        was_stored es (after_answer u a p) l.1 g.1 (kept_step may x p (answer u a) l.0 g.0 k) n j i e
  ]
    where
      answer_is : (u : ℕ) (a : Answer) (s : Status) → (noted u a s).answer ≡ a
      answer_is u a is_waiting = refl
      answer_is u a (is_begun w b) = refl
      answer_is u a (is_done o) = refl
  was_stored (enter u ∷ es) p l g k n j h e =
      was_stored es (after (enter u) p) l.1 g.1 (kept_step may x p (enter u) l.0 g.0 k) n j h e
  was_stored (leave u ∷ es) p l g k n j h e =
      was_stored es (after (leave u) p) l.1 g.1 (kept_step may x p (leave u) l.0 g.0 k) n j h e
  was_stored (begin u w b ∷ es) p l g k n j h e =
      was_stored es (after (begin u w b) p) l.1 g.1 (kept_step may x p (begin u w b) l.0 g.0 k) n j h e
  was_stored (back u ∷ es) p l g k n j h e =
      was_stored es (after (back u) p) l.1 g.1 (kept_step may x p (back u) l.0 g.0 k) n j h e
  was_stored (crash ∷ es) p l g k n j h e =
      was_stored es (after crash p) l.1 g.1 (kept_step may x p crash l.0 g.0 k) n j h e

module _ (may : MayAnswer) (x : Planned) (planned : IsPlanned x) (h : List Event)
    (legal : IsLegal x h) (given : AreGiven may x at_opening h) (ended : HasSucceeded x (progress h)) where
  abbrev d : Deployment
  d = x.deployment

  abbrev p : Progress
  p = progress h

  kept : IsKept may x p.status
  kept = kept_always may x h legal given

  w : World
  w = the_world may x planned p kept ended.all_done (lists_known x planned)

  knows : (c : Cell) (o : Option Json) → IsKnown (meaning d) (at_point (basis x) (point x p.status)) c o → w c ≡ o
  unfolding w
  knows c o k = known_so may x planned p kept ended.all_done (lists_known x planned) c o k

  world : (c : Cell) → value_in w (meaning d c) ≡ Some (w c)
  unfolding w
  world c = is_world may x planned p kept ended.all_done (lists_known x planned) c

  start_is_so : Completes x.known w
  start_is_so = start_so x planned w world

  -- what was known when a task was ready is so
  then_so : (u : ℕ) (t : Task) (b : Json) (r : WasReady x p.status u t b) → Completes r.known w
  then_so u t b r c =
      holds_by (w c) (r.known c)
      (λ o e. knows c o (known_later x r.earlier p r.known r.stays r.is_known c o e))

  -- ---- bodies

  some_mapped : {A B : Type 0} (f : A → B) (o : Option A) (a : A) → o ≡ Some a → (b : B) × (option_map f o ≡ Some b)
  some_mapped f o a e = (f a, ap (option_map f) e)

  by_content : (q : Position) (s : Step) (y : Listed) (b : BodyTree) → y.content ≡ b → nested_in b ≡ None
      → (r : Reads Json) × (body_value d q s y ≡ Some r)
  by_content q s y (deployment sc ps t) e n = absurd (true≢false (ap is_some n))
  by_content q s y (body_members ms) e n = some_mapped _ (members_in y.content) ms (ap members_in e)

  by_resource : (q : Position) (s : Step) (k : Kind) → k.is_deployment ≡ false → (o : Option Listed)
      → resource_of d.template q s.resource ≡ o → option_map kind_of o ≡ Some k
      → (r : Reads Json) × (bodies d q s ≡ Some r)
  by_resource q s k never None e f = let g : None ≡ Some k = f in absurd (cc)
  by_resource q s k never (Some y) e f =
      let plain : is_some (nested_in y.content) ≡ false
      = ap (λ (z : Kind). z.is_deployment) (same_Some (kind_of y) k f) ∙ never in
      let r = by_content q s y y.content refl (none_there (nested_in y.content) plain) in
      (r.0, ap (option_and_then (body_value d q s)) e ∙ r.1)

  -- what is put has a body to read
  body_reads : (q : Position) (s : Step) (k : Kind) (n : List ℕ) → IsPut (kinds d) w q s k n
      → (r : Reads Json) × (bodies d q s ≡ Some r)
  body_reads q s k n i =
      by_resource q s k i.is_resource (resource_of d.template q s.resource) refl i.is_included.is_declared

  so_value : (r : Reads (Option Json)) (z : Told Cell (Option Json)) (o : Option Json) → IsSo w r z → z ≡ value o
      → value_in w r ≡ Some o
  so_value r z o g e = subst (λ (y : Told Cell (Option Json)). IsSo w r y) e g

  by_value : (r : Reads Json) (o v : Option Json) → value_in w r ≡ v
      → option_and_then (λ j. value_in w (pure (Some j))) v ≡ Some o → (b : Json) × ((v ≡ Some b) × (o ≡ Some b))
  unfolding value_in
  by_value r o None e f = let g : None ≡ Some o = f in absurd (cc)
  by_value r o (Some b) e f = (b, (refl, sym (same_Some (Some b) o f)))

  -- a put that was ready with a body has this body
  body_so : (q : Position) (s : Step) (rd : Reads Json) → bodies d q s ≡ Some rd → (u : ℕ) (b : Json)
      → WasReady x p.status u (task.put q s) b → body_in w (bodies d q s) ≡ Some b
  body_so q s rd e u b r =
      let v = r.is_ready.has_values (record { part = a_body; reading = body_reading d q s }) (inl refl) in
      let here : value_in w (body_reading d q s) ≡ Some v.0
      = so_value (body_reading d q s) (told r.known (body_reading d q s)) v.0
      (told_so (Option Json) w r.known (then_so u (task.put q s) b r) (body_reading d q s)) v.1 in
      let read : value_in w (there_if (Some rd)) ≡ Some v.0
      = ap (λ (o : Option (Reads Json)). value_in w (there_if o)) (sym e) ∙ here in
      let g = by_value rd v.0 (value_in w rd) refl
      (sym (value_in-continued Cell Json Json (Option Json) w rd (λ j. pure (Some j))) ∙ read) in
      let body : g.0 ≡ b
      = sym (ap value_or_null (v.1 ∙ ap value g.1.1)) ∙ r.is_ready.has_body in
      ap (body_in w) e ∙ (g.1.0 ∙ ap Some body)

  was_ready : (u : ℕ) (o : Option Json) (q : Position) (s : Step) → slice_get x.tasks u ≡ Some (task.put q s)
      → p.status u ≡ is_done o → (b : Json) × (WasReady x p.status u (task.put q s) b × IsLeft may x (task.put q s) b o)
  was_ready u o q s is e =
      let k = kept.done u o e in
      let same : k.task ≡ task.put q s = same_Some k.task (task.put q s) (sym k.is_task ∙ is) in (
        k.body,
        (
          subst (λ (t : Task). WasReady x p.status u t k.body) same k.was_ready,
          subst (λ (t : Task). IsLeft may x t k.body o) same k.is_left,
        ),
      )

  -- ---- keys differ

  at_start : (c : Cell) (o : Option Json) → is_asked_first c ≡ true → w c ≡ o → start_world x.known c ≡ o
  at_start c o a e = start_is x planned w start_is_so c a ∙ e

  included_first : (q : Position) (s : Step) (k : Kind) (n : List ℕ) → IsIncluded (kinds d) w q s k n
      → IsIncluded (kinds d) (start_world x.known) q s k n
  included_first q s k n i = record {
    is_declared = i.is_declared;
    has_condition = at_start (included q s) (Some (bool true)) refl i.has_condition;
    has_name = at_start (name q s) (Some (text n)) refl i.has_name;
  }

  put_first : (q : Position) (s : Step) (k : Kind) (n : List ℕ) → IsPut (kinds d) w q s k n
      → IsPut (kinds d) (start_world x.known) q s k n
  put_first q s k n i = record {
    is_included = included_first q s k n i.is_included;
    is_resource = i.is_resource;
  }

  nested_first : (q : Position) (s : Step) (k : Kind) (n : List ℕ) → IsNested (kinds d) w q s k n
      → IsNested (kinds d) (start_world x.known) q s k n
  nested_first q s k n i = record {
    is_included = included_first q s k n i.is_included;
    is_deployment = i.is_deployment;
  }

  -- ---- states

  -- a put, the task that has stored its state, and this state
  record PutState (q : Position) (s : Step) (k : Kind) (n : List ℕ) : Type 0 where
    number : ℕ
    stored : Json
    is_task : slice_get x.tasks number ≡ Some (task.put q s)
    has : p.status number ≡ is_done (Some stored)
    state_is : w (state (key_at d.place k.type n)) ≡ Some stored

  same_instance : (s t : Step) (q r : Position) → (t ∷ r) ≡ (s ∷ q) → task.put r t ≡ task.put q s
  same_instance s t q r e =
      ap (λ (l : Position). of_list l) e
    where
      of_list : Position → Task
      of_list [] = task.put [] s
      of_list (a ∷ b) = task.put b a

  put_state : (q : Position) (s : Step) (k : Kind) (n : List ℕ) → IsPut (kinds d) w q s k n → PutState q s k n
  put_state q s k n i =
      let key = key_at d.place k.type n in
      let listed : list_any (same_id key) x.keys ≡ true
      = keys_listed x planned w world key
      (record { at = q; instance = s; kind = k; title = n; is_put = i; has_key = refl }) in
      let j = stored_at may x planned p kept ended.all_done (lists_known x planned) key listed in
      let z = stored_by x p.status key j.0 j.1 in
      let a = put_with x key z.task z.puts in
      let b = put_is x planned w world a.at a.instance
      (listed_task x.tasks z.number (task.put a.at a.instance) (z.is_task ∙ ap Some a.is)) in
      let l = key_of_state (key_in d (start_world x.known) a.at a.instance) key a.has_key in
      let one : key_at d.place b.kind.type b.title ≡ key
      = same_Some (key_at d.place b.kind.type b.title) l.0
      (sym (key_at_start x planned w start_is_so a.at a.instance b.kind b.title b.is_put) ∙ l.1.0) ∙ l.1.1 in
      let same : (a.instance ∷ a.at) ≡ (s ∷ q)
      = planned.resources_differ a.at q a.instance s b.kind k b.title n
      (put_first a.at a.instance b.kind b.title b.is_put) (put_first q s k n i) one in
      record {
        number = z.number;
        stored = j.0;
        is_task = z.is_task ∙ ap Some (a.is ∙ same_instance s a.instance q a.at same);
        has = z.has;
        state_is =
            knows (state key) (Some j.0)
            (put_value may x planned p kept ended.all_done (lists_known x planned) key j.0 listed j.1).is_known;
      }

  not_put : (k : ResourceId) → (IsPutAt d.place (kinds d) w k → ⊥) → (b : Bool) → list_any (same_id k) x.keys ≡ b
      → w (state k) ≡ held_state x.held k
  not_put k never false e =
      knows (state k) (held_state x.held k)
      (held_value may x planned p kept ended.all_done (lists_known x planned) k e).is_known
  not_put k never true e =
      let t = a_putter may x planned p kept ended.all_done (lists_known x planned) k (any_has k x.keys e) in
      let a = put_with x k t.0 t.1.1 in
      let b = put_is x planned w world a.at a.instance (subst (λ (z : Task). Has z x.tasks) a.is t.1.0) in
      let l = key_of_state (key_in d (start_world x.known) a.at a.instance) k a.has_key in
      absurd (never (record {
        at = a.at;
        instance = a.instance;
        kind = b.kind;
        title = b.title;
        is_put = b.is_put;
        has_key =
            same_Some (key_at d.place b.kind.type b.title) l.0
            (sym (key_at_start x planned w start_is_so a.at a.instance b.kind b.title b.is_put) ∙ l.1.0) ∙ l.1.1;
      }))

  -- ---- the desired state

  satisfied : Satisfies d x.held w
  satisfied = record {
    is_world = world;
    have_bodies = λ q s k n i.
        let z = put_state q s k n i in
        let r = was_ready z.number (Some z.stored) q s z.is_task z.has in
        let rd = body_reads q s k n i in (r.0, body_so q s rd.0 rd.1 z.number r.0 r.1.0);
    resources_differ = λ q r s t k l m n i j e.
        planned.resources_differ q r s t k l m n (put_first q s k m i) (put_first r t l n j) e;
    deployments_differ = λ q s t k l m n i j e.
        planned.deployments_differ q s t k l m n (nested_first q s k m i) (nested_first q t l n j) e;
    others_are_held = λ k never. not_put k never (list_any (same_id k) x.keys) refl;
  }

  given_put : (t : Option Target) (g : Target) (body : Json) (a : Answer) → IsGivenTo may t body a → t ≡ Some g
      → may g.act g.id g.api body a
  given_put t g body a i e = subst (λ (o : Option Target). IsGivenTo may o body a) e i

  is_allowed : AreAllowed (stores_by may) d.place (kinds d) (bodies d) w
  is_allowed q s k n b i e =
      let z = put_state q s k n i in
      let r = was_ready z.number (Some z.stored) q s z.is_task z.has in
      let rd = body_reads q s k n i in
      let body : r.0 ≡ b = same_Some r.0 b (sym (body_so q s rd.0 rd.1 z.number r.0 r.1.0) ∙ e) in
      let left = r.1.1 in
      let g = given_put (target x (task.put q s))
      (record { act = Put; id = text_of (id_at d.place k.type n); api = k.api }) r.0 (Stored left.0) left.1.1
      (target_at_start x planned w start_is_so q s k n i) in (
        left.0,
        (
          z.state_is ∙ left.1.0,
          subst (λ (c : Json). may Put (text_of (id_at d.place k.type n)) k.api c (Stored left.0)) body g,
        ),
      )

  -- ---- the answers

  is_put_task : (t : Task) (j : Json) → SuitsTask t (Stored j) → (q : Position) × ((s : Step) × (t ≡ task.put q s))
  is_put_task (task.put q s) j suits = (q, (s, refl))
  is_put_task (task.delete k) j suits = absurd suits
  is_put_task (task.enter q) j suits = absurd suits
  is_put_task (task.leave q) j suits = absurd suits

  -- an answer that stored, of a put of the world
  answer_as : (q : Position) (s : Step) (k : Kind) (t : List ℕ) → IsPut (kinds d) w q s k t → (n : Noted) (j : Json)
      → Has n (answers_of h) → n.answer ≡ Stored j → slice_get x.tasks n.task ≡ Some (task.put q s)
      → IsStoredAs x w q s n
  answer_as q s k t i n j listed e is =
      let c = was_stored may x h at_opening legal given (kept_opening may x) n j listed e in
      let z = put_state q s k t i in
      let rd = body_reads q s k t i in
      let one : z.number ≡ n.task = put_once x planned q s z.number n.task z.is_task is in
      let same : z.stored ≡ j
      = same_Some z.stored j (state_of (sym z.has ∙ (ap p.status one ∙ c.is_stored))) in
      record {
        is_task = is;
        stored = j;
        is_stored = e;
        is_put_as = record {
          kind = k;
          title = t;
          is_put = i;
          has_body =
              body_so q s rd.0 rd.1 n.task n.body
              (subst (λ (y : Task). WasReady x p.status n.task y n.body)
              (same_Some c.of (task.put q s) (sym c.is_task ∙ is)) c.was_ready);
          has_state = z.state_is ∙ ap Some same;
        };
      }
    where
      state_of : {a b : Json} → is_done (Some a) ≡ is_done (Some b) → Some a ≡ Some b
      state_of e = cc

  belongs : BelongsTo x w (answers_of h)
  belongs = record {
    each_put = λ q s k t i.
        let z = put_state q s k t i in
        let n = stored_in h z.number z.stored z.has in (
          n.by,
          (
            n.listed,
            answer_as q s k t i n.by z.stored n.listed n.stores
                (ap (slice_get x.tasks) n.of ∙ z.is_task),
          ),
        );
    each_stored = λ n j listed e.
        let c = was_stored may x h at_opening legal given (kept_opening may x) n j listed e in
        let t = is_put_task c.of j c.suits in
        let is = c.is_task ∙ ap Some t.1.1 in
        let b = put_is x planned w world t.0 t.1.0 (listed_task x.tasks n.task (task.put t.0 t.1.0) is) in
        (t.0, (t.1.0, answer_as t.0 t.1.0 b.kind b.title b.is_put n j listed e is));
  }

  pub a_world : (v : World) × (Satisfies d x.held v × (AreAllowed (stores_by may) d.place (kinds d) (bodies d) v
      × BelongsTo x v (answers_of h)))
  a_world = (w, (satisfied, (is_allowed, belongs)))
