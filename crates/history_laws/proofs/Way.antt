-- The states that a history has stored are those of the desired states over a provider that may give one answer only.
use Rattle.std.proofs.Common.{◌≡◌, inl, inr, ℕ, true, true≢false, List, [], ◌∷◌}
use Rattle.std.proofs.Common.{Option, Some, None, refl, sym, ap, subst, ◌∙◌}
use Rattle.std.specs.Prelude.{slice_get, option_and_then}
use Rattle.std.proofs.lemmas.Option.{same_Some}
use Rattle.arm_value.specs.Json.{Json}
use Rattle.arm_ids.specs.Id.{text_of}
use Rattle.arm_ids.specs.declared.id.ResourceId.{ResourceId}
use Rattle.reading.specs.World.{value_in}
use Rattle.reading.specs.Knowledge.{Known, known, absent, missing, Told, value, told, Holds, Completes}
use Rattle.provider_trait.specs.declared.act.Act.TheVariants.{Put}
use Rattle.provider_trait.specs.declared.answer.Answer.{Answer}
use Rattle.provider_trait.specs.declared.answer.Answer.TheVariants.{Stored, Gone, Refused}
use Rattle.deploy_cells.specs.Cells.{Step, Position, Cell, state, World}
use Rattle.deploy_cells.specs.Guarded.{Reads}
use Rattle.deploy_cells.specs.Puts.{key_at, id_at, body_in, AreAllowed}
use Rattle.deploy_cells.proofs.SameLemmas.{id_is}
use Rattle.deploy_histories.specs.Known.{Table, entry_of}
use Rattle.deploy_histories.specs.Meaning.{meaning, bodies}
use Rattle.deploy_histories.specs.Desired.{kinds, Satisfies}
use Rattle.deploy_histories.specs.Start.{start_world, at_point, IsSo, IsOnTheWay}
use Rattle.deploy_histories.specs.Tasks as task
use Rattle.deploy_histories.specs.Tasks.{Task}
use Rattle.deploy_histories.specs.Reads.{key_in, is_state_at}
use Rattle.deploy_histories.proofs.KnownLemmas.{so_in_worlds, told_so}
use Rattle.deploy_histories.proofs.PointLemmas.{true_at_point}
use Rattle.deploy_histories.specs.Planned.{Planned, IsPlanned, puts_at, putter, basis}
use Rattle.deploy_histories.specs.Events.{Event, enter, begin, answer, back, leave, crash, Status, is_waiting, is_begun, is_done, Progress, changed, after_answer, closed, after, after_all, at_opening, progress, state_in}
use Rattle.deploy_histories.specs.Points.{point, IsKnownThen}
use Rattle.deploy_histories.specs.Values.{a_body, body_reading, value_or_null}
use Rattle.deploy_histories.specs.Legal.{May, MayEnd, IsLegalFrom, IsLegal}
use Rattle.deploy_histories.specs.Outcome.{MayAnswer, stores_by, Target, target, IsGivenTo, IsGiven, AreGiven}
use Rattle.deploy_histories.proofs.ReadinessLemmas.{first_is}
use Rattle.history_laws.specs.Past.{StaysDone, WasReady, IsKept, OneAnswer}
use Rattle.history_laws.proofs.Steps.{IsChanged, at_changed, points_later}
use Rattle.history_laws.proofs.Keeping.{given_target, kept_step, kept_opening}
use Rattle.history_laws.proofs.Included.{put_is, keys_listed, start_so, key_at_start, target_at_start, body_there}
use Rattle.history_laws.proofs.Puts.{listed_task}

-- what is stored, by now, is so in the world
abbrev pub StoredIsSo : Planned → World → (ℕ → Status) → Type 0
StoredIsSo x w f = (k : ResourceId) (j : Json) → (point x f).stored k ≡ Some j → w (state k) ≡ Some j

-- the task that has stored a state at a key
pub record IsStored (x : Planned) (f : ℕ → Status) (k : ResourceId) (j : Json) : Type 0 where
  pub number : ℕ
  pub task : Task
  pub is_task : slice_get x.tasks number ≡ Some task
  pub puts : puts_at x k task ≡ true
  pub is_putter : putter x k ≡ Some number
  pub has : f number ≡ is_done (Some j)

state_done : (s : Status) (j : Json) → state_in s ≡ Some j → s ≡ is_done (Some j)
state_done (is_done (Some i)) j e = ap is_done e
state_done (is_done None) j e = let f : None ≡ Some j = e in absurd (cc)
state_done is_waiting j e = let f : None ≡ Some j = e in absurd (cc)
state_done (is_begun w b) j e = let f : None ≡ Some j = e in absurd (cc)

pub stored_by : (x : Planned) (f : ℕ → Status) (k : ResourceId) (j : Json) → (point x f).stored k ≡ Some j
    → IsStored x f k j
stored_by x f k j e = by_putter (putter x k) refl e
  where
    by_putter : (o : Option ℕ) → putter x k ≡ o → option_and_then (λ u. state_in (f u)) o ≡ Some j
        → IsStored x f k j
    by_putter None p e = let g : None ≡ Some j = e in absurd (cc)
    by_putter (Some u) p e =
        let h = first_is (λ n t. puts_at x k t) x.tasks u p in
        record {
          number = u;
          task = h.found;
          is_task = h.has;
          puts = h.passes;
          is_putter = p;
          has = state_done (f u) j e;
        }

-- a task that puts at a key is a put of that key
pub record IsPutWith (x : Planned) (k : ResourceId) (t : Task) : Type 0 where
  pub at : Position
  pub instance : Step
  pub is : t ≡ task.put at instance
  pub has_key : is_state_at (key_in x.deployment (start_world x.known) at instance) (state k) ≡ true

pub put_with : (x : Planned) (k : ResourceId) (t : Task) → puts_at x k t ≡ true → IsPutWith x k t
put_with x k (task.put p s) e = record { at = p; instance = s; is = refl; has_key = e }
put_with x k (task.enter p) e = absurd (true≢false (sym e))
put_with x k (task.leave p) e = absurd (true≢false (sym e))
put_with x k (task.delete l) e = absurd (true≢false (sym e))

pub key_of_state : (o : Option ResourceId) (k : ResourceId) → is_state_at o (state k) ≡ true
    → (l : ResourceId) × ((o ≡ Some l) × (l ≡ k))
key_of_state None k e = absurd (true≢false (sym e))
key_of_state (Some l) k e = (l, (refl, id_is l k e))

pub stored_same : (i j : Json) → Stored i ≡ Stored j → i ≡ j
stored_same i j e = cc

module _ (x : Planned) (planned : IsPlanned x) (w : World) (sat : Satisfies x.deployment x.held w) where
  pub on_the_way : (f : ℕ → Status) → StoredIsSo x w f → IsOnTheWay x.deployment (basis x) (point x f) w
  on_the_way f so = record { keys = keys_listed x planned w sat.is_world; stored = so }

  holds_at : (c : Cell) (k : Known Json) → ((o : Option Json) → k ≡ entry_of o → w c ≡ o) → Holds (w c) k
  holds_at c (known j) h = h (Some j) refl
  holds_at c absent h = h None refl
  holds_at c missing h = tt

  pub known_so : (p : Progress) (t : Table) → IsKnownThen x p t → StoredIsSo x w p.status → Completes t w
  known_so p t i so c =
      holds_at c (t c) (λ o e.
      so_in_worlds (meaning x.deployment) (at_point (basis x) (point x p.status)) w sat.is_world
      (true_at_point x.deployment (basis x) (point x p.status) w sat (on_the_way p.status so)) c o (i c o e))

  pub earlier_so : (f g : ℕ → Status) → StaysDone f g → StoredIsSo x w g → StoredIsSo x w f
  earlier_so f g more so k j e = so k j ((points_later f g more x).stored k j e)

  pub so_value : (r : Reads (Option Json)) (t : Told Cell (Option Json)) (o : Option Json) → IsSo w r t → t ≡ value o
      → value_in w r ≡ Some o
  so_value r t o so e = subst (λ (z : Told Cell (Option Json)). IsSo w r z) e so

  -- a put that was ready with a body has this body in the world
  pub body_is : (f : ℕ → Status) → StoredIsSo x w f → (u : ℕ) (p : Position) (s : Step) (body : Json)
      → WasReady x f u (task.put p s) body → (b : Json) → body_in w (bodies x.deployment p s) ≡ Some b → b ≡ body
  body_is f so u p s body r b e =
      let all = known_so r.earlier r.known r.is_known (earlier_so r.earlier.status f r.stays so) in
      let v = r.is_ready.has_values (record { part = a_body; reading = body_reading x.deployment p s }) (inl refl) in
      let here = so_value (body_reading x.deployment p s) (told r.known (body_reading x.deployment p s)) v.0
      (told_so (Option Json) w r.known all (body_reading x.deployment p s)) v.1 in
      let same : v.0 ≡ Some b = same_Some v.0 (Some b) (sym here ∙ body_there w (bodies x.deployment p s) b e) in
      sym (ap value_or_null (v.1 ∙ ap value same)) ∙ r.is_ready.has_body

-- nothing more is stored
abbrev StoresLess : (ℕ → Status) → (ℕ → Status) → Type 0
StoresLess f g = (v : ℕ) (j : Json) → g v ≡ is_done (Some j) → f v ≡ is_done (Some j)

pub change_less : (u : ℕ) (s : Status) (f : ℕ → Status) → ((j : Json) → s ≡ is_done (Some j) → ⊥)
    → StoresLess f (changed u s f)
change_less u s f n v j e = elim (at_changed u s f v) [
  | inl h ↦ absurd (n j (sym h.1 ∙ e))
  | inr h ↦ sym h.1 ∙ e
]

pub still_stored : (x : Planned) (f : ℕ → Status) (k : ResourceId) (v : ℕ) (j : Json) → putter x k ≡ Some v
    → f v ≡ is_done (Some j) → (point x f).stored k ≡ Some j
still_stored x f k v j p e = ap (option_and_then (λ u. state_in (f u))) p ∙ ap state_in e

pub not_none : (j : Json) → is_done None ≡ is_done (Some j) → ⊥
not_none j e = let f : None ≡ Some j = ap state_in e in absurd (cc)

pub not_waiting : (j : Json) → is_waiting ≡ is_done (Some j) → ⊥
not_waiting j e = cc

pub not_begun : (w : ℕ) (b j : Json) → is_begun w b ≡ is_done (Some j) → ⊥
not_begun w b j e = cc

pub closed_less : (s : Status) (j : Json) → closed s ≡ is_done (Some j) → s ≡ is_done (Some j)
closed_less is_waiting j e = e
closed_less (is_begun w b) j e = absurd (not_waiting j e)
closed_less (is_done o) j e = e

pub done_same : (i j : Json) → is_done (Some i) ≡ is_done (Some j) → i ≡ j
done_same i j e = same_Some i j (ap state_in e)

module _ (may : MayAnswer) (single : OneAnswer may) (x : Planned) (planned : IsPlanned x) (w : World)
    (sat : Satisfies x.deployment x.held w)
    (allowed : AreAllowed (stores_by may) x.deployment.place (kinds x.deployment) (bodies x.deployment) w) where
  less_so : (f g : ℕ → Status) → StoresLess f g → StoredIsSo x w f → StoredIsSo x w g
  less_so f g less so k j e =
      let s = stored_by x g k j e in
      so k j (still_stored x f k s.number j s.is_putter (less s.number j s.has))

  given_put : (t : Option Target) (g : Target) (body : Json) (a : Answer) → IsGivenTo may t body a → t ≡ Some g
      → may g.act g.id g.api body a
  given_put t g body a h e = subst (λ (o : Option Target). IsGivenTo may o body a) e h

  -- the state that a put was answered is the one of the world
  answered_so : (f : ℕ → Status) → StoredIsSo x w f → (u : ℕ) (p : Position) (s : Step) (body j : Json)
      → slice_get x.tasks u ≡ Some (task.put p s) → WasReady x f u (task.put p s) body
      → IsGivenTo may (target x (task.put p s)) body (Stored j) → (k : ResourceId)
      → is_state_at (key_in x.deployment (start_world x.known) p s) (state k) ≡ true → w (state k) ≡ Some j
  answered_so f so u p s body j is r given k at =
      let q = put_is x planned w sat.is_world p s (listed_task x.tasks u (task.put p s) is) in
      let b = sat.have_bodies p s q.kind q.title q.is_put in
      let same = body_is x planned w sat f so u p s body r b.0 b.1 in
      let a = allowed p s q.kind q.title b.0 q.is_put b.1 in
      let g = given_put (target x (task.put p s))
      (record {
        act = Put;
        id = text_of (id_at x.deployment.place q.kind.type q.title);
        api = q.kind.api;
      }) body (Stored j) given
      (target_at_start x planned w (start_so x planned w sat.is_world) p s q.kind q.title q.is_put) in
      let theirs : may Put (text_of (id_at x.deployment.place q.kind.type q.title)) q.kind.api body (Stored a.0)
      = subst (λ (c : Json). may Put (text_of (id_at x.deployment.place q.kind.type q.title)) q.kind.api c
      (Stored a.0)) same a.1.1 in
      let one : a.0 ≡ j = stored_same a.0 j
      (single Put (text_of (id_at x.deployment.place q.kind.type q.title)) q.kind.api body (Stored a.0) (Stored j)
      theirs g) in
      let l = key_of_state (key_in x.deployment (start_world x.known) p s) k at in
      let here : key_at x.deployment.place q.kind.type q.title ≡ k
      = same_Some (key_at x.deployment.place q.kind.type q.title) l.0
      (sym (key_at_start x planned w (start_so x planned w sat.is_world) p s q.kind q.title q.is_put)
      ∙ l.1.0) ∙ l.1.1 in
      subst (λ (i : ResourceId). w (state i) ≡ Some j) here (a.1.0 ∙ ap Some one)

  stored_now : (p : Progress) (u : ℕ) (j : Json) → MayEnd x p u (Stored j) → IsGiven may x p (answer u (Stored j))
      → IsKept may x p.status → StoredIsSo x w p.status → StoredIsSo x w (changed u (is_done (Some j)) p.status)
  stored_now p u j m g kept so k i e =
      by_change (at_changed u (is_done (Some j)) p.status s.number)
    where
      s : IsStored x (changed u (is_done (Some j)) p.status) k i
      s = stored_by x (changed u (is_done (Some j)) p.status) k i e

      by_task : (t : Task) → slice_get x.tasks u ≡ Some t → puts_at x k t ≡ true → w (state k) ≡ Some j
      by_task t is puts =
          let h = m.is_begun in let b = kept.begun u h.0 h.1.0 h.1.1 in
          let q = put_with x k t puts in
          let mine : b.task ≡ task.put q.at q.instance = same_Some b.task t (sym b.is_task ∙ is) ∙ q.is in
          answered_so p.status so u q.at q.instance h.1.0 j (is ∙ ap Some q.is)
          (subst (λ (z : Task). WasReady x p.status u z h.1.0) mine b.was_ready)
          (given_target may x u (task.put q.at q.instance) h.1.0 (Stored j) (is ∙ ap Some q.is)
          (g h.0 h.1.0 h.1.1)) k q.has_key

      by_change : IsChanged u (is_done (Some j)) p.status s.number → w (state k) ≡ Some i
      by_change (inl h) =
          by_task s.task (subst (λ (n : ℕ). slice_get x.tasks n ≡ Some s.task) h.0 s.is_task) s.puts
          ∙ ap Some (done_same j i (sym h.1 ∙ s.has))
      by_change (inr h) = so k i (still_stored x p.status k s.number i s.is_putter (sym h.1 ∙ s.has))

  so_answer : (p : Progress) (u : ℕ) (a : Answer) → MayEnd x p u a → IsGiven may x p (answer u a)
      → IsKept may x p.status → StoredIsSo x w p.status → StoredIsSo x w (after_answer u a p).status
  so_answer p u (Stored j) m g kept so = stored_now p u j m g kept so
  so_answer p u Gone m g kept so =
      less_so p.status (changed u (is_done None) p.status) (change_less u (is_done None) p.status not_none) so
  so_answer p u (Refused code) m g kept so =
      less_so p.status (changed u is_waiting p.status) (change_less u is_waiting p.status not_waiting) so

  so_step : (p : Progress) (e : Event) → May x p e → IsGiven may x p e → IsKept may x p.status
      → StoredIsSo x w p.status → StoredIsSo x w (after e p).status
  so_step p (enter u) m g kept so =
      less_so p.status (changed u (is_done None) p.status) (change_less u (is_done None) p.status not_none) so
  so_step p (begin u n b) m g kept so =
      less_so p.status (changed u (is_begun n b) p.status) (change_less u (is_begun n b) p.status (not_begun n b)) so
  so_step p (answer u a) m g kept so = so_answer p u a m g kept so
  so_step p (back u) m g kept so =
      less_so p.status (changed u is_waiting p.status) (change_less u is_waiting p.status not_waiting) so
  so_step p (leave u) m g kept so =
      less_so p.status (changed u (is_done None) p.status) (change_less u (is_done None) p.status not_none) so
  so_step p crash m g kept so =
      less_so p.status (after crash p).status (λ v j e. closed_less (p.status v) j e) so

  so_all : (p : Progress) (es : List Event) → IsLegalFrom x p es → AreGiven may x p es → IsKept may x p.status
      → StoredIsSo x w p.status → StoredIsSo x w (after_all es p).status
  so_all p [] l g kept so = so
  so_all p (e ∷ es) l g kept so =
      so_all (after e p) es l.1 g.1 (kept_step may x p e l.0 g.0 kept) (so_step p e l.0 g.0 kept so)

  nothing_stored : StoredIsSo x w at_opening.status
  nothing_stored k j e = let s = stored_by x at_opening.status k j e in absurd (not_waiting j s.has)

  pub stored_so : (h : List Event) → IsLegal x h → AreGiven may x at_opening h → StoredIsSo x w (progress h).status
  stored_so h l g = so_all at_opening h l g (kept_opening may x) nothing_stored
