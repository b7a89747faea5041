-- A desired state that belongs to the answers of a history has the states that it has stored.
use Rattle.std.proofs.Common.{◌≡◌, ◌⊎◌, inl, inr, ℕ, true, List, [], ◌∷◌, Some, None, refl, sym, ap, subst, ◌∙◌}
use Rattle.std.specs.Prelude.{slice_get}
use Rattle.std.proofs.lemmas.Option.{same_Some}
use Rattle.arm_value.specs.Json.{Json}
use Rattle.arm_ids.specs.declared.id.ResourceId.{ResourceId}
use Rattle.provider_trait.specs.declared.answer.Answer.{Answer}
use Rattle.provider_trait.specs.declared.answer.Answer.TheVariants.{Stored, Gone, Refused}
use Rattle.deploy_cells.specs.Cells.{state, World}
use Rattle.deploy_cells.specs.Puts.{key_at}
use Rattle.deploy_histories.specs.Desired.{Satisfies}
use Rattle.deploy_histories.specs.Start.{start_world}
use Rattle.deploy_histories.specs.Children.{Has}
use Rattle.deploy_histories.specs.Tasks as task
use Rattle.deploy_histories.specs.Tasks.{Task}
use Rattle.deploy_histories.specs.Reads.{key_in, is_state_at}
use Rattle.deploy_histories.specs.Planned.{Planned, IsPlanned, puts_at}
use Rattle.deploy_histories.specs.Events.{Event, enter, begin, answer, back, leave, crash, Status, is_waiting, is_begun, is_done, Progress, after, after_all, at_opening, progress}
use Rattle.deploy_histories.specs.Answers.{Noted, noted, answers_from, answers_of}
use Rattle.deploy_histories.specs.Outcome.{BelongsTo}
use Rattle.history_laws.proofs.Steps.{IsChanged, at_changed}
use Rattle.history_laws.proofs.Included.{start_so, key_at_start}
use Rattle.history_laws.proofs.Way.{StoredIsSo, stored_by, key_of_state, stored_same}
use Rattle.history_laws.proofs.Way.{change_less, not_none, not_waiting, not_begun, closed_less, done_same}

-- an answer that stores the state for the task
pub record IsStoredIn (answers : List Noted) (u : ℕ) (j : Json) : Type 0 where
  pub by : Noted
  pub listed : Has by answers
  pub of : by.task ≡ u
  pub stores : by.answer ≡ Stored j

noted_task : (u : ℕ) (a : Answer) (s : Status) → (noted u a s).task ≡ u
noted_task u a is_waiting = refl
noted_task u a (is_begun w b) = refl
noted_task u a (is_done o) = refl

noted_answer : (u : ℕ) (a : Answer) (s : Status) → (noted u a s).answer ≡ a
noted_answer u a is_waiting = refl
noted_answer u a (is_begun w b) = refl
noted_answer u a (is_done o) = refl

-- what is stored after an event was stored before it, or is stored by it
abbrev IsNew : Progress → Event → ℕ → Json → Type 0
IsNew p (answer v a) u j = (v ≡ u) × (a ≡ Stored j)
IsNew p e u j = ⊥

new_by : (p : Progress) (v : ℕ) (a : Answer) (u : ℕ) (j : Json) → (after (answer v a) p).status u ≡ is_done (Some j)
    → (p.status u ≡ is_done (Some j)) ⊎ IsNew p (answer v a) u j
new_by p v (Stored i) u j e = by_change (at_changed v (is_done (Some i)) p.status u)
  where
    by_change : IsChanged v (is_done (Some i)) p.status u
        → (p.status u ≡ is_done (Some j)) ⊎ IsNew p (answer v (Stored i)) u j
    by_change (inl h) = inr (sym h.0, ap (λ (z : Json). Stored z) (done_same i j (sym h.1 ∙ e)))
    by_change (inr h) = inl (sym h.1 ∙ e)
new_by p v Gone u j e = inl (change_less v (is_done None) p.status not_none u j e)
new_by p v (Refused code) u j e = inl (change_less v is_waiting p.status not_waiting u j e)

new_or_old : (p : Progress) (e : Event) (u : ℕ) (j : Json) → (after e p).status u ≡ is_done (Some j)
    → (p.status u ≡ is_done (Some j)) ⊎ IsNew p e u j
new_or_old p (enter v) u j e = inl (change_less v (is_done None) p.status not_none u j e)
new_or_old p (begin v w b) u j e = inl (change_less v (is_begun w b) p.status (not_begun w b) u j e)
new_or_old p (answer v a) u j e = new_by p v a u j e
new_or_old p (back v) u j e = inl (change_less v is_waiting p.status not_waiting u j e)
new_or_old p (leave v) u j e = inl (change_less v (is_done None) p.status not_none u j e)
new_or_old p crash u j e = inl (closed_less (p.status u) j e)

first_new : (p : Progress) (e : Event) (es : List Event) (u : ℕ) (j : Json) → IsNew p e u j
    → IsStoredIn (answers_from p (e ∷ es)) u j
first_new p (answer v a) es u j h = record {
  by = noted v a (p.status v);
  listed = inl refl;
  of = noted_task v a (p.status v) ∙ h.0;
  stores = noted_answer v a (p.status v) ∙ h.1;
}
first_new p (enter v) es u j h = absurd h
first_new p (begin v w b) es u j h = absurd h
first_new p (back v) es u j h = absurd h
first_new p (leave v) es u j h = absurd h
first_new p crash es u j h = absurd h

later_new : (p : Progress) (e : Event) (es : List Event) (u : ℕ) (j : Json)
    → IsStoredIn (answers_from (after e p) es) u j → IsStoredIn (answers_from p (e ∷ es)) u j
later_new p (answer v a) es u j h = record { by = h.by; listed = inr h.listed; of = h.of; stores = h.stores }
later_new p (enter v) es u j h = h
later_new p (begin v w b) es u j h = h
later_new p (back v) es u j h = h
later_new p (leave v) es u j h = h
later_new p crash es u j h = h

stored_answer : (p : Progress) (es : List Event) (u : ℕ) (j : Json)
    → (after_all es p).status u ≡ is_done (Some j)
    → (p.status u ≡ is_done (Some j)) ⊎ IsStoredIn (answers_from p es) u j
stored_answer p [] u j e = inl e
stored_answer p (f ∷ es) u j e = elim (stored_answer (after f p) es u j e) [
  | inl h ↦ (elim (new_or_old p f u j h) [ inl g ↦ inl g | inr g ↦ inr (first_new p f es u j g) ])
  | inr h ↦ inr (later_new p f es u j h)
]

pub stored_in : (h : List Event) (u : ℕ) (j : Json) → (progress h).status u ≡ is_done (Some j)
    → IsStoredIn (answers_of h) u j
stored_in h u j e = elim (stored_answer at_opening h u j e) [ inl g ↦ absurd (not_waiting j g) | inr g ↦ g ]

module _ (x : Planned) (planned : IsPlanned x) (w : World) (sat : Satisfies x.deployment x.held w) where
  pub belongs_so : (h : List Event) → BelongsTo x w (answers_of h) → StoredIsSo x w (progress h).status
  belongs_so h b k j e =
      let s = stored_by x (progress h).status k j e in
      let n = stored_in h s.number j s.has in
      let i = b.each_stored n.by j n.listed n.stores in
      let a = i.1.1 in
      let q = a.is_put_as in
      let mine : s.task ≡ task.put i.0 i.1.0
      = same_Some s.task (task.put i.0 i.1.0)
      (sym s.is_task ∙ (ap (slice_get x.tasks) (sym n.of) ∙ a.is_task)) in
      let at : is_state_at (key_in x.deployment (start_world x.known) i.0 i.1.0) (state k) ≡ true
      = subst (λ (t : Task). puts_at x k t ≡ true) mine s.puts in
      let l = key_of_state (key_in x.deployment (start_world x.known) i.0 i.1.0) k at in
      let here : key_at x.deployment.place q.kind.type q.title ≡ k
      = same_Some (key_at x.deployment.place q.kind.type q.title) l.0
      (sym (key_at_start x planned w (start_so x planned w sat.is_world) i.0 i.1.0 q.kind q.title q.is_put)
      ∙ l.1.0) ∙ l.1.1 in
      let same : a.stored ≡ j = stored_same a.stored j (sym a.is_stored ∙ n.stores) in
      subst (λ (z : ResourceId). w (state z) ≡ Some j) here (q.has_state ∙ ap Some same)
