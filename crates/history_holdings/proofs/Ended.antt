-- The answers of a legal history suit their tasks, and what was deleted has its answer.
use Rattle.std.proofs.Common.{◌≡◌, ◌⊎◌, inl, inr, ℕ, List, [], ◌∷◌, Option, Some, None, refl, sym, ap, subst, ◌∙◌}
use Rattle.std.specs.Prelude.{slice_get}
use Rattle.arm_value.specs.Json.{Json}
use Rattle.arm_ids.specs.declared.id.ResourceId.{ResourceId}
use Rattle.provider_trait.specs.declared.answer.Answer.{Answer}
use Rattle.provider_trait.specs.declared.answer.Answer.TheVariants.{Stored, Gone, Refused}
use Rattle.deploy_cells.specs.Cells.{Position}
use Rattle.plan_cells.specs.Children.{Has}
use Rattle.plan_cells.specs.Tasks as task
use Rattle.plan_cells.specs.Tasks.{Task}
use Rattle.deploy_histories.specs.Planned.{Planned}
use Rattle.deploy_histories.specs.Events.{Event, enter, begin, answer, back, leave, crash, Status, is_waiting}
use Rattle.deploy_histories.specs.Events.{is_begun}
use Rattle.deploy_histories.specs.Events.{is_done, Progress, changed, closed, after, after_all, at_opening, progress}
use Rattle.deploy_histories.specs.Legal.{SuitsTask, May, MayEnd, IsLegalFrom, IsLegal}
use Rattle.deploy_histories.specs.Answers.{Noted, noted, answers_from, answers_of}
use Rattle.history_laws.proofs.Steps.{at_changed}

noted_task : (u : ℕ) (a : Answer) (s : Status) → (noted u a s).task ≡ u
noted_task u a is_waiting = refl
noted_task u a (is_begun w b) = refl
noted_task u a (is_done o) = refl

noted_answer : (u : ℕ) (a : Answer) (s : Status) → (noted u a s).answer ≡ a
noted_answer u a is_waiting = refl
noted_answer u a (is_begun w b) = refl
noted_answer u a (is_done o) = refl

-- an answer suits its task
pub record IsSuited (x : Planned) (n : Noted) : Type 0 where
  pub of : Task
  pub is_task : slice_get x.tasks n.task ≡ Some of
  pub suits : SuitsTask of n.answer

-- an answer that says that the task's resource is gone
pub record IsGoneIn (answers : List Noted) (u : ℕ) : Type 0 where
  pub by : Noted
  pub listed : Has by answers
  pub of : by.task ≡ u
  pub is_gone : by.answer ≡ Gone

module _ (x : Planned) where
  suited_head : (p : Progress) (u : ℕ) (a : Answer) → MayEnd x p u a → IsSuited x (noted u a (p.status u))
  suited_head p u a m = record {
    of = m.ended;
    is_task = ap (slice_get x.tasks) (noted_task u a (p.status u)) ∙ m.is_task;
    suits = subst (λ (b : Answer). SuitsTask m.ended b) (sym (noted_answer u a (p.status u))) m.suits;
  }

  suited_all : (es : List Event) (p : Progress) → IsLegalFrom x p es → (n : Noted) → Has n (answers_from p es)
      → IsSuited x n
  suited_all [] p l n h = absurd h
  suited_all (answer u a ∷ es) p l n h = elim h [
    | inl i ↦ subst (λ (m : Noted). IsSuited x m) i (suited_head p u a l.0)
    | inr i ↦ suited_all es (after (answer u a) p) l.1 n i
  ]
  suited_all (enter u ∷ es) p l n h = suited_all es (after (enter u) p) l.1 n h
  suited_all (leave u ∷ es) p l n h = suited_all es (after (leave u) p) l.1 n h
  suited_all (begin u w b ∷ es) p l n h = suited_all es (after (begin u w b) p) l.1 n h
  suited_all (back u ∷ es) p l n h = suited_all es (after (back u) p) l.1 n h
  suited_all (crash ∷ es) p l n h = suited_all es (after crash p) l.1 n h

  pub suited : (h : List Event) → IsLegal x h → (n : Noted) → Has n (answers_of h) → IsSuited x n
  suited h l n i = suited_all h at_opening l n i

  -- ---- what was deleted

  waits_not : (o : Option Json) → is_waiting ≡ is_done o → ⊥
  waits_not o e = cc

  begun_not : (w : ℕ) (b : Json) (o : Option Json) → is_begun w b ≡ is_done o → ⊥
  begun_not w b o e = cc

  closed_done : (s : Status) (o : Option Json) → closed s ≡ is_done o → s ≡ is_done o
  closed_done is_waiting o e = e
  closed_done (is_begun w b) o e = absurd (waits_not o e)
  closed_done (is_done q) o e = e

  -- it was done before, or this event is its answer
  abbrev IsNew : Event → ℕ → Type 0
  IsNew (answer v a) u = (v ≡ u) × (a ≡ Gone)
  IsNew e u = ⊥

  module _ (u : ℕ) (k : ResourceId) (is : slice_get x.tasks u ≡ Some (task.delete k)) where
    same_task : (t : Task) → Some (task.delete k) ≡ Some t → t ≡ task.delete k
    same_task t e = cc

    -- the task of the number is the deletion
    the_task : (v : ℕ) (t : Task) → slice_get x.tasks v ≡ Some t → u ≡ v → t ≡ task.delete k
    the_task v t e s = same_task t (sym is ∙ (ap (slice_get x.tasks) s ∙ e))

    enter_not : (q : Position) → task.enter q ≡ task.delete k → ⊥
    enter_not q e = cc

    leave_not : (q : Position) → task.leave q ≡ task.delete k → ⊥
    leave_not q e = cc

    stored_not : (t : Task) (j : Json) → SuitsTask t (Stored j) → t ≡ task.delete k → ⊥
    stored_not t j suits e = subst (λ (z : Task). SuitsTask z (Stored j)) e suits

    -- a change of another task
    by_change : (v : ℕ) (s : Status) (f : ℕ → Status) (o : Option Json) → changed v s f u ≡ is_done o
        → (f u ≡ is_done o) ⊎ ((u ≡ v) × (s ≡ is_done o))
    by_change v s f o d = elim (at_changed v s f u) [
      | inl h ↦ inr (h.0, sym h.1 ∙ d)
      | inr h ↦ inl (sym h.1 ∙ d)
    ]

    by_answer : (v : ℕ) (a : Answer) (p : Progress) → MayEnd x p v a → (o : Option Json)
        → (after (answer v a) p).status u ≡ is_done o → (p.status u ≡ is_done o) ⊎ ((u ≡ v) × (a ≡ Gone))
    by_answer v (Stored j) p m o d = elim (by_change v (is_done (Some j)) p.status o d) [
      | inl g ↦ inl g
      | inr g ↦ absurd (stored_not m.ended j m.suits (the_task v m.ended m.is_task g.0))
    ]
    by_answer v Gone p m o d = elim (by_change v (is_done None) p.status o d) [
      | inl g ↦ inl g
      | inr g ↦ inr (g.0, refl)
    ]
    by_answer v (Refused code) p m o d = elim (by_change v is_waiting p.status o d) [
      | inl g ↦ inl g
      | inr g ↦ absurd (waits_not o g.1)
    ]

    new_or_old : (p : Progress) (e : Event) → May x p e → (o : Option Json) → (after e p).status u ≡ is_done o
        → (p.status u ≡ is_done o) ⊎ IsNew e u
    new_or_old p (enter v) m o d = elim (by_change v (is_done None) p.status o d) [
      | inl g ↦ inl g
      | inr g ↦ absurd (enter_not m.0 (the_task v (task.enter m.0) m.1.is_task g.0))
    ]
    new_or_old p (leave v) m o d = elim (by_change v (is_done None) p.status o d) [
      | inl g ↦ inl g
      | inr g ↦ absurd (leave_not m.0 (the_task v (task.leave m.0) m.1.is_task g.0))
    ]
    new_or_old p (begin v w b) m o d = elim (by_change v (is_begun w b) p.status o d) [
      | inl g ↦ inl g
      | inr g ↦ absurd (begun_not w b o g.1)
    ]
    new_or_old p (back v) m o d = elim (by_change v is_waiting p.status o d) [
      | inl g ↦ inl g
      | inr g ↦ absurd (waits_not o g.1)
    ]
    new_or_old p crash m o d = inl (closed_done (p.status u) o d)
    new_or_old p (answer v a) m o d = elim (by_answer v a p m o d) [
      | inl g ↦ inl g
      | inr g ↦ inr (sym g.0, g.1)
    ]

    first_new : (p : Progress) (e : Event) (es : List Event) → IsNew e u → IsGoneIn (answers_from p (e ∷ es)) u
    first_new p (answer v a) es h = record {
      by = noted v a (p.status v);
      listed = inl refl;
      of = noted_task v a (p.status v) ∙ h.0;
      is_gone = noted_answer v a (p.status v) ∙ h.1;
    }
    first_new p (enter v) es h = absurd h
    first_new p (begin v w b) es h = absurd h
    first_new p (back v) es h = absurd h
    first_new p (leave v) es h = absurd h
    first_new p crash es h = absurd h

    later_new : (p : Progress) (e : Event) (es : List Event) → IsGoneIn (answers_from (after e p) es) u
        → IsGoneIn (answers_from p (e ∷ es)) u
    later_new p (answer v a) es h = record { by = h.by; listed = inr h.listed; of = h.of; is_gone = h.is_gone }
    later_new p (enter v) es h = h
    later_new p (begin v w b) es h = h
    later_new p (back v) es h = h
    later_new p (leave v) es h = h
    later_new p crash es h = h

    gone_answer : (p : Progress) (es : List Event) → IsLegalFrom x p es → (o : Option Json)
        → (after_all es p).status u ≡ is_done o → (p.status u ≡ is_done o) ⊎ IsGoneIn (answers_from p es) u
    gone_answer p [] l o e = inl e
    gone_answer p (f ∷ es) l o e = elim (gone_answer (after f p) es l.1 o e) [
      | inl h ↦ (elim (new_or_old p f l.0 o h) [ inl g ↦ inl g | inr g ↦ inr (first_new p f es g) ])
      | inr h ↦ inr (later_new p f es h)
    ]

    -- a deletion that is done has an answer that says so
    pub gone_in : (h : List Event) → IsLegal x h → (o : Option Json) → (progress h).status u ≡ is_done o
        → IsGoneIn (answers_of h) u
    gone_in h l o e = elim (gone_answer at_opening h l o e) [ inl g ↦ absurd (waits_not o g) | inr g ↦ g ]
