-- What one event changes: what is done stays done, and what is known stays known.
use Rattle.std.proofs.Common.{◌≡◌, ◌⊎◌, inl, inr, ℕ, Bool, true, false, true≢false, List, [], ◌∷◌, Option, Some, None}
use Rattle.std.proofs.Common.{refl, sym, ap, ◌∙◌, arith}
use Rattle.std.specs.Prelude.{nat_eq, option_and_then, if◌then◌else◌}
use Rattle.foundation.proofs.Comparisons.{eq_itself, eq_of_true}
use Rattle.arm_value.specs.Json.{Json, null}
use Rattle.provider_trait.specs.declared.answer.Answer.{Answer}
use Rattle.provider_trait.specs.declared.answer.Answer.TheVariants.{Stored, Gone, Refused}
use Rattle.deploy_histories.specs.Start.{IsLater}
use Rattle.deploy_histories.specs.Tasks.{Task}
use Rattle.deploy_histories.specs.Planned.{Planned, putter, leaver}
use Rattle.deploy_histories.specs.Events.{Event, enter, begin, answer, back, leave, crash, Status, is_waiting, is_begun, is_done, Progress, changed, after_answer, closed, after, after_all, done_status, state_in}
use Rattle.deploy_histories.specs.Points.{point, is_done_at}
use Rattle.deploy_histories.specs.Legal.{May, MayStart, IsLegalFrom}
use Rattle.deploy_histories.proofs.ReadinessLemmas.{ready_says}
use Rattle.history_laws.specs.Past.{StaysDone}

-- the status of one task after a change of another's, or of its own
abbrev pub IsChanged : ℕ → Status → (ℕ → Status) → ℕ → Type 0
IsChanged u s f v = ((v ≡ u) × (changed u s f v ≡ s)) ⊎ (((v ≡ u) → ⊥) × (changed u s f v ≡ f v))

changed_by : (u : ℕ) (s : Status) (f : ℕ → Status) (v : ℕ) (b : Bool) → nat_eq v u ≡ b → IsChanged u s f v
changed_by u s f v true e = inl (eq_of_true v u e, ap (λ (b : Bool). if b then s else f v) e)
changed_by u s f v false e =
    inr (
      (λ h. true≢false (sym (ap (λ (n : ℕ). nat_eq n u) h ∙ eq_itself u) ∙ e)),
      ap (λ (b : Bool). if b then s else f v) e,
    )

pub at_changed : (u : ℕ) (s : Status) (f : ℕ → Status) (v : ℕ) → IsChanged u s f v
at_changed u s f v = changed_by u s f v (nat_eq v u) refl

pub at_itself : (u : ℕ) (s : Status) (f : ℕ → Status) → changed u s f u ≡ s
at_itself u s f = ap (λ (b : Bool). if b then s else f u) (eq_itself u)

pub at_other : (u : ℕ) (s : Status) (f : ℕ → Status) (v : ℕ) → (v ≡ u → ⊥) → changed u s f v ≡ f v
at_other u s f v n = elim (at_changed u s f v) [ inl h ↦ absurd (n h.0) | inr h ↦ h.1 ]

-- a task that is not done is changed
pub change_stays : (u : ℕ) (s : Status) (f : ℕ → Status) → ((o : Option Json) → f u ≡ is_done o → ⊥)
    → StaysDone f (changed u s f)
change_stays u s f n v o e = elim (at_changed u s f v) [
  | inl h ↦ absurd (n o (ap f (sym h.0) ∙ e))
  | inr h ↦ h.1 ∙ e
]

pub start_waits : (x : Planned) (p : Progress) (u : ℕ) (t : Task) (body : Json) → MayStart x p u t body
    → p.status u ≡ is_waiting
start_waits x p u t body m = (ready_says x m.known p u t body m.is_ready).is_free.waits_still

pub waiting_not : (f : ℕ → Status) (u : ℕ) → f u ≡ is_waiting → (o : Option Json) → f u ≡ is_done o → ⊥
waiting_not f u e o h = let g : is_waiting ≡ is_done o = sym e ∙ h in cc

pub begun_not : (f : ℕ → Status) (u w : ℕ) (b : Json) → f u ≡ is_begun w b → (o : Option Json) → f u ≡ is_done o → ⊥
begun_not f u w b e o h = let g : is_begun w b ≡ is_done o = sym e ∙ h in cc

pub closed_done : (s : Status) (o : Option Json) → s ≡ is_done o → closed s ≡ is_done o
closed_done s o e = ap closed e

answer_stays : (u : ℕ) (a : Answer) (p : Progress) → ((o : Option Json) → p.status u ≡ is_done o → ⊥)
    → StaysDone p.status (after_answer u a p).status
answer_stays u (Stored j) p n = change_stays u (is_done (Some j)) p.status n
answer_stays u Gone p n = change_stays u (is_done None) p.status n
answer_stays u (Refused code) p n = change_stays u is_waiting p.status n

pub done_stays : (x : Planned) (p : Progress) (e : Event) → May x p e → StaysDone p.status (after e p).status
done_stays x p (enter u) m =
    change_stays u (is_done None) p.status (waiting_not p.status u (start_waits x p u _ null m.1))
done_stays x p (begin u w b) m =
    change_stays u (is_begun w b) p.status (waiting_not p.status u (start_waits x p u m.0 b m.1.1))
done_stays x p (answer u a) m =
    let h = m.is_begun in answer_stays u a p (begun_not p.status u h.0 h.1.0 h.1.1)
done_stays x p (back u) m = change_stays u is_waiting p.status (begun_not p.status u m.0 m.1.0 m.1.1)
done_stays x p (leave u) m =
    change_stays u (is_done None) p.status (waiting_not p.status u (start_waits x p u _ null m.1))
done_stays x p crash m = λ v o e. closed_done (p.status v) o e

pub all_stay_done : (x : Planned) (p : Progress) (es : List Event) → IsLegalFrom x p es
    → StaysDone p.status (after_all es p).status
all_stay_done x p [] l = λ v o e. e
all_stay_done x p (e ∷ es) l =
    λ v o h. all_stay_done x (after e p) es l.1 v o (done_stays x p e l.0 v o h)

-- ---- points

state_of_done : (s : Status) (j : Json) → state_in s ≡ Some j → s ≡ is_done (Some j)
state_of_done (is_done (Some i)) j e = ap is_done e
state_of_done (is_done None) j e = let f : None ≡ Some j = e in absurd (cc)
state_of_done is_waiting j e = let f : None ≡ Some j = e in absurd (cc)
state_of_done (is_begun w b) j e = let f : None ≡ Some j = e in absurd (cc)

pub done_of : (s : Status) → done_status s ≡ true → (o : Option Json) × (s ≡ is_done o)
done_of (is_done o) e = (o, refl)
done_of is_waiting e = absurd (true≢false (sym e))
done_of (is_begun w b) e = absurd (true≢false (sym e))

module _ (f g : ℕ → Status) (more : StaysDone f g) where
  pub still_done : (u : ℕ) → done_status (f u) ≡ true → done_status (g u) ≡ true
  still_done u e = let h = done_of (f u) e in ap done_status (more u h.0 h.1)

  stored_still : (o : Option ℕ) (j : Json) → option_and_then (λ u. state_in (f u)) o ≡ Some j
      → option_and_then (λ u. state_in (g u)) o ≡ Some j
  stored_still None j e = e
  stored_still (Some u) j e = ap state_in (more u (Some j) (state_of_done (f u) j e))

  left_still : (o : Option ℕ) → is_done_at f o ≡ true → is_done_at g o ≡ true
  left_still None e = e
  left_still (Some u) e = still_done u e

  pub points_later : (x : Planned) → IsLater (point x f) (point x g)
  points_later x = record {
    stored = λ k j e. stored_still (putter x k) j e;
    left = λ p e. left_still (leaver x p) e;
  }
