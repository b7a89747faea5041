-- Which Begins are open, and that a put of an open Begin may be answered.
use Rattle.std.proofs.Common.{◌≡◌, ℕ, Bool, true, false, true≢false, List, [], ◌∷◌, ◌++◌, map, Option}
use Rattle.std.proofs.Common.{Some, None, refl, sym, ap, subst, ◌∙◌, arith}
use Rattle.std.specs.Prelude.{slice_get, option_map, not, nat_eq, ◌&&◌, ◌||◌, if◌then◌else◌}
use Rattle.std.proofs.lemmas.Bool.Decides.{nat_tests}
use Rattle.std.proofs.lemmas.List.{map-append}
use Rattle.std.proofs.lemmas.Option.{slice_get-map, same_Some}
use Rattle.foundation.proofs.TruthValues.{and_false_is, and_true_is, or_false, or_true}
use Rattle.arm_value.specs.Json.{Json}
use Rattle.provider_trait.specs.declared.answer.Answer.{Answer}
use Rattle.provider_trait.specs.declared.answer.Answer.TheVariants.{Stored, Gone, Refused}
use Rattle.provider_trait.specs.Work.{Work}
use Rattle.provider_trait.specs.declared.event.Event as noted
use Rattle.plan_cells.specs.Tasks.{Task, enter, leave}
use Rattle.deploy_histories.specs.Events as event
use Rattle.deploy_histories.specs.Events.{Event, Progress, progress, after, after_all, at_opening, Status, is_waiting}
use Rattle.deploy_histories.specs.Events.{is_begun, is_done, changed, closed, IsBegun}
use Rattle.deploy_histories.specs.Legal.{IsAct, IsLegalFrom, IsLegal, MayEnd, SuitsTask}
use Rattle.deploy_histories.specs.Planned.{Planned}
use Rattle.board_history.specs.Past.{event_of}
use Rattle.history_laws.proofs.Steps.{at_itself}
use Rattle.board_dealing.specs.Boards.{IsBegunAs}
use Rattle.board_dealing.proofs.Covering.{progress_more}
use Rattle.given_plans.specs.Given.{planned_of, task_of}
use Rattle.given_plans.specs.declared.plan.GivenPlan.{GivenPlan}
use Rattle.given_plans.specs.declared.plan.GivenTask.{GivenTask}
use Rattle.given_plans.specs.declared.plan.GivenTask.TheVariants as given
use Rattle.given_plans.specs.Open.{is_open_status, is_open_now}

-- ---- one event more

pub shut : (was : Bool) (p : Progress) (u v : ℕ) (s : Status) → is_open_status s ≡ false → was ≡ is_open_now p v
    → (was && not (nat_eq v u)) ≡ is_open_status (changed u s p.status v)
shut was p u v s e i = by (nat_eq v u)
  where
    by : (b : Bool) → (was && not b) ≡ is_open_status (if b then s else p.status v)
    by true = and_false_is was ∙ sym e
    by false = and_true_is was ∙ i

pub opens : (was : Bool) (p : Progress) (u v worker : ℕ) (body : Json) → was ≡ is_open_now p v
    → (was || nat_eq v u) ≡ is_open_status (changed u (is_begun worker body) p.status v)
opens was p u v worker body i = by (nat_eq v u)
  where
    by : (b : Bool) → (was || b) ≡ is_open_status (if b then is_begun worker body else p.status v)
    by true = or_true was
    by false = or_false was ∙ i

pub answered : (was : Bool) (p : Progress) (u v : ℕ) (a : Answer) → was ≡ is_open_now p v
    → (was && not (nat_eq v u)) ≡ is_open_now (after (event.answer u a) p) v
answered was p u v (Stored j) i = shut was p u v (is_done (Some j)) refl i
answered was p u v Gone i = shut was p u v (is_done None) refl i
answered was p u v (Refused code) i = shut was p u v is_waiting refl i

pub all_shut : (p : Progress) (v : ℕ) → false ≡ is_open_now (after event.crash p) v
all_shut p v = by (p.status v)
  where
    by : (s : Status) → false ≡ is_open_status (closed s)
    by is_waiting = refl
    by (is_begun w b) = refl
    by (is_done o) = refl

pub one_more : (es : List noted.Event) (e : noted.Event)
    → progress (map event_of (es ++ e ∷ [])) ≡ after (event_of e) (progress (map event_of es))
one_more es e =
    ap (λ (h : List Event). progress h) (map-append event_of es (e ∷ [])) ∙ progress_more (map event_of es) (event_of e)

-- ---- an open Begin is of a put or of a deletion
pub record HasAct (x : Planned) (u : ℕ) : Type 0 where
  pub of : Task
  pub is_task : slice_get x.tasks u ≡ Some of
  pub is_act : IsAct of

abbrev AllAct : Planned → Progress → Type 0
AllAct x p = (v : ℕ) → is_open_now p v ≡ true → HasAct x v

module _ (x : Planned) where
  stays_act : (p : Progress) (u : ℕ) (s : Status) → is_open_status s ≡ false → AllAct x p → (v : ℕ)
      → is_open_status (changed u s p.status v) ≡ true → HasAct x v
  stays_act p u s e a v = by (nat_eq v u)
    where
      by : (b : Bool) → is_open_status (if b then s else p.status v) ≡ true → HasAct x v
      by true i = absurd (true≢false (sym i ∙ e))
      by false i = a v i

  same_number : (b : Bool) (u v : ℕ) → nat_eq v u ≡ b → b ≡ true → v ≡ u
  same_number b u v e f = let g : nat_eq v u ≡ true = e ∙ f in grind (arith, nat_tests)

  begun_act : (p : Progress) (u worker : ℕ) (body : Json) → HasAct x u → AllAct x p → (v : ℕ)
      → is_open_status (changed u (is_begun worker body) p.status v) ≡ true → HasAct x v
  begun_act p u worker body h a v = by (nat_eq v u) refl
    where
      by : (b : Bool) → nat_eq v u ≡ b → is_open_status (if b then is_begun worker body else p.status v) ≡ true
          → HasAct x v
      by true e i = subst (λ (k : ℕ). HasAct x k) (sym (same_number true u v e refl)) h
      by false e i = a v i

  closed_act : (p : Progress) → AllAct x p → (v : ℕ) → is_open_status (closed (p.status v)) ≡ true → HasAct x v
  closed_act p a v = by (p.status v)
    where
      by : (s : Status) → is_open_status (closed s) ≡ true → HasAct x v
      by is_waiting i = absurd (true≢false (sym i))
      by (is_begun w b) i = absurd (true≢false (sym i))
      by (is_done o) i = absurd (true≢false (sym i))

  answered_act : (p : Progress) (u : ℕ) (a : Answer) → AllAct x p → AllAct x (after (event.answer u a) p)
  answered_act p u (Stored j) a v = stays_act p u (is_done (Some j)) refl a v
  answered_act p u Gone a v = stays_act p u (is_done None) refl a v
  answered_act p u (Refused code) a v = stays_act p u is_waiting refl a v

  all_act : (es : List Event) (p : Progress) → IsLegalFrom x p es → AllAct x p → AllAct x (after_all es p)
  all_act [] p l a = a
  all_act (event.enter u ∷ es) p l a =
      all_act es (after (event.enter u) p) l.1 (λ v. stays_act p u (is_done None) refl a v)
  all_act (event.begin u w b ∷ es) p l a =
      all_act es (after (event.begin u w b) p) l.1
      (λ v. begun_act p u w b (record { of = l.0.0; is_task = l.0.1.1.is_task; is_act = l.0.1.0 }) a v)
  all_act (event.answer u r ∷ es) p l a = all_act es (after (event.answer u r) p) l.1 (answered_act p u r a)
  all_act (event.back u ∷ es) p l a =
      all_act es (after (event.back u) p) l.1 (λ v. stays_act p u is_waiting refl a v)
  all_act (event.leave u ∷ es) p l a =
      all_act es (after (event.leave u) p) l.1 (λ v. stays_act p u (is_done None) refl a v)
  all_act (event.crash ∷ es) p l a = all_act es (after event.crash p) l.1 (λ v. closed_act p a v)

  pub open_acts : (h : List Event) → IsLegal x h → (u : ℕ) → is_open_now (progress h) u ≡ true → HasAct x u
  open_acts h l u o = all_act h at_opening l (λ v i. absurd (true≢false (sym i))) u o

  pub is_begun_now : (p : Progress) (u : ℕ) → is_open_now p u ≡ true → IsBegun p u
  is_begun_now p u o = by (p.status u) refl o
    where
      by : (s : Status) → p.status u ≡ s → is_open_status s ≡ true → IsBegun p u
      by is_waiting e i = absurd (true≢false (sym i))
      by (is_begun w b) e i = (w, (b, e))
      by (is_done o) e i = absurd (true≢false (sym i))

-- ---- the acts of a plan that is given as tables are puts

-- an answer to a put
abbrev pub IsOfPut : Answer → Type 0
IsOfPut (Stored j) = Unit {0}
IsOfPut Gone = ⊥
IsOfPut (Refused code) = Unit {0}

module _ (g : GivenPlan) (u : ℕ) (t : Task) (i : slice_get (planned_of g).tasks u ≡ Some t) (a : IsAct t) where
  suits_by : (o : Option GivenTask) → slice_get (planned_of g).tasks u ≡ option_map task_of o → (r : Answer)
      → IsOfPut r → SuitsTask t r
  suits_by None e r f = let n : None ≡ Some t = sym e ∙ i in absurd (cc)
  suits_by (Some (given.Put k)) e (Stored j) f =
      subst (λ (z : Task). SuitsTask z (Stored j)) (same_Some _ t (sym e ∙ i)) tt
  suits_by (Some (given.Put k)) e (Refused code) f =
      subst (λ (z : Task). SuitsTask z (Refused code)) (same_Some _ t (sym e ∙ i)) tt
  suits_by (Some (given.Put k)) e Gone f = absurd f
  suits_by (Some (given.Enter n)) e r f = absurd (subst IsAct (sym (same_Some _ t (sym e ∙ i))) a)
  suits_by (Some (given.Leave n)) e r f = absurd (subst IsAct (sym (same_Some _ t (sym e ∙ i))) a)

  pub suits_put : (r : Answer) → IsOfPut r → SuitsTask t r
  suits_put r f = suits_by (slice_get g.tasks.items u) (slice_get-map task_of g.tasks.items u) r f

-- so an open Begin may be answered as a put is
pub may_answer : (g : GivenPlan) (h : List Event) → IsLegal (planned_of g) h → (u : ℕ)
    → is_open_now (progress h) u ≡ true → (r : Answer) → IsOfPut r → MayEnd (planned_of g) (progress h) u r
may_answer g h l u o r f =
    let a = open_acts (planned_of g) h l u o in
    record {
      is_begun = is_begun_now (planned_of g) (progress h) u o;
      ended = a.of;
      is_task = a.is_task;
      suits = suits_put g u a.of a.is_task a.is_act r f;
    }

-- what a board has begun may be answered
pub just_begun : (g : GivenPlan) (old : List Event) (worker : ℕ) (job : Work) (new : List Event)
    → IsBegunAs (planned_of g) old worker job new → IsLegal (planned_of g) new → (r : Answer) → IsOfPut r
    → MayEnd (planned_of g) (progress new) job.task r
just_begun g old worker job new b l r f =
    may_answer g new l job.task
    (ap (λ (h : List Event). is_open_now (progress h) job.task) b.begun
    ∙ ap (λ (p : Progress). is_open_now p job.task)
    (progress_more b.between (event.begin job.task worker job.body))
    ∙ ap is_open_status (at_itself job.task (is_begun worker job.body) (progress b.between).status)) r f
