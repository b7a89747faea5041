-- What a board keeps where scopes are entered and left.
use Rattle.std.proofs.Common.{◌≡◌, ◌⊎◌, inl, inr, ℕ, zero, suc, ◌<◌, ◌≤◌, ◌+◌, Bool, true, false, true≢false}
use Rattle.std.proofs.Common.{List, [], ◌∷◌, ◌++◌, length, Option, Some, None, refl, sym, ap, subst, ◌∙◌, arith}
use Rattle.std.specs.Prelude.{slice_get, option_map, if◌then◌else◌, Result, Ok, Err, OnOk}
use Rattle.std.specs.Prelude.{is_ok}
use Rattle.std.specs.Prelude.{OnErr}
use Rattle.std.specs.declared.alloc.AllocError.{AllocError}
use Rattle.std.proofs.lemmas.Option.{slice_get_within, same_Some}
use Rattle.arm_value.specs.Json.{Json, null}
use Rattle.reading.specs.Knowledge.{Known, known, absent, missing, Stays, Grows}
use Rattle.std.proofs.lemmas.Bool.{cases_eq}
use Rattle.deploy_cells.specs.Cells.{Position}
use Rattle.plan_cells.specs.Known.{Table}
use Rattle.plan_cells.specs.Tasks as task
use Rattle.plan_cells.specs.Tasks.{Task}
use Rattle.deploy_histories.specs.Planned.{Planned}
use Rattle.deploy_histories.specs.Events as event
use Rattle.deploy_histories.specs.Events.{Event, Progress, Status, progress, after, after_all, is_waiting}
use Rattle.deploy_histories.specs.Events.{done_status, IsDone}
use Rattle.deploy_histories.specs.Answers.{IsScopeEvent}
use Rattle.deploy_histories.specs.Legal.{MayStart, May, IsAct, IsLegalFrom}
use Rattle.deploy_histories.proofs.ReadinessLemmas.{ready_says}
use Rattle.board_history.specs.Past.{Past, with_event}
use Rattle.task_standings.specs.Seen.{IsSeen}
use Rattle.task_standings.specs.declared.standing.Kind.{Kind}
use Rattle.task_standings.specs.declared.standing.Kind.TheVariants.{Enter, Put, Delete, Leave}
use Rattle.task_standings.specs.Standings.{kind_of, IsScopeSeen, AreScopesSeen}
use Rattle.task_standings.proofs.Lasting.{scopes_stay}
use Rattle.task_agenda.specs.declared.agenda.Agenda.{Agenda}
use Rattle.task_agenda.specs.Agendas.{count, is_scope}
use Rattle.board_dealing.specs.Boards.{HasPassedOne}
use Rattle.board_dealing.specs.Kept.{enters_or_leaves, Does, IsKept}
use Rattle.board_dealing.specs.Looks.{IsReady, IsPrepared, IsReadyFirst, IsReadyScope, NoScopeListed}
use Rattle.board_dealing.specs.Looks.{StaysKept}
use Rattle.board_dealing.specs.Passes.{IsNotedAs, GoesOn, IsSettledOnce, undone_in, Fewer}
use Rattle.board_dealing.proofs.Covering.{progress_more}
use Rattle.board_dealing.proofs.Agendas.{later_than}
use Rattle.board_dealing.proofs.Stepping.{done_agenda}
use Rattle.board_dealing.proofs.Happening.{entered, left}

-- the kind that is told is that of the task
pub kind_is : (x : Planned) (u : ℕ) (one : Task) (k : Kind) → slice_get x.tasks u ≡ Some one
    → option_map kind_of (slice_get x.tasks u) ≡ Some k → kind_of one ≡ k
kind_is x u one k i e = same_Some (kind_of one) k (sym (ap (option_map kind_of) i) ∙ e)

pub enter_of : (one : Task) → kind_of one ≡ Enter → (q : Position) × (one ≡ task.enter q)
enter_of (task.enter q) e = (q, refl)
enter_of (task.leave q) e = let f : Leave ≡ Enter = e in absurd (cc)
enter_of (task.put p s) e = let f : Put ≡ Enter = e in absurd (cc)
enter_of (task.delete k) e = let f : Delete ≡ Enter = e in absurd (cc)

pub leave_of : (one : Task) → kind_of one ≡ Leave → (q : Position) × (one ≡ task.leave q)
leave_of (task.leave q) e = (q, refl)
leave_of (task.enter q) e = let f : Enter ≡ Leave = e in absurd (cc)
leave_of (task.put p s) e = let f : Put ≡ Leave = e in absurd (cc)
leave_of (task.delete k) e = let f : Delete ≡ Leave = e in absurd (cc)

-- a task of scopes is neither put nor deleted
pub not_put : (one : Task) → enters_or_leaves one ≡ true → kind_of one ≡ Put → ⊥
not_put (task.put p s) e k = true≢false (sym e)
not_put (task.enter q) e k = let f : Enter ≡ Put = k in absurd (cc)
not_put (task.leave q) e k = let f : Leave ≡ Put = k in absurd (cc)
not_put (task.delete d) e k = true≢false (sym e)

pub not_delete : (one : Task) → enters_or_leaves one ≡ true → kind_of one ≡ Delete → ⊥
not_delete (task.delete d) e k = true≢false (sym e)
not_delete (task.enter q) e k = let f : Enter ≡ Delete = k in absurd (cc)
not_delete (task.leave q) e k = let f : Leave ≡ Delete = k in absurd (cc)
not_delete (task.put p s) e k = true≢false (sym e)

pub is_act : (one : Task) → enters_or_leaves one ≡ false → IsAct one
is_act (task.put p s) e = tt
is_act (task.delete k) e = tt
is_act (task.enter p) e = absurd (true≢false e)
is_act (task.leave p) e = absurd (true≢false e)

module _ (x : Planned) (p : Progress) (u : ℕ) (r : IsReady x p u null) where
  pub may_enter : kind_of r.of ≡ Enter → May x p (event.enter u)
  may_enter e =
      let f = enter_of r.of e in
      (f.0, subst (λ (one : Task). MayStart x p u one null) f.1 r.may_start)

  pub may_leave : kind_of r.of ≡ Leave → May x p (event.leave u)
  may_leave e =
      let f = leave_of r.of e in
      (f.0, subst (λ (one : Task). MayStart x p u one null) f.1 r.may_start)

  pub noted_for : (t : Table) (noted : ℕ → Type 0) → IsPrepared x t noted u → kind_of r.of ≡ Leave → noted u
  noted_for t noted n e = let f = leave_of r.of e in n.is_noted f.0 (r.may_start.is_task ∙ ap Some f.1)

  pub entered_for : (t : Table) (noted : ℕ → Type 0) → IsPrepared x t noted u → kind_of r.of ≡ Enter
      → IsScopeSeen x t u
  entered_for t noted n e = let f = enter_of r.of e in n.entered f.0 (r.may_start.is_task ∙ ap Some f.1)

pub ready_waits : (x : Planned) (p : Progress) (u : ℕ) (body : Json) → IsReady x p u body → p.status u ≡ is_waiting
ready_waits x p u body r =
    (ready_says x r.may_start.known p u r.of body r.may_start.is_ready).is_free.waits_still

pub ready_within : (x : Planned) (p : Progress) (u : ℕ) (body : Json) → IsReady x p u body → u < length x.tasks
ready_within x p u body r = slice_get_within x.tasks u r.of r.may_start.is_task

-- what is seen is seen after one event more
pub seen_after : (x : Planned) (h : List Event) (t : Table)
    → ((y : Planned) (p : Progress) (s : Table) (es : List Event) → IsSeen y p s → IsLegalFrom y p es
    → IsSeen y (after_all es p) s) → IsSeen x (progress h) t → (e : Event) → May x (progress h) e
    → IsSeen x (progress (h ++ e ∷ [])) t
seen_after x h t stays i e m =
    subst (λ (p : Progress). IsSeen x p t) (sym (progress_more h e)) (stays x (progress h) t (e ∷ []) i (m, tt))

-- what scopes have is known, once one more task is done
pub scopes_after : (x : Planned) (h : List Event) (e : Event) (u : ℕ) (s t : Table) → AreScopesSeen x (progress h) s
    → Grows s t → IsScopeSeen x t u → Does h e u → AreScopesSeen x (progress (h ++ e ∷ [])) t
scopes_after x h e u s t all g new d v i = by (cases_eq v u)
  where
    by : (v ≡ u) ⊎ (v ≡ u → ⊥) → IsScopeSeen x t v
    by (inl j) = subst (λ (n : ℕ). IsScopeSeen x t n) (sym j) new
    by (inr n) = scopes_stay x s t g v (all v (ap done_status (sym (d.others v n)) ∙ i))

-- ---- how many tasks are not done

module _ (f g : ℕ → Status) (u : ℕ) (others : (v : ℕ) → (v ≡ u → ⊥) → g v ≡ f v) where
  same_below : (n : ℕ) → n ≤ u → undone_in n g ≡ undone_in n f
  unfolding undone_in
  same_below zero l = refl
  same_below (suc n) l =
      let i = same_below n (omega (arith, l)) in
      let s : ◌≡◌ {A = ℕ} (if done_status (g n) then 0 else 1) (if done_status (f n) then 0 else 1)
      = ap {A = Bool} {B = ℕ} (λ b. if b then 0 else 1)
      (ap done_status (others n (λ e. omega (arith, l, e)))) in
      omega (arith, i, s)

  fewer_in : (n : ℕ) → u < n → done_status (f u) ≡ false → done_status (g u) ≡ true → undone_in n g < undone_in n f
  unfolding undone_in
  fewer_in zero l a b = absurd (omega (arith, l))
  fewer_in (suc n) l a b = by (λ i. fewer_in n i a b) (cases_eq n u)
    where
      by : (u < n → undone_in n g < undone_in n f) → (n ≡ u) ⊎ (n ≡ u → ⊥)
          → (if done_status (g n) then 0 else 1) + undone_in n g < (if done_status (f n) then 0 else 1) + undone_in n f
      by rest (inl e) =
          let i = same_below n (omega (arith, e)) in
          let s : ◌≡◌ {A = ℕ} (if done_status (g n) then 0 else 1) 0
          = ap {A = Bool} {B = ℕ} (λ c. if c then 0 else 1) (ap (λ (m : ℕ). done_status (g m)) e ∙ b) in
          let t : ◌≡◌ {A = ℕ} (if done_status (f n) then 0 else 1) 1
          = ap {A = Bool} {B = ℕ} (λ c. if c then 0 else 1) (ap (λ (m : ℕ). done_status (f m)) e ∙ a) in
          omega (arith, i, s, t)
      by rest (inr e) =
          let i = rest (let m = later_than u n (omega (arith, l)) e in omega (arith, m)) in
          let s : ◌≡◌ {A = ℕ} (if done_status (g n) then 0 else 1) (if done_status (f n) then 0 else 1)
          = ap {A = Bool} {B = ℕ} (λ c. if c then 0 else 1) (ap done_status (others n e)) in
          omega (arith, i, s)

-- ---- the same for the code

-- the event is noted, and what was kept is kept
pub pass_on : (x : Planned) (s t : Table) (old new : Past) (a b : Agenda) (u : ℕ) (e : Event)
    (r : Result (Unit {0}) AllocError) → IsNotedAs old new a b u e r → May x (progress old.events) e
    → Does old.events e u → u < length x.tasks → OnOk r (IsSeen x (progress new.events) t) → OnOk r (Grows s t)
    → OnOk r (IsScopeSeen x t u) → OnErr r (t ≡ s) → GoesOn x s t old new a b
pass_on x s t old new a b u e (Ok done) n m d l i g c f seen k =
    subst (λ (p : Past). IsKept x t p.count p.events b seen) (sym n.0)
    (done_agenda x s old.count old.events a seen k e m t now
    (scopes_after x old.events e u s t k.scopes g c d) u l d b n.1)
  where
    now : IsSeen x (progress (old.events ++ e ∷ [])) t
    now = subst (λ (p : Past). IsSeen x (progress p.events) t) n.0 i
pass_on x s t old new a b u e (Err refused) n m d l i g c f seen k =
    subst (λ (p : Past). IsKept x t p.count p.events b seen) (sym n.0)
    (subst (λ (z : Agenda). IsKept x t old.count old.events z seen) (sym n.1)
    (subst (λ (z : Table). IsKept x z old.count old.events a seen) (sym f) k))

pub pass_one : (x : Planned) (old new : Past) (a b : Agenda) (u : ℕ) (e : Event) (r : Result (Unit {0}) AllocError)
    → IsNotedAs old new a b u e r → IsScopeEvent u e → May x (progress old.events) e
    → HasPassedOne x u old.events new.events r
pass_one x old new a b u e (Ok done) n o m = (e, ((o, m), ap (λ (p : Past). p.events) n.0))
pass_one x old new a b u e (Err refused) n o m = ap (λ (p : Past). p.events) n.0

pub pass_fewer : (x : Planned) (old new : Past) (a b : Agenda) (u : ℕ) (e : Event)
    (r : Result (Unit {0}) AllocError) → IsNotedAs old new a b u e r → Does old.events e u
    → (progress old.events).status u ≡ is_waiting → u < length x.tasks → OnOk r (Fewer x old.events new.events)
pass_fewer x old new a b u e (Ok done) n d w l =
    subst (λ (p : Past). Fewer x old.events p.events) (sym n.0)
    (fewer_in (progress old.events).status (progress (old.events ++ e ∷ [])).status u d.others (length x.tasks) l
    (ap done_status w) d.itself)
pass_fewer x old new a b u e (Err refused) n d w l = tt

-- after one scope more
pub refusal_still : (old new : Past) (a b : Agenda) (u : ℕ) (e : Event) (r : Result (Unit {0}) AllocError)
    → IsNotedAs old new a b u e r → IsScopeEvent u e → (progress new.events).refusal ≡ (progress old.events).refusal
refusal_still old new a b u e (Ok done) n o =
    ap (λ (p : Past). (progress p.events).refusal) n.0
    ∙ ap (λ (p : Progress). p.refusal) (progress_more old.events e) ∙ scope_refusal e o (progress old.events)
  where
    scope_refusal : (f : Event) → IsScopeEvent u f → (p : Progress) → (after f p).refusal ≡ p.refusal
    scope_refusal (event.enter v) i p = refl
    scope_refusal (event.leave v) i p = refl
    scope_refusal (event.begin v w c) i p = absurd i
    scope_refusal (event.answer v c) i p = absurd i
    scope_refusal (event.back v) i p = absurd i
    scope_refusal event.crash i p = absurd i
refusal_still old new a b u e (Err refused) n o = ap (λ (p : Past). (progress p.events).refusal) n.0

pub ok_of : {P : Type 0} (r : Result (Unit {0}) AllocError) → P → OnOk r P
ok_of (Ok done) p = p
ok_of (Err refused) p = tt

pub err_of : {P : Type 0} (r : Result (Unit {0}) AllocError) → P → OnErr r P
err_of (Ok done) p = tt
err_of (Err refused) p = p

pub seen_noted : (x : Planned) (t : Table) (old new : Past) (a b : Agenda) (u : ℕ) (e : Event)
    (r : Result (Unit {0}) AllocError) → IsNotedAs old new a b u e r
    → IsSeen x (progress (old.events ++ e ∷ [])) t → OnOk r (IsSeen x (progress new.events) t)
seen_noted x t old new a b u e (Ok done) n i = subst (λ (p : Past). IsSeen x (progress p.events) t) (sym n.0) i
seen_noted x t old new a b u e (Err refused) n i = tt

-- a scope is entered
pub pass_in : (x : Planned) (s : Table) (old new : Past) (a b : Agenda) (u : ℕ) (r : Result (Unit {0}) AllocError)
    → IsNotedAs old new a b u (event.enter u) r → May x (progress old.events) (event.enter u) → u < length x.tasks
    → IsSeen x (progress (old.events ++ event.enter u ∷ [])) s → Grows s s → IsScopeSeen x s u
    → GoesOn x s s old new a b
pass_in x s old new a b u r n m l i g c =
    pass_on x s s old new a b u (event.enter u) r n m (entered old.events u) l
    (seen_noted x s old new a b u (event.enter u) r n i) (ok_of r g) (ok_of r c) (err_of r refl)

pub in_history : (x : Planned) (t : Table) (tasks : ℕ) (h : List Event) (a : Agenda)
    → (seen : ℕ) × IsKept x t tasks h a seen → (u : ℕ) → u < length x.tasks → u < tasks
in_history x t tasks h a k u l = let s = k.1.tasks_are in omega (arith, s, l)

pub in_agenda_of : (x : Planned) (t : Table) (tasks : ℕ) (h : List Event) (a : Agenda)
    → (seen : ℕ) × IsKept x t tasks h a seen → (u : ℕ) → u < length x.tasks → u < count a
in_agenda_of x t tasks h a k u l = let s = k.1.agenda_of in omega (arith, s, l)

-- the task of a kept agenda that enters or leaves a scope
pub scope_of_kept : (x : Planned) (t : Table) (tasks : ℕ) (h : List Event) (a : Agenda)
    → (seen : ℕ) × IsKept x t tasks h a seen → (u : ℕ) → is_scope a u ≡ true → (one : Task)
    → slice_get x.tasks u ≡ Some one → enters_or_leaves one ≡ true
scope_of_kept x t tasks h a k u s one i = sym (k.1.kinds_are u one i) ∙ s

stays_still : (k : Known Json) → Stays k k
stays_still (known j) = refl
stays_still absent = refl
stays_still missing = tt

pub grows_still : (t : Table) → Grows t t
grows_still t c = stays_still (t c)

-- ---- over what a call has left

-- what a board keeps, of the same plan by another name
pub kept_of : (x y : Planned) (t : Table) (tasks : ℕ) (h : List Event) (a : Agenda) (seen : ℕ) → y ≡ x
    → IsKept x t tasks h a seen → IsKept y t tasks h a seen
kept_of x y t tasks h a seen e k = subst (λ (z : Planned). IsKept z t tasks h a seen) (sym e) k

pub stays_of : (x y : Planned) (s t : Table) (tasks : ℕ) (h : List Event) (a b : Agenda) (seen : ℕ) → y ≡ x
    → StaysKept y s t tasks h a b → IsKept x s tasks h a seen → IsKept x t tasks h b seen
stays_of x y s t tasks h a b seen e f k =
    subst (λ (z : Planned). IsKept z t tasks h b seen) e (f seen (kept_of x y s tasks h a seen e k))

pub goes_of : (x y : Planned) (s t : Table) (old new : Past) (a b : Agenda) (seen : ℕ) → y ≡ x
    → GoesOn y s t old new a b → IsKept x s old.count old.events a seen → IsKept x t new.count new.events b seen
goes_of x y s t old new a b seen e f k =
    subst (λ (z : Planned). IsKept z t new.count new.events b seen) e
    (f seen (kept_of x y s old.count old.events a seen e k))

-- the scope that is first, of the same plan by another name
pub first_of_scopes : (x y : Planned) (p : Progress) (t : Table) (noted : ℕ → Type 0) (a : Agenda) (u : ℕ)
    (o : Option ℕ) → y ≡ x → o ≡ Some u → IsReadyScope y p t noted a o → IsReadyFirst x p t noted a u
first_of_scopes x y p t noted a u o e i r =
    subst (λ (z : Planned). IsReadyFirst z p t noted a u) e
    (subst (λ (q : Option ℕ). IsReadyScope y p t noted a q) i r)

pub no_scope_left : (x : Planned) (p : Progress) (t : Table) (noted : ℕ → Type 0) (a : Agenda) (o : Option ℕ)
    → o ≡ None → IsReadyScope x p t noted a o → NoScopeListed a
no_scope_left x p t noted a o i r = subst (λ (q : Option ℕ). IsReadyScope x p t noted a q) i r

-- the task that was left is done
pub leave_done : (old new : Past) (u : ℕ) (r : Result (Unit {0}) AllocError) (o : Unit {0}) → r ≡ Ok o
    → new ≡ (if is_ok r then with_event old (event.leave u) else old) → IsDone (progress new.events) u
leave_done old new u r o e h =
    subst (λ (p : Past). IsDone (progress p.events) u)
    (sym (subst (λ (q : Result (Unit {0}) AllocError).
    new ≡ (if is_ok q then with_event old (event.leave u) else old)) e h)) (left old.events u).itself

pub settled_true : (x : Planned) (old new : List Event) (a : Agenda) (was seen : ℕ) (b : Bool) → b ≡ true
    → IsSettledOnce x old new a was seen b → Fewer x old new × (seen ≡ length new)
settled_true x old new a was seen b e s = subst (λ (c : Bool). IsSettledOnce x old new a was seen c) e s
