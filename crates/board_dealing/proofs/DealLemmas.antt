-- What a board answers where it is asked for a job.
use Rattle.std.proofs.Common.{◌≡◌, ◌≢◌, ℕ, Bool, true, false, true≢false, List}
use Rattle.std.proofs.Common.{Option, Some, None, refl, sym, ap, subst, ◌∙◌}
use Rattle.std.specs.Prelude.{slice_get, option_and_then, is_some, option_map, Result, Ok, Err, IfOk, OnErr, is_ok}
use Rattle.std.specs.Prelude.{if◌then◌else◌}
use Rattle.std.specs.declared.alloc.AllocError.{AllocError}
use Rattle.std.proofs.lemmas.Option.{same_Some}
use Rattle.arm_value.specs.Json.{Json, null, bool, int, text, array, object}
use Rattle.arm_value.specs.View.{json}
use Rattle.arm_value.specs.declared.value.Value.{Value}
use Rattle.arm_ids.specs.Held.{HeldResource}
use Rattle.arm_ids.specs.declared.id.Place.{Place}
use Rattle.provider_trait.specs.Act.{FitsAct}
use Rattle.provider_trait.specs.Work.{Work}
use Rattle.provider_trait.specs.declared.act.Act.{Act}
use Rattle.provider_trait.specs.declared.act.Act.TheVariants.{Put, Delete}
use Rattle.provider_trait.specs.declared.answer.Answer.{Answer}
use Rattle.dealer_trait.specs.declared.next.Next.{Next}
use Rattle.dealer_trait.specs.declared.next.Next.TheVariants.{Begun, Wait, End}
use Rattle.deploy_cells.specs.Cells.{Position}
use Rattle.deploy_cells.specs.Puts.{Kind}
use Rattle.plan_cells.specs.Known.{Table}
use Rattle.plan_cells.specs.Tasks as task
use Rattle.plan_cells.specs.Tasks.{Task}
use Rattle.deploy_histories.specs.Planned.{Planned}
use Rattle.deploy_histories.specs.Events as event
use Rattle.deploy_histories.specs.Events.{Event, Progress, progress, after_all, begin, IsBegun, NoneBegun}
use Rattle.deploy_histories.specs.Legal.{IsAct, SuitsTask, MayStart, MayEnd, HasEnded, IsLegalFrom}
use Rattle.deploy_histories.specs.Outcome.{Target, target, target_of, put_target, delete_target}
use Rattle.deploy_histories.specs.Values.{body_of}
use Rattle.deploy_histories.proofs.ReadinessLemmas.{ready_says}
use Rattle.board_history.specs.Past.{Past, with_event}
use Rattle.board_history.specs.Stages.{refuses}
use Rattle.task_standings.specs.Seen.{IsSeen}
use Rattle.task_standings.specs.Standings.{FitsTask, IsScopeSeen}
use Rattle.task_agenda.specs.declared.agenda.Agenda.{Agenda}
use Rattle.task_agenda.specs.Agendas.{is_scope, HasGraph, is_listed}
use Rattle.depend_graph.specs.Shape.{with_done}
use Rattle.board_dealing.specs.Boards.{HasPassed, HasSettled, job_of, IsJobOf, IsBegunAs, NoneMayBegin, IsNext}
use Rattle.board_dealing.specs.Boards.{IsStarted, IsPause}
use Rattle.board_dealing.specs.Kept.{IsKept}
use Rattle.board_dealing.specs.Looks.{IsReady, IsReadyAct, NoScopeListed, NoActListed}
use Rattle.board_dealing.specs.Passes.{GoesOn}
use Rattle.board_dealing.proofs.Happening.{answered, begun_concerns, begun_same, back_concerns, back_same}
use Rattle.board_dealing.proofs.Happening.{refused_concerns, refused_same, begun_within}
use Rattle.board_dealing.proofs.Pausing.{refused_has_ended, refused_settled}
use Rattle.board_dealing.proofs.Pausing.{refused_none_may_begin}
use Rattle.board_dealing.proofs.PassLemmas.{is_act, ready_waits, seen_after, scopes_after}
use Rattle.board_dealing.proofs.PassLemmas.{grows_still}
use Rattle.board_dealing.proofs.Passages.{none_passed}
use Rattle.board_dealing.proofs.Stepping.{same_agenda, done_agenda}

pub put_act : (place : Place) (k : Option Kind) (n : Option Json) (g : Target) → put_target place k n ≡ Some g → g.act
    ≡ Put
put_act place (Some k) (Some (text n)) g e = sym (ap (λ (t : Target). t.act) (same_Some _ g e))
put_act place (Some k) (Some null) g e = let f : None ≡ Some g = e in absurd (cc)
put_act place (Some k) (Some (bool b)) g e = let f : None ≡ Some g = e in absurd (cc)
put_act place (Some k) (Some (int i)) g e = let f : None ≡ Some g = e in absurd (cc)
put_act place (Some k) (Some (array r)) g e = let f : None ≡ Some g = e in absurd (cc)
put_act place (Some k) (Some (object ps)) g e = let f : None ≡ Some g = e in absurd (cc)
put_act place (Some k) None g e = let f : None ≡ Some g = e in absurd (cc)
put_act place None n g e = let f : None ≡ Some g = e in absurd (cc)

pub delete_act : (r : Option HeldResource) (g : Target) → delete_target r ≡ Some g → g.act ≡ Delete
delete_act (Some r) g e = sym (ap (λ (t : Target). t.act) (same_Some _ g e))
delete_act None g e = let f : None ≡ Some g = e in absurd (cc)

fits_one : (x : Planned) (t : Table) (one : Task) (body : Json) (g : Target) → IsAct one → FitsTask one body
    → body_of x t one ≡ body → target x one ≡ Some g → FitsAct g.act body
fits_one x t (task.put p s) body g a f b e =
    subst (λ (c : Act). FitsAct c body) (sym (put_act x.deployment.place _ _ g e)) f
fits_one x t (task.delete k) body g a f b e =
    subst (λ (c : Act). FitsAct c body) (sym (delete_act _ g e)) (subst (λ (j : Json). FitsAct Delete j) b tt)
fits_one x t (task.enter q) body g a f b e = absurd a
fits_one x t (task.leave q) body g a f b e = absurd a

-- the body that a task is ready with fits the act of its target
pub fits_target : (x : Planned) (p : Progress) (u : ℕ) (body : Json) (r : IsReady x p u body) → IsAct r.of
    → (g : Target) → target_of x u ≡ Some g → FitsAct g.act body
fits_target x p u body r a g e =
    fits_one x r.may_start.known r.of body g a r.fits
    (ready_says x r.may_start.known p u r.of body r.may_start.is_ready).has_body
    (sym (ap (option_and_then (target x)) r.may_start.is_task) ∙ e)

-- a task that is listed among puts and deletions is one
pub act_of_kept : (x : Planned) (t : Table) (tasks : ℕ) (h : List Event) (a : Agenda) (seen u : ℕ)
    → IsKept x t tasks h a seen → is_scope a u ≡ false → (one : Task) → slice_get x.tasks u ≡ Some one → IsAct one
act_of_kept x t tasks h a seen u k s one i = is_act one (sym (k.kinds_are u one i) ∙ s)

pub suits_act : (one : Task) (r : Answer) → SuitsTask one r → IsAct one
suits_act (task.put p s) r f = tt
suits_act (task.delete k) r f = tt
suits_act (task.enter p) r f = absurd f
suits_act (task.leave p) r f = absurd f

not_enter : (one : Task) (q : Position) → IsAct one → one ≡ task.enter q → ⊥
not_enter (task.put p s) q a e = let f : task.put p s ≡ task.enter q = e in cc
not_enter (task.delete k) q a e = let f : task.delete k ≡ task.enter q = e in cc
not_enter (task.enter p) q a e = a
not_enter (task.leave p) q a e = a

not_leave : (one : Task) (q : Position) → IsAct one → one ≡ task.leave q → ⊥
not_leave (task.put p s) q a e = let f : task.put p s ≡ task.leave q = e in cc
not_leave (task.delete k) q a e = let f : task.delete k ≡ task.leave q = e in cc
not_leave (task.enter p) q a e = a
not_leave (task.leave p) q a e = a

-- a put or a deletion enters and leaves nothing
act_scope : (x : Planned) (t : Table) (u : ℕ) (one : Task) → slice_get x.tasks u ≡ Some one → IsAct one
    → IsScopeSeen x t u
act_scope x t u one i a = record {
  entered = λ q e c h. absurd (not_enter one q a (same_Some one (task.enter q) (sym i ∙ e)));
  left = λ q n r e f h. absurd (not_leave one q a (same_Some one (task.leave q) (sym i ∙ e)));
}

module _ (x : Planned) (t : Table)
    (stays : (y : Planned) (p : Progress) (s : Table) (es : List Event) → IsSeen y p s → IsLegalFrom y p es
    → IsSeen y (after_all es p) s) (old : Past) (a : Agenda) where
  pub kept_begun : (u worker : ℕ) (body : Json) → IsReady x (progress old.events) u body → is_scope a u ≡ false
      → GoesOn x t t old (with_event old (begin u worker body)) a a
  kept_begun u worker body r s seen k =
      same_agenda x t old.count old.events a seen k (begin u worker body) may
      (seen_after x old.events t stays k.is_seen (begin u worker body) may) u
      (begun_concerns old.events u worker body)
      (begun_same old.events u worker body (ready_waits x (progress old.events) u body r))
    where
      may : (one : Task) × (IsAct one × MayStart x (progress old.events) u one body)
      may = (r.of, (act_of_kept x t old.count old.events a seen u k s r.of r.may_start.is_task, r.may_start))

  pub kept_back : (u : ℕ) → IsBegun (progress old.events) u → GoesOn x t t old (with_event old (event.back u)) a a
  kept_back u b seen k =
      same_agenda x t old.count old.events a seen k (event.back u) b
      (seen_after x old.events t stays k.is_seen (event.back u) b) u (back_concerns old.events u)
      (back_same old.events u b)

  pub kept_refused : (u : ℕ) (r : Answer) → refuses r ≡ true → MayEnd x (progress old.events) u r
      → GoesOn x t t old (with_event old (event.answer u r)) a a
  kept_refused u r e m seen k =
      same_agenda x t old.count old.events a seen k (event.answer u r) m
      (seen_after x old.events t stays k.is_seen (event.answer u r) m) u (refused_concerns old.events u r e)
      (refused_same old.events u r e m.is_begun)

  pub kept_finished : (u : ℕ) (r : Answer) → refuses r ≡ false → MayEnd x (progress old.events) u r → (b : Agenda)
      → HasGraph a b (with_done a.graph u) → GoesOn x t t old (with_event old (event.answer u r)) a b
  kept_finished u r e m b g seen k =
      done_agenda x t old.count old.events a seen k (event.answer u r) m t
      (seen_after x old.events t stays k.is_seen (event.answer u r) m)
      (scopes_after x old.events (event.answer u r) u t t k.scopes (grows_still t)
      (act_scope x t u m.ended m.is_task (suits_act m.ended r m.suits)) (answered old.events u r e)) u
      (begun_within x old.events k.is_legal u m.is_begun) (answered old.events u r e) b g

-- ---- what is answered

pub started_next : (x : Planned) (old between : List Event) (u worker : ℕ) (body : Json) (n : Next) (new : List Event)
    → HasSettled x old between → IsStarted x between u worker body n new → IsNext x old worker n new
started_next x old between u worker body (Begun job) new p s =
    subst (λ (j : Work). IsBegunAs x old worker j new) (sym s.0.1.1)
    (record {
      between = between;
      has_settled = p;
      begun = s.1;
      aim = s.0.0;
      has_aim = s.0.1.0;
      is_job = refl;
    })
started_next x old between u worker body Wait new p s = absurd s
started_next x old between u worker body End new p s = absurd s

pub paused_next : (x : Planned) (old : List Event) (worker : ℕ) (n : Next) (new : List Event) → HasSettled x old new
    → IsPause (progress new) n → NoneMayBegin x (progress new) → (NoneBegun (progress new) → HasEnded x (progress new))
    → IsNext x old worker n new
paused_next x old worker (Begun job) new p i m e = absurd i
paused_next x old worker Wait new p i m e = (p, (i, m))
paused_next x old worker End new p i m e = (p, e i)

-- none is listed, where none of either kind is
pub none_listed : (a : Agenda) → NoScopeListed a → NoActListed a → (u : ℕ) → is_listed a u ≡ false
none_listed a s c u = by (is_scope a u) refl
  where
    by : (b : Bool) → is_scope a u ≡ b → is_listed a u ≡ false
    by true e = s u e
    by false e = c u e

-- ---- the same for the code

pub deal_started : (x y : Planned) (old between new : List Event) (u worker : ℕ) (body : Json)
    (r : Result Next AllocError) → y ≡ x → HasSettled x old between
    → IfOk r (λ n. IsStarted y between u worker body n new) → IfOk r (λ n. IsNext x old worker n new)
deal_started x y old between new u worker body (Ok n) e p s =
    started_next x old between u worker body n new p
    (subst (λ (z : Planned). IsStarted z between u worker body n new) e s)
deal_started x y old between new u worker body (Err f) e p s = tt

pub deal_failed : (x : Planned) (old between new : List Event) (r : Result Next AllocError) → HasPassed x old between
    → OnErr r (new ≡ between) → OnErr r (HasPassed x old new)
deal_failed x old between new (Ok n) p e = tt
deal_failed x old between new (Err f) p e = subst (λ (h : List Event). HasPassed x old h) (sym e) p

pub dealt_next : (x y : Planned) (old h new : List Event) (worker : ℕ) (r : Result Next AllocError) → y ≡ x
    → ((before : List Event) → HasSettled y before h → IfOk r (λ n. IsNext y before worker n new))
    → HasSettled x old h → IfOk r (λ n. IsNext x old worker n new)
dealt_next x y old h new worker r e f s =
    subst (λ (z : Planned). IfOk r (λ n. IsNext z old worker n new)) e
    (f old (subst (λ (z : Planned). HasSettled z old h) (sym e) s))

pub refused_next : (x : Planned) (h : List Event) (worker : ℕ) (n : Next) → (progress h).refusal ≢ None
    → IsPause (progress h) n → IsNext x h worker n h
refused_next x h worker n r i =
    paused_next x h worker n h
    (record { has_passed = none_passed x h; is_settled = refused_settled x (progress h) r }) i (refused_none_may_begin
    x (progress h) r)
    (λ idle. refused_has_ended x (progress h) idle r)

pub refusal_there : {A B : Type 0} (f : A → B) (o : Option A) (r : Option B) → option_map f o ≡ r
    → is_some o ≡ true → r ≢ None
refusal_there f (Some a) r e s n = let g : Some (f a) ≡ None = e ∙ n in cc
refusal_there f None r e s n = true≢false (sym s)

pub refusal_none : {A B : Type 0} (f : A → B) (o : Option A) (r : Option B) → option_map f o ≡ r
    → is_some o ≡ false → r ≡ None
refusal_none f (Some a) r e s = absurd (true≢false s)
refusal_none f None r e s = sym e

module _ (x : Planned) (t : Table) (old new : Past) (u worker : ℕ) (body : Json) (r : Result Work AllocError)
    (h : new ≡ (if is_ok r then with_event old (begin u worker body) else old)) where
  done_so : (s : Result Work AllocError) → r ≡ s
      → new ≡ (if is_ok s then with_event old (begin u worker body) else old)
  done_so s e =
      subst (λ (q : Result Work AllocError).
      new ≡ (if is_ok q then with_event old (begin u worker body) else old)) e h

  pub start_failed : (e : AllocError) → r ≡ Err e → new.events ≡ old.events
  start_failed e i = ap (λ (p : Past). p.events) (done_so (Err e) i)

  pub started_is : (j : Work) → r ≡ Ok j → IfOk r (IsJobOf x u worker body)
      → IsStarted x old.events u worker body (Begun j) new.events
  started_is j i k = (
    subst (λ (q : Result Work AllocError). IfOk q (IsJobOf x u worker body)) i k,
    ap (λ (p : Past). p.events) (done_so (Ok j) i),
  )

pub started_goes : (x : Planned) (t : Table)
    → ((y : Planned) (p : Progress) (s : Table) (es : List Event) → IsSeen y p s → IsLegalFrom y p es
    → IsSeen y (after_all es p) s) → (old new : Past) (a : Agenda) (u worker : ℕ) (body : Json)
    (r : Result Work AllocError) → new ≡ (if is_ok r then with_event old (begin u worker body) else old)
    → IsReady x (progress old.events) u body → is_scope a u ≡ false → GoesOn x t t old new a a
started_goes x t stays old new a u worker body (Ok j) h r s seen k =
    subst (λ (p : Past). IsKept x t p.count p.events a seen) (sym h)
    (kept_begun x t stays old a u worker body r s seen k)
started_goes x t stays old new a u worker body (Err e) h r s seen k =
    subst (λ (p : Past). IsKept x t p.count p.events a seen) (sym h) k

pub goes_as : (x : Planned) (s t : Table) (old new also : Past) (a b : Agenda) → new ≡ also
    → GoesOn x s t old also a b → GoesOn x s t old new a b
goes_as x s t old new also a b e f seen k =
    subst (λ (p : Past). IsKept x t p.count p.events b seen) (sym e) (f seen k)

-- the task that was found may be put or deleted
pub act_found : (x y : Planned) (p : Progress) (a b : Agenda) (o : Option (ℕ × Value)) (u : ℕ) (body : Value) → y ≡ x
    → o ≡ Some (u, body) → IsReadyAct y p a b o → (is_scope b u ≡ false) × IsReady x p u (json body)
act_found x y p a b o u body e i r =
    let m = subst (λ (q : Option (ℕ × Value)). IsReadyAct y p a b q) i r in
    (m.0, subst (λ (z : Planned). IsReady z p u (json body)) e m.1)

pub no_act_left : (y : Planned) (p : Progress) (a b : Agenda) (o : Option (ℕ × Value)) → o ≡ None
    → IsReadyAct y p a b o → NoActListed b × (NoScopeListed a → NoScopeListed b)
no_act_left y p a b o i r = subst (λ (q : Option (ℕ × Value)). IsReadyAct y p a b q) i r

pub job_for : (x : Planned) (u worker : ℕ) (body : Json) (g : Target) (r : Result Work AllocError)
    → target_of x u ≡ Some g → IfOk r (λ j. j ≡ job_of g u worker body) → IfOk r (IsJobOf x u worker body)
job_for x u worker body g (Ok j) e h = (g, (e, h))
job_for x u worker body g (Err f) e h = tt
