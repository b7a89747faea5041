-- The answers of a legal history follow: what has happened in the history has happened in the replay of its answers.
use Rattle.std.proofs.Common.{◌≡◌, ◌≢◌, inl, inr, ℕ, List, [], ◌∷◌, ◌++◌, map, Option, Some, None, refl, sym, ap}
use Rattle.std.proofs.Common.{subst}
use Rattle.std.proofs.Common.{◌∙◌}
use Rattle.std.specs.Prelude.{slice_get}
use Rattle.std.proofs.lemmas.Option.{same_Some}
use Rattle.arm_value.specs.Json.{Json, null}
use Rattle.provider_trait.specs.declared.answer.Answer.{Answer}
use Rattle.provider_trait.specs.declared.answer.Answer.TheVariants.{Stored, Gone, Refused}
use Rattle.plan_cells.specs.Tasks as task
use Rattle.plan_cells.specs.Tasks.{Task}
use Rattle.history_laws.specs.Planned.{Planned}
use Rattle.history_laws.specs.Events.{Event, enter, begin, answer, back, leave, crash, Status, is_waiting, is_begun, is_done, Refusal, Progress, changed, first_refusal, after_answer, closed, after, after_all, at_opening}
use Rattle.history_laws.specs.Legal.{IsAct, SuitsTask, May, MayStart, MayEnd, IsLegalFrom, IsLegal}
use Rattle.history_laws.specs.Answers.{Noted, noted, answers_from, answers_of, begin_of, answer_of, IsScopeEvent, IsSettled, Settles, PlaysThen, last_play, where_refused, IsReplay}
use Rattle.history_laws.proofs.ReadinessLemmas.{says_ready}
use Rattle.history_laws.specs.Past.{StaysDone, WasReady, IsLeft, IsKept}
use Rattle.history_laws.proofs.Steps.{IsChanged, at_changed, at_itself, at_other, start_waits, waiting_not, begun_not, still_done}
use Rattle.history_laws.proofs.Keeping.{ready_still, started_ready, kept_step, kept_opening}
use Rattle.history_replays.proofs.Later.{known_later}
use Rattle.history_replays.proofs.Recording.{left_by, answer_leaves, legal_joined}
use Rattle.history_laws.proofs.Alone.{anything, any_given}

-- what was ready and still waits may start
module _ (x : Planned) where
  pub starts : (q : Progress) (u : ℕ) (t : Task) (body : Json) → q.refusal ≡ None → slice_get x.tasks u ≡ Some t
      → WasReady x q.status u t body → q.status u ≡ is_waiting → MayStart x q u t body
  starts q u t body unrefused is r waits = record {
    unrefused = unrefused;
    is_task = is;
    known = r.known;
    is_known = known_later x r.earlier q r.known r.stays r.is_known;
    is_ready =
        says_ready x r.known q u t body (record {
          is_free = record {
            waits_still = waits;
            needs_done = λ v other i e.
                still_done r.earlier.status q.status r.stays v (r.is_ready.is_free.needs_done v other i e);
          };
          has_values = r.is_ready.has_values;
          has_body = r.is_ready.has_body;
        });
  }

-- ---- answers whose tasks can all be begun

-- the Begin of an answer may come
pub record CanBegin (x : Planned) (f : ℕ → Status) (n : Noted) : Type 0 where
  pub of : Task
  pub is_task : slice_get x.tasks n.task ≡ Some of
  pub is_act : IsAct of
  pub suits : SuitsTask of n.answer
  pub was_ready : WasReady x f n.task of n.body
  pub waits : f n.task ≡ is_waiting

abbrev pub ApartFrom : ℕ → List Noted → Type 0
ApartFrom u [] = Unit {0}
ApartFrom u (m ∷ ms) = ((m.task ≡ u) → ⊥) × ApartFrom u ms

abbrev pub AllBegin : Planned → (ℕ → Status) → List Noted → Type 0
AllBegin x f [] = Unit {0}
AllBegin x f (n ∷ ns) = CanBegin x f n × (ApartFrom n.task ns × AllBegin x f ns)

-- each is begun, and its answer suits it
pub record CanEnd (x : Planned) (f : ℕ → Status) (n : Noted) : Type 0 where
  pub of : Task
  pub is_task : slice_get x.tasks n.task ≡ Some of
  pub suits : SuitsTask of n.answer
  pub begun_now : f n.task ≡ is_begun n.worker n.body

abbrev pub AllEnd : Planned → (ℕ → Status) → List Noted → Type 0
AllEnd x f [] = Unit {0}
AllEnd x f (n ∷ ns) = CanEnd x f n × (ApartFrom n.task ns × AllEnd x f ns)

apart_other : (u v : ℕ) → (u ≡ v → ⊥) → v ≡ u → ⊥
apart_other u v n e = n (sym e)

module _ (x : Planned) where
  begin_may : (q : Progress) (n : Noted) → q.refusal ≡ None → CanBegin x q.status n → May x q (begin_of n)
  begin_may q n unrefused c =
      (c.of, (c.is_act, starts x q n.task c.of n.body unrefused c.is_task c.was_ready c.waits))

  begin_stays : (f : ℕ → Status) (n : Noted) → f n.task ≡ is_waiting
      → StaysDone f (changed n.task (is_begun n.worker n.body) f)
  begin_stays f n e v o h =
      at_other n.task (is_begun n.worker n.body) f v (λ i. waiting_not f n.task e o (ap f (sym i) ∙ h)) ∙ h

  still_can : (f : ℕ → Status) (n m : Noted) → f n.task ≡ is_waiting → ((m.task ≡ n.task) → ⊥) → CanBegin x f m
      → CanBegin x (changed n.task (is_begun n.worker n.body) f) m
  still_can f n m e apart c = record {
    of = c.of;
    is_task = c.is_task;
    is_act = c.is_act;
    suits = c.suits;
    was_ready =
        ready_still anything x f (changed n.task (is_begun n.worker n.body) f) (begin_stays f n e) m.task c.of m.body
        c.was_ready;
    waits = at_other n.task (is_begun n.worker n.body) f m.task apart ∙ c.waits;
  }

  all_still : (f : ℕ → Status) (n : Noted) (ms : List Noted) → f n.task ≡ is_waiting → ApartFrom n.task ms
      → AllBegin x f ms → AllBegin x (changed n.task (is_begun n.worker n.body) f) ms
  all_still f n [] e apart a = tt
  all_still f n (m ∷ ms) e apart a =
      (still_can f n m e apart.0 a.0, (a.1.0, all_still f n ms e apart.1 a.1.1))

  -- all are begun, one after another
  begins_legal : (ms : List Noted) (q : Progress) (rest : List Event) → q.refusal ≡ None → AllBegin x q.status ms
      → IsLegalFrom x (after_all (map begin_of ms) q) rest → IsLegalFrom x q (map begin_of ms ++ rest)
  begins_legal [] q rest unrefused a l = l
  begins_legal (n ∷ ms) q rest unrefused a l = (
    begin_may q n unrefused a.0,
    begins_legal ms (after (begin_of n) q) rest unrefused
        (all_still q.status n ms a.0.waits a.1.0 a.1.1) l,
  )

  -- a task that is not among them is as before
  not_begun_now : (ms : List Noted) (q : Progress) (u : ℕ) → ApartFrom u ms
      → (after_all (map begin_of ms) q).status u ≡ q.status u
  not_begun_now [] q u apart = refl
  not_begun_now (n ∷ ms) q u apart =
      not_begun_now ms (after (begin_of n) q) u apart.1
      ∙ at_other n.task (is_begun n.worker n.body) q.status u (λ e. apart.0 (sym e))

  all_end : (ms : List Noted) (q : Progress) → AllBegin x q.status ms
      → AllEnd x (after_all (map begin_of ms) q).status ms
  all_end [] q a = tt
  all_end (n ∷ ms) q a = (
    record {
      of = a.0.of;
      is_task = a.0.is_task;
      suits = a.0.suits;
      begun_now =
          not_begun_now ms (after (begin_of n) q) n.task a.1.0
          ∙ at_itself n.task (is_begun n.worker n.body) q.status;
    },
    (a.1.0, all_end ms (after (begin_of n) q) (all_still q.status n ms a.0.waits a.1.0 a.1.1)),
  )

  end_may : (q : Progress) (n : Noted) → CanEnd x q.status n → MayEnd x q n.task n.answer
  end_may q n c = record {
    is_begun = (n.worker, (n.body, c.begun_now));
    ended = c.of;
    is_task = c.is_task;
    suits = c.suits;
  }

  still_ends : (q : Progress) (u : ℕ) (a : Answer) (ms : List Noted) → ApartFrom u ms → AllEnd x q.status ms
      → AllEnd x (after_answer u a q).status ms
  still_ends q u a [] apart e = tt
  still_ends q u a (m ∷ ms) apart e = (
    record {
      of = e.0.of;
      is_task = e.0.is_task;
      suits = e.0.suits;
      begun_now =
          ap (λ (f : ℕ → Status). f m.task) (answer_leaves u a q)
          ∙ (at_other u (left_by a) q.status m.task apart.0 ∙ e.0.begun_now);
    },
    (e.1.0, still_ends q u a ms apart.1 e.1.1),
  )

  answers_legal : (ms : List Noted) (q : Progress) → AllEnd x q.status ms → IsLegalFrom x q (map answer_of ms)
  answers_legal [] q e = tt
  answers_legal (n ∷ ms) q e = (
    end_may q n e.0,
    answers_legal ms (after_answer n.task n.answer q) (still_ends q n.task n.answer ms e.1.0 e.1.1),
  )

  -- all are begun, and then all are answered
  pub last_legal : (ms : List Noted) (q : Progress) → q.refusal ≡ None → AllBegin x q.status ms
      → IsLegalFrom x q (map begin_of ms ++ map answer_of ms)
  last_legal ms q unrefused a =
      begins_legal ms q (map answer_of ms) unrefused a
      (answers_legal ms (after_all (map begin_of ms) q) (all_end ms q a))

-- ---- a replay is ahead of the history

pub record IsAhead (x : Planned) (p q : Progress) : Type 0 where
  pub more : StaysDone p.status q.status
  pub acts : (u : ℕ) (t : Task) → slice_get x.tasks u ≡ Some t → IsAct t → (o : Option Json) → q.status u ≡ is_done o
      → p.status u ≡ is_done o
  pub idle : (u w : ℕ) (b : Json) → q.status u ≡ is_begun w b → ⊥
  pub unrefused : q.refusal ≡ None

done_no_begin : (o : Option Json) (w : ℕ) (b : Json) → is_done o ≡ is_begun w b → ⊥
done_no_begin o w b e = cc

-- a Begin that is open in the history may come in the replay
pub record IsOpenNow (x : Planned) (f : ℕ → Status) (u : ℕ) (body : Json) : Type 0 where
  pub of : Task
  pub is_task : slice_get x.tasks u ≡ Some of
  pub is_act : IsAct of
  pub was_ready : WasReady x f u of body
  pub waits : f u ≡ is_waiting

module _ (x : Planned) where
  waiting_by : (p q : Progress) → IsAhead x p q → (u w : ℕ) (b : Json) (t : Task) → slice_get x.tasks u ≡ Some t
      → IsAct t → p.status u ≡ is_begun w b → (s : Status) → q.status u ≡ s → s ≡ is_waiting
  waiting_by p q a u w b t is act e is_waiting h = refl
  waiting_by p q a u w b t is act e (is_begun v c) h = absurd (a.idle u v c h)
  waiting_by p q a u w b t is act e (is_done o) h = absurd (begun_not p.status u w b e o (a.acts u t is act o h))

  open_now : (p q : Progress) → IsAhead x p q → IsKept anything x p.status → (u w : ℕ) (b : Json)
      → p.status u ≡ is_begun w b → IsOpenNow x q.status u b
  open_now p q a k u w b e =
      let i = k.begun u w b e in
      record {
        of = i.task;
        is_task = i.is_task;
        is_act = i.is_act;
        was_ready = ready_still anything x p.status q.status a.more u i.task b i.was_ready;
        waits = waiting_by p q a u w b i.task i.is_task i.is_act e (q.status u) refl;
      }

  noted_is : (u : ℕ) (a : Answer) (s : Status) (w : ℕ) (b : Json) → s ≡ is_begun w b
      → noted u a s ≡ record { task = u; worker = w; body = b; answer = a }
  noted_is u a s w b e = ap (noted u a) e

  can_begin : (f : ℕ → Status) (u w : ℕ) (b : Json) (a : Answer) (v : Progress) → IsOpenNow x f u b → MayEnd x v u a
      → CanBegin x f (record { task = u; worker = w; body = b; answer = a })
  can_begin f u w b a v i m = record {
    of = i.of;
    is_task = i.is_task;
    is_act = i.is_act;
    suits = subst (λ (t : Task). SuitsTask t a) (same_Some m.ended i.of (sym m.is_task ∙ i.is_task)) m.suits;
    was_ready = i.was_ready;
    waits = i.waits;
  }

  -- ---- after a refusal

  abbrev pub AllOpen : (ℕ → Status) → (ℕ → Status) → Type 0
  AllOpen f g = (u w : ℕ) (b : Json) → g u ≡ is_begun w b → IsOpenNow x f u b

  abbrev NotOpen : ℕ → (ℕ → Status) → Type 0
  NotOpen u g = (w : ℕ) (b : Json) → g u ≡ is_begun w b → ⊥

  left_ends : (a : Answer) (w : ℕ) (b : Json) → left_by a ≡ is_begun w b → ⊥
  unfolding left_by
  left_ends (Stored j) w b e = done_no_begin (Some j) w b e
  left_ends Gone w b e = done_no_begin None w b e
  left_ends (Refused code) w b e = let f : is_waiting ≡ is_begun w b = e in cc

  wait_ends : (w : ℕ) (b : Json) → is_waiting ≡ is_begun w b → ⊥
  wait_ends w b e = cc

  fewer_by : (u : ℕ) (s : Status) (g : ℕ → Status) → ((w : ℕ) (b : Json) → s ≡ is_begun w b → ⊥) → (v w : ℕ) (b : Json)
      → changed u s g v ≡ is_begun w b → ((v ≡ u) → ⊥) × (g v ≡ is_begun w b)
  fewer_by u s g n v w b e = elim (at_changed u s g v) [
    | inl h ↦ absurd (n w b (sym h.1 ∙ e))
    | inr h ↦ (h.0, sym h.1 ∙ e)
  ]

  fewer_answer : (v : Progress) (u : ℕ) (a : Answer) (n w : ℕ) (b : Json)
      → (after_answer u a v).status n ≡ is_begun w b → ((n ≡ u) → ⊥) × (v.status n ≡ is_begun w b)
  fewer_answer v u a n w b e =
      fewer_by u (left_by a) v.status (left_ends a) n w b (sym (ap (λ (f : ℕ → Status). f n) (answer_leaves u a v)) ∙ e)

  closed_ends : (s : Status) (w : ℕ) (b : Json) → closed s ≡ is_begun w b → ⊥
  closed_ends is_waiting w b e = wait_ends w b e
  closed_ends (is_begun v c) w b e = wait_ends w b e
  closed_ends (is_done o) w b e = done_no_begin o w b e

  first_there : (o : Option Refusal) (r : Refusal) → first_refusal o r ≢ None
  first_there None r e = cc
  first_there (Some s) r e = cc

  still_refused : (v : Progress) (u : ℕ) (a : Answer) → v.refusal ≢ None → (after_answer u a v).refusal ≢ None
  still_refused v u (Stored j) n = n
  still_refused v u Gone n = n
  still_refused v u (Refused code) n = first_there v.refusal (record { task = u; code = code })

  task_of_noted : (u : ℕ) (a : Answer) (s : Status) → (noted u a s).task ≡ u
  task_of_noted u a is_waiting = refl
  task_of_noted u a (is_begun w b) = refl
  task_of_noted u a (is_done o) = refl

  -- a task that is not open has no answer any more
  no_answer : (es : List Event) (v : Progress) (u : ℕ) → v.refusal ≢ None → NotOpen u v.status → IsLegalFrom x v es
      → ApartFrom u (answers_from v es)
  no_answer [] v u n o l = tt
  no_answer (answer t a ∷ es) v u n o l = (
    (λ e. let h = l.0.is_begun in
        o h.0 h.1.0 (ap v.status (sym (sym (task_of_noted t a (v.status t)) ∙ e)) ∙ h.1.1)),
    no_answer es (after_answer t a v) u (still_refused v t a n) (λ w b e. o w b (fewer_answer v t a u w b e).1) l.1,
  )
  no_answer (back t ∷ es) v u n o l =
      no_answer es (after (back t) v) u n (λ w b e. o w b (fewer_by t is_waiting v.status wait_ends u w b e).1) l.1
  no_answer (crash ∷ es) v u n o l =
      no_answer es (after crash v) u n (λ w b e. closed_ends (v.status u) w b e) l.1
  no_answer (enter t ∷ es) v u n o l = absurd (n l.0.1.unrefused)
  no_answer (leave t ∷ es) v u n o l = absurd (n l.0.1.unrefused)
  no_answer (begin t w b ∷ es) v u n o l = absurd (n l.0.1.1.unrefused)

  one_begin : (f : ℕ → Status) (v : Progress) (t : ℕ) (a : Answer) → AllOpen f v.status → MayEnd x v t a
      → CanBegin x f (noted t a (v.status t))
  one_begin f v t a o m =
      let h = m.is_begun in
      subst (λ (n : Noted). CanBegin x f n) (sym (noted_is t a (v.status t) h.0 h.1.0 h.1.1))
      (can_begin f t h.0 h.1.0 a v (o t h.0 h.1.0 h.1.1) m)

  pub all_begin : (es : List Event) (f : ℕ → Status) (v : Progress) → v.refusal ≢ None → AllOpen f v.status
      → IsLegalFrom x v es → AllBegin x f (answers_from v es)
  all_begin [] f v n o l = tt
  all_begin (answer t a ∷ es) f v n o l = (
    one_begin f v t a o l.0,
    (
      subst (λ (i : ℕ). ApartFrom i (answers_from (after_answer t a v) es)) (sym (task_of_noted t a (v.status t)))
          (no_answer es (after_answer t a v) t (still_refused v t a n)
          (λ w b e. (fewer_answer v t a t w b e).0 refl) l.1),
      all_begin es f (after_answer t a v) (still_refused v t a n)
          (λ u w b e. o u w b (fewer_answer v t a u w b e).1) l.1,
    ),
  )
  all_begin (back t ∷ es) f v n o l =
      all_begin es f (after (back t) v) n
      (λ u w b e. o u w b (fewer_by t is_waiting v.status wait_ends u w b e).1) l.1
  all_begin (crash ∷ es) f v n o l =
      all_begin es f (after crash v) n (λ u w b e. absurd (closed_ends (v.status u) w b e)) l.1
  all_begin (enter t ∷ es) f v n o l = absurd (n l.0.1.unrefused)
  all_begin (leave t ∷ es) f v n o l = absurd (n l.0.1.unrefused)
  all_begin (begin t w b ∷ es) f v n o l = absurd (n l.0.1.1.unrefused)

  -- ---- scopes

  -- what an event of a scope does
  record IsScopeStep (q : Progress) (e : Event) : Type 0 where
    number : ℕ
    of : Task
    start : MayStart x q number of null
    no_act : IsAct of → ⊥
    is : after e q ≡ record { status = changed number (is_done None) q.status; refusal = q.refusal }

  scope_step : (q : Progress) (e : Event) (n : ℕ) → IsScopeEvent n e → May x q e → IsScopeStep q e
  scope_step q (enter u) n s m =
      record { number = u; of = task.enter m.0; start = m.1; no_act = λ i. i; is = refl }
  scope_step q (leave u) n s m =
      record { number = u; of = task.leave m.0; start = m.1; no_act = λ i. i; is = refl }
  scope_step q (begin u w b) n s m = absurd s
  scope_step q (answer u a) n s m = absurd s
  scope_step q (back u) n s m = absurd s
  scope_step q crash n s m = absurd s

  -- the replay goes on by a scope
  ahead_scope : (p q : Progress) (e : Event) → IsAhead x p q → IsScopeStep q e → IsAhead x p (after e q)
  ahead_scope p q e a s =
      subst (λ (r : Progress). IsAhead x p r) (sym s.is)
      (record {
        more = λ v o h.
            at_other s.number (is_done None) q.status v (λ i.
            waiting_not q.status s.number (start_waits x q s.number s.of null s.start) o
            (ap q.status (sym i) ∙ a.more v o h)) ∙ a.more v o h;
        acts = λ u t is act o h. by_change u t is act o h (at_changed s.number (is_done None) q.status u);
        idle = λ u w b h. a.idle u w b (idle_by u w b h).1;
        unrefused = a.unrefused;
      })
    where
      idle_by : (u w : ℕ) (b : Json) → changed s.number (is_done None) q.status u ≡ is_begun w b
          → ((u ≡ s.number) → ⊥) × (q.status u ≡ is_begun w b)
      idle_by u w b h = fewer_by s.number (is_done None) q.status (λ v c. done_no_begin None v c) u w b h

      by_change : (u : ℕ) (t : Task) → slice_get x.tasks u ≡ Some t → IsAct t → (o : Option Json)
          → changed s.number (is_done None) q.status u ≡ is_done o → IsChanged s.number (is_done None) q.status u
          → p.status u ≡ is_done o
      by_change u t is act o h (inl i) =
          absurd (s.no_act (subst IsAct
          (same_Some t s.of (sym is ∙ (ap (slice_get x.tasks) i.0 ∙ s.start.is_task))) act))
      by_change u t is act o h (inr i) = a.acts u t is act o (sym i.1 ∙ h)

  -- the replay after scopes: still ahead, kept, and its events legal
  record IsOn (p q : Progress) (es : List Event) : Type 0 where
    ahead : IsAhead x p (after_all es q)
    kept : IsKept anything x (after_all es q).status
    legal : IsLegalFrom x q es
    settled : IsSettled x (after_all es q)

  ahead_settles : (es : List Event) (p q : Progress) → IsAhead x p q → IsKept anything x q.status → Settles x q es
      → IsOn p q es
  ahead_settles [] p q a k s = record { ahead = a; kept = k; legal = tt; settled = s }
  ahead_settles (e ∷ es) p q a k s =
      let i = scope_step q e s.0.number s.0.is_scope s.0.may in
      let r = ahead_settles es p (after e q) (ahead_scope p q e a i)
      (kept_step anything x q e s.0.may (any_given x q e) k) s.1 in
      record { ahead = r.ahead; kept = r.kept; legal = (s.0.may, r.legal); settled = r.settled }

  -- a scope that the history has entered or left is so in a replay that has settled
  scope_done : (p q : Progress) → IsAhead x p q → IsKept anything x q.status → IsSettled x q → (e : Event) (n : ℕ)
      → IsScopeEvent n e → (s : IsScopeStep p e) → (MayStart x q s.number s.of null → May x q e) → (r : Status)
      → q.status s.number ≡ r → r ≡ is_done None
  scope_done p q a k settled e n i s again is_waiting h =
      absurd (settled n e i (again (starts x q s.number s.of null a.unrefused s.start.is_task
      (ready_still anything x p.status q.status a.more s.number s.of null
      (started_ready anything x p s.number s.of null s.start)) h)))
  scope_done p q a k settled e n i s again (is_begun w b) h = absurd (a.idle s.number w b h)
  scope_done p q a k settled e n i s again (is_done o) h =
      let d = k.done s.number o h in
      ap is_done (by_task d.task d.body o d.is_left (λ act. s.no_act (subst IsAct
      (same_Some d.task s.of (sym d.is_task ∙ s.start.is_task)) act)))
    where
      by_task : (t : Task) (b : Json) (o : Option Json) → IsLeft anything x t b o → (IsAct t → ⊥) → o ≡ None
      by_task (task.put at st) b o l n = absurd (n tt)
      by_task (task.delete key) b o l n = absurd (n tt)
      by_task (task.enter at) b o l n = l
      by_task (task.leave at) b o l n = l

  -- the history goes on by a scope
  scope_ahead : (p q : Progress) (e : Event) → IsAhead x p q → (s : IsScopeStep p e)
      → q.status s.number ≡ is_done None → IsAhead x (after e p) q
  scope_ahead p q e a s h =
      subst (λ (r : Progress). IsAhead x r q) (sym s.is)
      (record {
        more = λ v o i. elim (at_changed s.number (is_done None) p.status v) [
          | inl j ↦ ap q.status j.0 ∙ (h ∙ (sym j.1 ∙ i))
          | inr j ↦ a.more v o (sym j.1 ∙ i)
        ];
        acts = λ u t is act o i.
            at_other s.number (is_done None) p.status u (λ j. s.no_act (subst IsAct
            (same_Some t s.of (sym is ∙ (ap (slice_get x.tasks) j ∙ s.start.is_task))) act))
            ∙ a.acts u t is act o i;
        idle = a.idle;
        unrefused = a.unrefused;
      })

  -- ---- other events of the history, after which the replay is still ahead

  -- a task that was not done changes, and is not done after it
  ahead_open : (p q : Progress) (u : ℕ) (s : Status) → IsAhead x p q → ((o : Option Json) → p.status u ≡ is_done o → ⊥)
      → ((o : Option Json) → s ≡ is_done o → ⊥) → (r : Option Refusal)
      → IsAhead x (record { status = changed u s p.status; refusal = r }) q
  ahead_open p q u s a n m r = record {
    more = λ v o h. elim (at_changed u s p.status v) [
      | inl i ↦ absurd (m o (sym i.1 ∙ h))
      | inr i ↦ a.more v o (sym i.1 ∙ h)
    ];
    acts = λ v t is act o h.
        at_other u s p.status v (λ i. n o (ap p.status (sym i) ∙ a.acts v t is act o h)) ∙ a.acts v t is act o h;
    idle = a.idle;
    unrefused = a.unrefused;
  }

  waiting_no_done : (o : Option Json) → is_waiting ≡ is_done o → ⊥
  waiting_no_done o e = cc

  begun_no_done : (w : ℕ) (b : Json) (o : Option Json) → is_begun w b ≡ is_done o → ⊥
  begun_no_done w b o e = cc

  closed_done_back : (s : Status) (o : Option Json) → closed s ≡ is_done o → s ≡ is_done o
  closed_done_back is_waiting o e = e
  closed_done_back (is_begun v c) o e = absurd (waiting_no_done o e)
  closed_done_back (is_done r) o e = e

  ahead_crash : (p q : Progress) → IsAhead x p q → IsAhead x (after crash p) q
  ahead_crash p q a = record {
    more = λ v o h. a.more v o (closed_done_back (p.status v) o h);
    acts = λ v t is act o h. ap closed (a.acts v t is act o h);
    idle = a.idle;
    unrefused = a.unrefused;
  }

  -- both have the answer
  ahead_answer : (p q : Progress) (u w : ℕ) (b : Json) (o : Option Json) → IsAhead x p q
      → IsAhead x (record { status = changed u (is_done o) p.status; refusal = p.refusal })
      (record { status = changed u (is_done o) (changed u (is_begun w b) q.status); refusal = q.refusal })
  ahead_answer p q u w b o a = record {
    more = λ v r h. elim (at_changed u (is_done o) p.status v) [
      | inl i ↦
          ap (changed u (is_done o) (changed u (is_begun w b) q.status)) i.0
          ∙ (at_itself u (is_done o) (changed u (is_begun w b) q.status) ∙ (sym i.1 ∙ h))
      | inr i ↦
          at_other u (is_done o) (changed u (is_begun w b) q.status) v i.0
          ∙ (at_other u (is_begun w b) q.status v i.0 ∙ a.more v r (sym i.1 ∙ h))
    ];
    acts = λ v t is act r h. by_change v t is act r h (at_changed u (is_done o) (changed u (is_begun w b) q.status) v);
    idle = λ v n c h. by_idle v n c h;
    unrefused = a.unrefused;
  }
    where
      by_change : (v : ℕ) (t : Task) → slice_get x.tasks v ≡ Some t → IsAct t → (r : Option Json)
          → changed u (is_done o) (changed u (is_begun w b) q.status) v ≡ is_done r
          → IsChanged u (is_done o) (changed u (is_begun w b) q.status) v
          → changed u (is_done o) p.status v ≡ is_done r
      by_change v t is act r h (inl i) =
          ap (changed u (is_done o) p.status) i.0 ∙ (at_itself u (is_done o) p.status ∙ (sym i.1 ∙ h))
      by_change v t is act r h (inr i) =
          at_other u (is_done o) p.status v i.0
          ∙ a.acts v t is act r (sym (at_other u (is_begun w b) q.status v i.0) ∙ (sym i.1 ∙ h))

      by_idle : (v n : ℕ) (c : Json) → changed u (is_done o) (changed u (is_begun w b) q.status) v ≡ is_begun n c → ⊥
      by_idle v n c h =
          let f = fewer_by u (is_done o) (changed u (is_begun w b) q.status) (λ i j. done_no_begin o i j) v n c h in
          a.idle v n c (sym (at_other u (is_begun w b) q.status v f.0) ∙ f.1)

  -- ---- the replay of the answers of a history

  -- the rest of a replay that has settled
  abbrev Plays : Progress → List Noted → List Event → Type 0
  Plays q [] others = others ≡ []
  Plays q (n ∷ ns) others =
      where_refused n.answer (others ≡ last_play n ns) (PlaysThen n q others (λ r more. IsReplay x r ns more))

  -- what is legal once the replay has settled is legal from before
  settles_first : (p q : Progress) → IsAhead x p q → IsKept anything x q.status → (ns : List Noted)
      → ((r : Progress) (others : List Event) → IsAhead x p r → IsKept anything x r.status → IsSettled x r
      → Plays r ns others → IsLegalFrom x r others)
      → (h : List Event) → IsReplay x q ns h → IsLegalFrom x q h
  settles_first p q a k [] rest h r = subst (λ (g : List Event). IsLegalFrom x q g) (sym r) tt
  settles_first p q a k (n ∷ ns) rest h r =
      let i = ahead_settles r.scopes p q a k r.settles in
      subst (λ (g : List Event). IsLegalFrom x q g) (sym r.is)
      (legal_joined x q r.scopes r.others i.legal
      (rest (after_all r.scopes q) r.others i.ahead i.kept i.settled r.goes_on))

  -- the Begin of an answer and the answer
  record IsPlayed (q : Progress) (u w : ℕ) (b : Json) (a : Answer) : Type 0 where
    begins : May x q (begin u w b)
    ends : MayEnd x (after (begin u w b) q) u a

  played : (q : Progress) (u w : ℕ) (b : Json) (a : Answer) → q.refusal ≡ None
      → CanBegin x q.status (record { task = u; worker = w; body = b; answer = a }) → IsPlayed q u w b a
  played q u w b a unrefused c = record {
    begins = begin_may x q (record { task = u; worker = w; body = b; answer = a }) unrefused c;
    ends = record {
      is_begun = (w, (b, at_itself u (is_begun w b) q.status));
      ended = c.of;
      is_task = c.is_task;
      suits = c.suits;
    };
  }

  kept_played : (q : Progress) (u w : ℕ) (b : Json) (a : Answer) → IsPlayed q u w b a → IsKept anything x q.status
      → IsKept anything x (after_answer u a (after (begin u w b) q)).status
  kept_played q u w b a m k =
      kept_step anything x (after (begin u w b) q) (answer u a) m.ends
      (any_given x (after (begin u w b) q) (answer u a))
      (kept_step anything x q (begin u w b) m.begins (any_given x q (begin u w b)) k)

  then_legal : (q : Progress) (u w : ℕ) (b : Json) (a : Answer) → IsPlayed q u w b a → (others more : List Event)
      → others ≡ begin u w b ∷ answer u a ∷ more
      → IsLegalFrom x (after_answer u a (after (begin u w b) q)) more → IsLegalFrom x q others
  then_legal q u w b a m others more is l =
      subst (λ (g : List Event). IsLegalFrom x q g) (sym is) (m.begins, (m.ends, l))

  -- what is still to come: after the answer, wherever a replay that is ahead has settled
  abbrev Goes : Progress → List Noted → Type 0
  Goes p ns = (r : Progress) (others : List Event) → IsAhead x p r → IsKept anything x r.status → IsSettled x r
      → Plays r ns others → IsLegalFrom x r others

  play : (a : Answer) (p q : Progress) (u w : ℕ) (b : Json) (es : List Event) → IsLegalFrom x (after_answer u a p) es
      → IsAhead x p q → IsKept anything x p.status → IsKept anything x q.status
      → CanBegin x q.status (record { task = u; worker = w; body = b; answer = a })
      → Goes (after_answer u a p) (answers_from (after_answer u a p) es) → (others : List Event)
      → Plays q (record { task = u; worker = w; body = b; answer = a } ∷ answers_from (after_answer u a p) es) others
      → IsLegalFrom x q others
  play (Stored j) p q u w b es l a kp kq c rest others r =
      let m = played q u w b (Stored j) a.unrefused c in
      then_legal q u w b (Stored j) m others r.others r.is
      (settles_first (after_answer u (Stored j) p) (after_answer u (Stored j) (after (begin u w b) q))
      (ahead_answer p q u w b (Some j) a) (kept_played q u w b (Stored j) m kq)
      (answers_from (after_answer u (Stored j) p) es) rest r.others r.goes_on)
  play Gone p q u w b es l a kp kq c rest others r =
      let m = played q u w b Gone a.unrefused c in
      then_legal q u w b Gone m others r.others r.is
      (settles_first (after_answer u Gone p) (after_answer u Gone (after (begin u w b) q))
      (ahead_answer p q u w b None a) (kept_played q u w b Gone m kq)
      (answers_from (after_answer u Gone p) es) rest r.others r.goes_on)
  play (Refused code) p q u w b es l a kp kq c rest others r =
      subst (λ (g : List Event). IsLegalFrom x q g) (sym r)
      (last_legal x (record { task = u; worker = w; body = b; answer = Refused code }
      ∷ answers_from (after_answer u (Refused code) p) es) q a.unrefused (
        c,
        (
          no_answer es (after_answer u (Refused code) p) u
              (first_there p.refusal (record { task = u; code = code }))
              (λ v d e. (fewer_answer p u (Refused code) u v d e).0 refl) l,
          all_begin es q.status (after_answer u (Refused code) p)
              (first_there p.refusal (record { task = u; code = code }))
              (λ v n d e. open_now p q a kp v n d (fewer_answer p u (Refused code) v n d e).1) l,
        ),
      ))

  play_noted : (a : Answer) (p q : Progress) (u : ℕ) (es : List Event) → (m : MayEnd x p u a)
      → IsLegalFrom x (after_answer u a p) es → IsAhead x p q → IsKept anything x p.status
      → IsKept anything x q.status → Goes (after_answer u a p) (answers_from (after_answer u a p) es)
      → (others : List Event) → Plays q (noted u a (p.status u) ∷ answers_from (after_answer u a p) es) others
      → IsLegalFrom x q others
  play_noted a p q u es m l ahead kp kq rest others r =
      let h = m.is_begun in
      play a p q u h.0 h.1.0 es l ahead kp kq
      (can_begin q.status u h.0 h.1.0 a p (open_now p q ahead kp u h.0 h.1.0 h.1.1) m) rest others
      (subst (λ (n : Noted). Plays q (n ∷ answers_from (after_answer u a p) es) others)
      (noted_is u a (p.status u) h.0 h.1.0 h.1.1) r)

  follows : (es : List Event) (p q : Progress) → IsLegalFrom x p es → IsAhead x p q → IsKept anything x p.status
      → IsKept anything x q.status → IsSettled x q → (others : List Event) → Plays q (answers_from p es) others
      → IsLegalFrom x q others
  follows [] p q l a kp kq settled others r = subst (λ (g : List Event). IsLegalFrom x q g) (sym r) tt
  follows (enter u ∷ es) p q l a kp kq settled others r =
      let s : IsScopeStep p (enter u)
      = record { number = u; of = task.enter l.0.0; start = l.0.1; no_act = λ i. i; is = refl } in
      let d = scope_done p q a kq settled (enter u) u refl s (λ z. (l.0.0, z)) (q.status u) refl in
      follows es (after (enter u) p) q l.1 (scope_ahead p q (enter u) a s d)
      (kept_step anything x p (enter u) l.0 tt kp) kq settled others r
  follows (leave u ∷ es) p q l a kp kq settled others r =
      let s : IsScopeStep p (leave u)
      = record { number = u; of = task.leave l.0.0; start = l.0.1; no_act = λ i. i; is = refl } in
      let d = scope_done p q a kq settled (leave u) u refl s (λ z. (l.0.0, z)) (q.status u) refl in
      follows es (after (leave u) p) q l.1 (scope_ahead p q (leave u) a s d)
      (kept_step anything x p (leave u) l.0 tt kp) kq settled others r
  follows (begin u w b ∷ es) p q l a kp kq settled others r =
      follows es (after (begin u w b) p) q l.1
      (ahead_open p q u (is_begun w b) a (waiting_not p.status u (start_waits x p u l.0.0 b l.0.1.1))
      (begun_no_done w b) p.refusal)
      (kept_step anything x p (begin u w b) l.0 tt kp) kq settled others r
  follows (back u ∷ es) p q l a kp kq settled others r =
      follows es (after (back u) p) q l.1
      (ahead_open p q u is_waiting a (begun_not p.status u l.0.0 l.0.1.0 l.0.1.1) waiting_no_done p.refusal)
      (kept_step anything x p (back u) l.0 tt kp) kq settled others r
  follows (crash ∷ es) p q l a kp kq settled others r =
      follows es (after crash p) q l.1 (ahead_crash p q a) (kept_step anything x p crash l.0 tt kp) kq settled others r
  follows (answer u ans ∷ es) p q l a kp kq settled others r =
      play_noted ans p q u es l.0 l.1 a kp kq
      (λ n more ah k st pl.
      follows es (after_answer u ans p) n l.1 ah
      (kept_step anything x p (answer u ans) l.0 (any_given x p (answer u ans)) kp) k st more pl) others r

  nothing_ahead : IsAhead x at_opening at_opening
  nothing_ahead = record {
    more = λ v o h. h;
    acts = λ u t is act o h. h;
    idle = λ u w b h. wait_ends w b h;
    unrefused = refl;
  }

  pub replays_are_legal : (h r : List Event) → IsLegal x h → IsReplay x at_opening (answers_of h) r → IsLegal x r
  replays_are_legal h r l i =
      settles_first at_opening at_opening nothing_ahead (kept_opening anything x) (answers_of h)
      (λ q others a k st pl. follows h at_opening q l a (kept_opening anything x) k st others pl) r i
