-- A recorded answer is played.
use Rattle.std.proofs.Common.{◌≡◌, ◌≢◌, ◌↔◌, ◌==◌, inr, ℕ, suc, ◌≤◌, Bool, true, false, true≢false, List, []}
use Rattle.std.proofs.Common.{◌∷◌, ◌++◌}
use Rattle.std.proofs.Common.{map, length, Option, Some, None, refl, sym, ap, subst, ◌∙◌, arith}
use Rattle.std.specs.Prelude.{slice_get, option_map, Result, Ok, Err, IfOk, OnOk, IsTrue, is_ok, if◌then◌else◌}
use Rattle.std.specs.declared.alloc.AllocError.{AllocError}
use Rattle.std.proofs.lemmas.Bool.Decides.{nat_tests}
use Rattle.std.proofs.lemmas.Option.{slice_get_within, same_Some}
use Rattle.std.proofs.lemmas.List.{append_assoc, map-append}
use Rattle.arm_value.specs.Json.{Json}
use Rattle.arm_value.specs.View.{json}
use Rattle.arm_value.specs.declared.value.Value.{Value}
use Rattle.provider_trait.specs.declared.answer.Answer.{Answer}
use Rattle.provider_trait.specs.declared.answer.Answer.TheVariants.{Stored, Gone, Refused}
use Rattle.plan_cells.specs.Known.{Table}
use Rattle.plan_cells.specs.Tasks as task
use Rattle.plan_cells.specs.Tasks.{Task}
use Rattle.deploy_histories.specs.Planned.{Planned}
use Rattle.deploy_histories.specs.Events as event
use Rattle.deploy_histories.specs.Events.{Event, Progress, progress, after_all, begin, is_begun, is_waiting}
use Rattle.deploy_histories.specs.Events.{IsBegun}
use Rattle.deploy_histories.specs.Legal.{IsAct, SuitsTask, May, MayEnd, IsLegalFrom}
use Rattle.deploy_histories.specs.Answers.{Noted, begin_of, answer_of, IsReplay, Follow}
use Rattle.history_laws.proofs.Steps.{at_itself, start_waits}
use Rattle.board_history.specs.Past.{Past, with_event}
use Rattle.board_history.specs.Stages.{refuses}
use Rattle.task_standings.specs.Seen.{IsSeen}
use Rattle.task_standings.specs.declared.standing.Kind.{Kind}
use Rattle.task_standings.specs.declared.standing.Standing.TheVariants.{Ready, Waits, Stuck}
use Rattle.task_standings.specs.Standings.{kind_of, Needs, IsStuck, IsStanding}
use Rattle.task_standings.proofs.Lasting.{needs_come_first, stuck_is_not_ready}
use Rattle.task_agenda.specs.declared.agenda.Agenda.{Agenda}
use Rattle.task_agenda.specs.Agendas.{is_scope}
use Rattle.board_dealing.specs.Boards.{HasSettled}
use Rattle.board_dealing.specs.Kept.{enters_or_leaves, IsKept}
use Rattle.board_dealing.specs.Looks.{IsReady, IsFree}
use Rattle.board_dealing.specs.Passes.{GoesOn}
use Rattle.board_dealing.proofs.Covering.{progress_more}
use Rattle.board_dealing.proofs.Happening.{begun_concerns}
use Rattle.board_dealing.proofs.Passages.{settles_so}
use Rattle.board_dealing.proofs.Pausing.{not_held}
use Rattle.board_dealing.proofs.LookLemmas.{ready_now}
use Rattle.board_dealing.proofs.DealLemmas.{suits_act, kept_begun}
use Rattle.board_replays.specs.Plays.{suits_kind, IsReadyAs, SuitsNoted, IsPlayable, IsBegunNow, IsBegunFor, IsEnded}
use Rattle.board_replays.specs.Plays.{NoneOf, AreOpen, ArePlayed, AreLate, HavePlayed, IsPlayedOn}
use Rattle.board_replays.proofs.Bodies.{one_body}
use Rattle.board_replays.proofs.Joining.{none_refuses_both, replay_then, replay_one, follows_early, follows_late}
use Rattle.board_replays.proofs.Joining.{refused_is, done_is, where_it_refuses, where_it_does}

-- ---- which answers suit a task

pub suits_task : (one : Task) (a : Answer) → suits_kind (kind_of one) a ≡ true → SuitsTask one a
suits_task (task.put p s) (Stored j) e = tt
suits_task (task.put p s) Gone e = absurd (true≢false (sym e))
suits_task (task.put p s) (Refused code) e = tt
suits_task (task.delete k) (Stored j) e = absurd (true≢false (sym e))
suits_task (task.delete k) Gone e = tt
suits_task (task.delete k) (Refused code) e = tt
suits_task (task.enter p) a e = absurd (true≢false (sym e))
suits_task (task.leave p) a e = absurd (true≢false (sym e))

pub task_suits : (one : Task) (a : Answer) → SuitsTask one a → suits_kind (kind_of one) a ≡ true
task_suits (task.put p s) (Stored j) s2 = refl
task_suits (task.put p s) Gone s2 = absurd s2
task_suits (task.put p s) (Refused code) s2 = refl
task_suits (task.delete k) (Stored j) s2 = absurd s2
task_suits (task.delete k) Gone s2 = refl
task_suits (task.delete k) (Refused code) s2 = refl
task_suits (task.enter p) a s2 = absurd s2
task_suits (task.leave p) a s2 = absurd s2

-- the task of a number of which the kind is told
record IsTaskOf (o : Option Task) (k : Kind) : Type 0 where
  of : Task
  is : o ≡ Some of
  kind : kind_of of ≡ k

task_of : (o : Option Task) (k : Kind) → option_map kind_of o ≡ Some k → IsTaskOf o k
task_of (Some one) k e = record { of = one; is = refl; kind = same_Some (kind_of one) k e }
task_of None k e = let f : None ≡ Some k = e in absurd (cc)

module _ (x : Planned) (n : Noted) where
  pub suits_noted : (k : Kind) → option_map kind_of (slice_get x.tasks n.task) ≡ Some k → suits_kind k n.answer ≡ true
      → SuitsNoted x n
  suits_noted k e s =
      let t = task_of (slice_get x.tasks n.task) k e in
      record {
        of = t.of;
        is_task = t.is;
        suits = suits_task t.of n.answer (ap (λ (l : Kind). suits_kind l n.answer) t.kind ∙ s);
      }

  pub not_suiting : (p : Progress) (k : Kind) → option_map kind_of (slice_get x.tasks n.task) ≡ Some k
      → suits_kind k n.answer ≡ false → IsPlayable x p n false
  not_suiting p k e s m i =
      let f = same_Some (kind_of i.of) k (sym (ap (option_map kind_of) i.is_task) ∙ e) in
      true≢false (sym (task_suits i.of n.answer i.suits) ∙ ap (λ (l : Kind). suits_kind l n.answer) f ∙ s)

  pub not_in_plan : (p : Progress) (tasks : ℕ) → tasks ≡ length x.tasks → tasks ≤ n.task → IsPlayable x p n false
  not_in_plan p tasks e l m i =
      let w = slice_get_within x.tasks n.task i.of i.is_task in absurd (omega (arith, e, l, w))

  pub playable_by : (p : Progress) (r : Bool) → SuitsNoted x n → IsReadyAs x p n.task n.body r → IsPlayable x p n r
  playable_by p true s i = (i, s)
  playable_by p false s i = λ m t. i m.0 m.1.1

  pub playable_on : (p : Progress) (r : Result Bool AllocError) → SuitsNoted x n → IfOk r (IsReadyAs x p n.task n.body)
      → IfOk r (IsPlayable x p n)
  playable_on p (Ok b) s i = playable_by p b s i
  playable_on p (Err f) s i = tt

  pub playable_so : (p : Progress) (r s : Bool) → r ≡ s → IsPlayable x p n r → IsPlayable x p n s
  playable_so p r s e i = subst (λ (b : Bool). IsPlayable x p n b) e i

-- ---- whether a task is ready with a body

module _ (x : Planned) (t : Table) (tasks : ℕ) (h : List Event) (a : Agenda) (seen : ℕ)
    (k : IsKept x t tasks h a seen) (u : ℕ) (body : Json) where
  pub not_free : (r : Bool) → r ≡ false → IsFree (progress h) a u r → IsReadyAs x (progress h) u body false
  not_free r e f one m =
      not_held x t tasks h a seen k u one body m
      (subst (λ (b : Bool). IsFree (progress h) a u b) e f (start_waits x (progress h) u one body m))

  pub not_while_waiting : (v : ℕ) → IsStanding x (progress h) t u (Waits v) → IsReadyAs x (progress h) u body false
  not_while_waiting v s one m =
      let same = same_Some s.task one (sym s.is_task ∙ m.is_task) in
      let d = needs_come_first x (progress h) m.known m.is_known u one body m.is_ready v s.stands_as.1.0
      s.stands_as.1.1.0 (subst (λ (z : Task). Needs x (progress h) z s.stands_as.1.0) same
      (inr (record { known = t; is_known = k.is_seen.known_then; waits_for = s.stands_as.1.1.1 }))) in
      true≢false (sym d ∙ s.stands_as.0)

  pub not_while_stuck : IsStanding x (progress h) t u Stuck → IsReadyAs x (progress h) u body false
  not_while_stuck s one m =
      let same = same_Some s.task one (sym s.is_task ∙ m.is_task) in
      stuck_is_not_ready x (progress h) m.known m.is_known u one body
      (subst (λ (z : Task). IsStuck x (progress h) z) same
      (record { known = t; is_known = k.is_seen.known_then; lacks = s.stands_as })) m.is_ready

  pub ready_by : (found : Value) (r : Bool) → (progress h).refusal ≡ None
      → IsStanding x (progress h) t u (Ready found) → (IsTrue r ↔ (json found ≡ body))
      → IsReadyAs x (progress h) u body r
  ready_by found r none s e = by r e
    where
      now : IsReady x (progress h) u (json found)
      now = ready_now x t tasks h a seen k u (json found) none s.task s.is_task s.stands_as.0 s.stands_as.1

      by : (b : Bool) → (IsTrue b ↔ (json found ≡ body)) → IsReadyAs x (progress h) u body b
      by true f = subst (λ (j : Json). IsReady x (progress h) u j) (f.0 refl) now
      by false f = λ one m.
          true≢false (sym (f.1 (one_body x (progress h) u now.of one (json found) body now.may_start m)))

-- ---- a task is begun

act_enters : (one : Task) → IsAct one → enters_or_leaves one ≡ false
act_enters (task.put p s) a = refl
act_enters (task.delete k) a = refl
act_enters (task.enter p) a = absurd a
act_enters (task.leave p) a = absurd a

-- a task that an answer suits enters and leaves no scope
pub act_noted : (x : Planned) (t : Table) (tasks : ℕ) (h : List Event) (a : Agenda)
    → (seen : ℕ) × IsKept x t tasks h a seen → (n : Noted) → SuitsNoted x n → is_scope a n.task ≡ false
act_noted x t tasks h a k n s =
    k.1.kinds_are n.task s.of s.is_task ∙ act_enters s.of (suits_act s.of n.answer s.suits)

pub begun_goes : (x : Planned) (t : Table)
    → ((y : Planned) (p : Progress) (s : Table) (es : List Event) → IsSeen y p s → IsLegalFrom y p es
    → IsSeen y (after_all es p) s) → (old new : Past) (a : Agenda) (u worker : ℕ) (body : Json)
    (r : Result (Unit {0}) AllocError) → new ≡ (if is_ok r then with_event old (begin u worker body) else old)
    → IsReady x (progress old.events) u body → is_scope a u ≡ false → GoesOn x t t old new a a
begun_goes x t stays old new a u worker body (Ok j) h r s seen k =
    subst (λ (p : Past). IsKept x t p.count p.events a seen) (sym h)
    (kept_begun x t stays old a u worker body r s seen k)
begun_goes x t stays old new a u worker body (Err e) h r s seen k =
    subst (λ (p : Past). IsKept x t p.count p.events a seen) (sym h) k

pub begun_refusal : (old new : Past) (u worker : ℕ) (body : Json) (r : Result (Unit {0}) AllocError)
    → new ≡ (if is_ok r then with_event old (begin u worker body) else old)
    → (progress new.events).refusal ≡ (progress old.events).refusal
begun_refusal old new u worker body (Ok done) h =
    ap (λ (p : Past). (progress p.events).refusal) h
    ∙ ap (λ (p : Progress). p.refusal) (progress_more old.events (begin u worker body))
begun_refusal old new u worker body (Err e) h = ap (λ (p : Past). (progress p.events).refusal) h

-- the task is begun, and its answer may come
pub begun_now : (x : Planned) (old new : Past) (n : Noted) (r : Result (Unit {0}) AllocError) (o : Unit {0}) → r ≡ Ok o
    → new ≡ (if is_ok r then with_event old (begin n.task n.worker n.body) else old)
    → IsPlayable x (progress old.events) n true → IsBegunNow x old.events n new.events
begun_now x old new n r o e h i =
    let now : new ≡ with_event old (begin_of n) = subst (λ (q : Result (Unit {0}) AllocError).
    new ≡ (if is_ok q then with_event old (begin n.task n.worker n.body) else old)) e h in
    let s = i.1 in
    subst (λ (p : Past). IsBegunNow x old.events n p.events) (sym now)
    (record {
      might = (i.0.of, (act_of i.0.of s.of i.0.may_start.is_task s.is_task s.suits, i.0.may_start));
      is = refl;
      may_end = record {
        is_begun = (
          n.worker,
          (
            n.body,
            ap (λ (p : Progress). p.status n.task) (progress_more old.events (begin_of n))
                ∙ at_itself n.task (is_begun n.worker n.body) (progress old.events).status,
          ),
        );
        ended = s.of;
        is_task = s.is_task;
        suits = s.suits;
      };
    })
  where
    act_of : (one other : Task) → slice_get x.tasks n.task ≡ Some one → slice_get x.tasks n.task ≡ Some other
        → SuitsTask other n.answer → IsAct one
    act_of one other p q s =
        subst (λ (z : Task). IsAct z) (same_Some other one (sym q ∙ p)) (suits_act other n.answer s)

-- ---- an answer comes, or is kept for later

pub ended_late : (u : ℕ) (a : Answer) (was now : List (ℕ × Answer)) (old : List Event)
    (r : Result (Unit {0}) AllocError) → refuses a ≡ true → OnOk r (now ≡ was ++ (u, a) ∷ [])
    → OnOk r (IsEnded u a was now old old)
ended_late u a was now old (Ok done) e i =
    where_it_refuses a ((now ≡ was ++ (u, a) ∷ []) × (old ≡ old))
    ((now ≡ was) × (old ≡ old ++ event.answer u a ∷ [])) e (i, refl)
ended_late u a was now old (Err f) e i = tt

pub ended_now : (u : ℕ) (a : Answer) (late : List (ℕ × Answer)) (old new : Past) → refuses a ≡ false
    → new ≡ with_event old (event.answer u a) → IsEnded u a late late old.events new.events
ended_now u a late old new e i =
    where_it_does a ((late ≡ late ++ (u, a) ∷ []) × (new.events ≡ old.events))
    ((late ≡ late) × (new.events ≡ old.events ++ event.answer u a ∷ [])) e (refl, ap (λ (p : Past). p.events) i)

pub ended_unrefused : (u : ℕ) (a : Answer) (old new : Past) → refuses a ≡ false
    → new ≡ with_event old (event.answer u a) → (progress old.events).refusal ≡ None
    → (progress new.events).refusal ≡ None
ended_unrefused u a old new e i none =
    ap (λ (p : Past). (progress p.events).refusal) i
    ∙ ap (λ (p : Progress). p.refusal) (progress_more old.events (event.answer u a)) ∙ same a e (progress old.events)
    ∙ none
  where
    same : (b : Answer) → refuses b ≡ false → (p : Progress) → (event.after_answer u b p).refusal ≡ p.refusal
    same (Stored j) f p = refl
    same Gone f p = refl
    same (Refused code) f p = absurd (true≢false f)

-- ---- an answer is played where none is late

module _ (x : Planned) (ns : List Noted) (n : Noted) (before mid : List Event) (a : ArePlayed x ns before)
    (s : HasSettled x before mid) where
  pub early_not : IsPlayable x (progress mid) n false → Follow x (ns ++ n ∷ []) → ⊥
  early_not i f =
      let z = settles_so x before mid s in
      let p = follows_early x ns n before z.scopes a z.settles f in
      i (subst (λ (h : List Event). May x (progress h) (begin_of n)) (sym z.are) p.0) p.1

  early_last : (begun : List Event) → begun ≡ mid ++ begin_of n ∷ [] → MayEnd x (progress begun) n.task n.answer
      → refuses n.answer ≡ true → AreLate x (ns ++ n ∷ []) ((n.task, n.answer) ∷ []) begun
  early_last begun b m e =
      let z = settles_so x before mid s in
      record {
        front = ns;
        first = n;
        more = [];
        are = refl;
        none_refuses = a.none_refuses;
        does_refuse = e;
        replayed = before;
        is_replay = a.is_replay;
        scopes = z.scopes;
        settles = z.settles;
        is = b ∙ ap (λ (l : List Event). l ++ begin_of n ∷ []) z.are ∙ append_assoc before z.scopes (begin_of n ∷ []);
        late_are = refl;
        are_open = (m, (tt, tt));
      }

  early_one : (begun new : List Event) → begun ≡ mid ++ begin_of n ∷ [] → new ≡ begun ++ answer_of n ∷ []
      → refuses n.answer ≡ false → ArePlayed x (ns ++ n ∷ []) new
  early_one begun new b c e =
      let z = settles_so x before mid s in
      let all : new ≡ before ++ (z.scopes ++ begin_of n ∷ answer_of n ∷ [])
      = c ∙ ap (λ (l : List Event). l ++ answer_of n ∷ []) b ∙ append_assoc mid (begin_of n ∷ []) (answer_of n ∷ [])
      ∙ ap (λ (l : List Event). l ++ begin_of n ∷ answer_of n ∷ []) z.are
      ∙ append_assoc before z.scopes (begin_of n ∷ answer_of n ∷ []) in
      record {
        none_refuses = none_refuses_both ns (n ∷ []) a.none_refuses (e, tt);
        is_replay = subst (λ (h : List Event). IsReplay x event.at_opening (ns ++ n ∷ []) h) (sym all)
            (replay_then x ns (n ∷ []) event.at_opening before (z.scopes ++ begin_of n ∷ answer_of n ∷ [])
            a.none_refuses a.is_replay (replay_one x (progress before) n z.scopes e z.settles));
      }

  -- the answer comes at once, or it is the first that is late
  pub early_on : (begun new : List Event) (was late : List (ℕ × Answer)) → was ≡ [] → begun ≡ mid ++ begin_of n ∷ []
      → MayEnd x (progress begun) n.task n.answer → IsEnded n.task n.answer was late begun new
      → HavePlayed x (ns ++ n ∷ []) late new
  early_on begun new was late w b m e = by (refuses n.answer) refl
    where
      by : (r : Bool) → refuses n.answer ≡ r → HavePlayed x (ns ++ n ∷ []) late new
      by true f =
          let i = refused_is n.answer ((late ≡ was ++ (n.task, n.answer) ∷ []) × (new ≡ begun))
          ((late ≡ was) × (new ≡ begun ++ event.answer n.task n.answer ∷ [])) f e in
          subst (λ (l : List (ℕ × Answer)). HavePlayed x (ns ++ n ∷ []) l new)
          (sym (i.0 ∙ ap (λ (l : List (ℕ × Answer)). l ++ (n.task, n.answer) ∷ []) w))
          (subst (λ (h : List Event). AreLate x (ns ++ n ∷ []) ((n.task, n.answer) ∷ []) h) (sym i.1)
          (early_last begun b m f))
      by false f =
          let i = done_is n.answer ((late ≡ was ++ (n.task, n.answer) ∷ []) × (new ≡ begun))
          ((late ≡ was) × (new ≡ begun ++ event.answer n.task n.answer ∷ [])) f e in
          subst (λ (l : List (ℕ × Answer)). HavePlayed x (ns ++ n ∷ []) l new) (sym (i.0 ∙ w))
          (early_one begun new b i.1 f)

-- ---- an answer is played where others are late

module _ (x : Planned) (p q : Progress) (u : ℕ) (a : Answer) (waits : p.status u ≡ is_waiting)
    (others : (v : ℕ) → (v ≡ u → ⊥) → q.status v ≡ p.status v) (last : MayEnd x q u a) where
  not_same : (v : ℕ) → IsBegun p v → v ≡ u → ⊥
  not_same v b e =
      let f : is_begun b.0 b.1.0 ≡ is_waiting = sym b.1.1 ∙ ap p.status e ∙ waits in cc

  still_open : (v : ℕ) (b : Answer) → MayEnd x p v b → MayEnd x q v b
  still_open v b m = record {
    is_begun = (m.is_begun.0, (m.is_begun.1.0, others v (not_same v m.is_begun) ∙ m.is_begun.1.1));
    ended = m.ended;
    is_task = m.is_task;
    suits = m.suits;
  }

  none_more : (v : ℕ) (ls : List (ℕ × Answer)) → u ≢ v → NoneOf v ls → NoneOf v (ls ++ (u, a) ∷ [])
  none_more v [] e n = (e, tt)
  none_more v (l ∷ ls) e n = (n.0, none_more v ls e n.1)

  pub open_more : (ls : List (ℕ × Answer)) → AreOpen x p ls → AreOpen x q (ls ++ (u, a) ∷ [])
  open_more [] o = (last, (tt, tt))
  open_more (l ∷ ls) o = (
    still_open l.0 l.1 o.0,
    (none_more l.0 ls (λ e. not_same l.0 o.0.is_begun (sym e)) o.1.0, open_more ls o.1.1),
  )

pub have_late : (x : Planned) (ns : List Noted) (late : List (ℕ × Answer)) (h : List Event) → AreLate x ns late h
    → HavePlayed x ns late h
have_late x ns (l ∷ ls) h a = a
have_late x ns [] h a = absurd (nothing (map (λ (n : Noted). (n.task, n.answer)) a.more) _ a.late_are)
  where
    nothing : (ls : List (ℕ × Answer)) (l : ℕ × Answer) → [] ≡ l ∷ ls → ⊥
    nothing ls l e = cc

module _ (x : Planned) (ns : List Noted) (n : Noted) (late : List (ℕ × Answer)) (h : List Event)
    (a : AreLate x ns late h) where
  pub late_not : IsPlayable x (progress h) n false → Follow x (ns ++ n ∷ []) → ⊥
  late_not i f = let p = follows_late x ns n late h a f in i p.0 p.1

  -- the answer is late too
  pub late_on : (new : List Event) (now : List (ℕ × Answer)) → IsBegunNow x h n new
      → now ≡ late ++ (n.task, n.answer) ∷ [] → HavePlayed x (ns ++ n ∷ []) now new
  late_on new now b e = have_late x (ns ++ n ∷ []) now new (record {
    front = a.front;
    first = a.first;
    more = a.more ++ n ∷ [];
    are = ap (λ (l : List Noted). l ++ n ∷ []) a.are ∙ append_assoc a.front (a.first ∷ a.more) (n ∷ []);
    none_refuses = a.none_refuses;
    does_refuse = a.does_refuse;
    replayed = a.replayed;
    is_replay = a.is_replay;
    scopes = a.scopes;
    settles = a.settles;
    is = b.is ∙ ap (λ (l : List Event). l ++ begin_of n ∷ []) a.is
        ∙ append_assoc a.replayed (a.scopes ++ map begin_of (a.first ∷ a.more)) (begin_of n ∷ [])
        ∙ ap (λ (l : List Event). a.replayed ++ l)
        (append_assoc a.scopes (map begin_of (a.first ∷ a.more)) (begin_of n ∷ [])
        ∙ ap (λ (l : List Event). a.scopes ++ l) (sym (map-append begin_of (a.first ∷ a.more) (n ∷ []))));
    late_are = e ∙ ap (λ (l : List (ℕ × Answer)). l ++ (n.task, n.answer) ∷ []) a.late_are
        ∙ sym (map-append (λ (m : Noted). (m.task, m.answer)) (a.first ∷ a.more) (n ∷ []));
    are_open = subst (λ (l : List (ℕ × Answer)). AreOpen x (progress new) l) (sym e)
        (open_more x (progress h) (progress new) n.task n.answer
        (start_waits x (progress h) n.task b.might.0 n.body b.might.1.1)
        (λ v d. ap (λ (l : List Event). (progress l).status v) b.is
        ∙ (begun_concerns h n.task n.worker n.body).others v d) b.may_end late a.are_open);
  })

-- ---- over what a call has left

pub begun_so : (x : Planned) (old : List Event) (n : Noted) (new : List Event) (o : Option (ℕ × Answer)) (u : ℕ)
    (a : Answer) → o ≡ Some (u, a) → IsBegunFor x old n new o
    → (◌≡◌ {A = ℕ × Answer} (u, a) (n.task, n.answer)) × IsBegunNow x old n new
begun_so x old n new o u a e i = subst (λ (q : Option (ℕ × Answer)). IsBegunFor x old n new q) e i

pub not_begun : (x : Planned) (old : List Event) (n : Noted) (new : List Event) (o : Option (ℕ × Answer)) → o ≡ None
    → IsBegunFor x old n new o → (new ≡ old) × IsPlayable x (progress old) n false
not_begun x old n new o e i = subst (λ (q : Option (ℕ × Answer)). IsBegunFor x old n new q) e i

pub early_of : (x : Planned) (ns : List Noted) (late : List (ℕ × Answer)) (h : List Event) → late ≡ []
    → HavePlayed x ns late h → ArePlayed x ns h
early_of x ns late h e i = subst (λ (l : List (ℕ × Answer)). HavePlayed x ns l h) e i

pub late_of : (x : Planned) (ns : List Noted) (late : List (ℕ × Answer)) (h : List Event) → (late ≡ [] → ⊥)
    → HavePlayed x ns late h → AreLate x ns late h
late_of x ns [] h e i = absurd (e refl)
late_of x ns (l ∷ ls) h e i = i

pub begun_as : (x y : Planned) (old : List Event) (n : Noted) (new : List Event)
    (r : Result (Option (ℕ × Answer)) AllocError) → y ≡ x → IfOk r (IsBegunFor y old n new)
    → IfOk r (IsBegunFor x old n new)
begun_as x y old n new r e i =
    subst (λ (z : Planned). IfOk r (IsBegunFor z old n new)) e i

pub may_end_as : (x y : Planned) (old : List Event) (n : Noted) (new : List Event) (u : ℕ) (a : Answer) → y ≡ x
    → (◌≡◌ {A = ℕ × Answer} (u, a) (n.task, n.answer)) × IsBegunNow x old n new → MayEnd y (progress new) u a
may_end_as x y old n new u a e b =
    subst (λ (z : Planned). MayEnd z (progress new) u a) (sym e)
    (subst (λ (l : ℕ × Answer). MayEnd x (progress new) l.0 l.1) (sym b.0) b.1.may_end)

-- what is kept, of the same plan by another name
pub begun_kept : (x y : Planned) (s t : Table) (old new : Past) (a b : Agenda) → y ≡ x → GoesOn x s t old new a b
    → (seen : ℕ) × IsKept x s old.count old.events a seen → (seen : ℕ) × IsKept y t new.count new.events b seen
begun_kept x y s t old new a b e f k =
    (k.0, subst (λ (z : Planned). IsKept z t new.count new.events b k.0) (sym e) (f k.0 k.1))

pub ended_as : (n : Noted) (u : ℕ) (a : Answer) (was now : List (ℕ × Answer)) (old new : List Event)
    → ◌≡◌ {A = ℕ × Answer} (u, a) (n.task, n.answer) → IsEnded u a was now old new
    → IsEnded n.task n.answer was now old new
ended_as n u a was now old new e i = subst (λ (l : ℕ × Answer). IsEnded l.0 l.1 was now old new) e i

pub held_as : (n : Noted) (u : ℕ) (a : Answer) (was now : List (ℕ × Answer))
    → ◌≡◌ {A = ℕ × Answer} (u, a) (n.task, n.answer)
    → now ≡ was ++ (u, a) ∷ [] → now ≡ was ++ (n.task, n.answer) ∷ []
held_as n u a was now e i = i ∙ ap (λ (l : ℕ × Answer). was ++ l ∷ []) e

pub played_as : (x y : Planned) (ns : List Noted) (n : Noted) (old mid : List Event) (late : List (ℕ × Answer))
    (new : List Event) (r : Result Bool AllocError) → y ≡ x
    → ((ms : List Noted) (before : List Event) → ArePlayed y ms before → HasSettled y before mid
    → IfOk r (IsPlayedOn y ms n late new))
    → ArePlayed x ns old → HasSettled x old mid → IfOk r (IsPlayedOn x ns n late new)
played_as x y ns n old mid late new r e f a s =
    subst (λ (z : Planned). IfOk r (IsPlayedOn z ns n late new)) e
    (f ns old (subst (λ (z : Planned). ArePlayed z ns old) (sym e) a)
    (subst (λ (z : Planned). HasSettled z old mid) (sym e) s))

pub empty_by : {A : Type 0} (ls : List A) → (length ls == 0) ≡ true → ls ≡ []
empty_by [] e = refl
empty_by (l ∷ ls) e = let n : suc (length ls) ≡ 0 = grind (arith, nat_tests) in absurd (omega arith)

pub not_empty : {A : Type 0} (ls : List A) → (length ls == 0) ≡ false → ls ≡ [] → ⊥
not_empty [] e i = absurd cc
not_empty (l ∷ ls) e i = cc

-- one answer more, of the same plan by another name
pub played_step : (x y : Planned) (ms : List Noted) (n : Noted) (was late : List (ℕ × Answer)) (old new : List Event)
    (r : Result Bool AllocError) (b : Bool) → y ≡ x → r ≡ Ok b
    → ((ks : List Noted) → HavePlayed y ks was old → IfOk r (IsPlayedOn y ks n late new))
    → HavePlayed x ms was old → IsPlayedOn x ms n late new b
played_step x y ms n was late old new r b e i f p =
    subst (λ (q : Result Bool AllocError). IfOk q (IsPlayedOn x ms n late new)) i
    (subst (λ (z : Planned). IfOk r (IsPlayedOn z ms n late new)) e
    (f ms (subst (λ (z : Planned). HavePlayed z ms was old) (sym e) p)))
