-- Where nothing is listed and all events were looked at, no task may begin.
use Rattle.std.proofs.Common.{◌≡◌, ◌≢◌, inl, inr, ℕ, ◌<◌, true, false, true≢false, List}
use Rattle.std.proofs.Common.{length, Some, None, refl, sym, subst, ◌∙◌, arith}
use Rattle.std.proofs.lemmas.Option.{slice_get_within, same_Some}
use Rattle.std.specs.Prelude.{slice_get}
use Rattle.arm_value.specs.Json.{Json, null}
use Rattle.plan_cells.specs.Known.{Table}
use Rattle.plan_cells.specs.Tasks as task
use Rattle.plan_cells.specs.Tasks.{Task}
use Rattle.deploy_histories.specs.Planned.{Planned}
use Rattle.deploy_histories.specs.Events as event
use Rattle.deploy_histories.specs.Events.{Event, Progress, progress, NoneBegun}
use Rattle.deploy_histories.specs.Answers.{IsScopeEvent, IsSettled}
use Rattle.deploy_histories.specs.Legal.{MayStart, May, NothingMay, HasEnded}
use Rattle.deploy_histories.proofs.ReadinessLemmas.{ready_says}
use Rattle.task_standings.specs.Standings.{Needs, IsStuck}
use Rattle.task_standings.proofs.Lasting.{needs_come_first, stuck_is_not_ready}
use Rattle.task_agenda.specs.declared.agenda.Agenda.{Agenda}
use Rattle.task_agenda.specs.Agendas.{is_listed, is_scope}
use Rattle.task_agenda.specs.Lists.{IsHeldUp}
use Rattle.board_dealing.specs.Boards.{NoneMayBegin}
use Rattle.board_dealing.specs.Kept.{IsNeeded, IsWoken, IsStuckTask, IsCovered, IsKept}
use Rattle.board_dealing.specs.Looks.{NoScopeListed, IsReadyFirst}
use Rattle.board_dealing.proofs.Undone.{undone_need}

module _ (x : Planned) (t : Table) (tasks : ℕ) (h : List Event) (a : Agenda) (seen : ℕ)
    (k : IsKept x t tasks h a seen) where
  -- a task of which a need is not done may not start
  pub not_held : (u : ℕ) (k2 : Task) (body : Json) (m : MayStart x (progress h) u k2 body) → IsHeldUp a.graph u → ⊥
  not_held u k2 body m i =
      let n = undone_need a.graph u i in
      let d : IsNeeded x h a u n.need = k.needs_are u n.need n.is_need in
      let same : d.task ≡ k2 = same_Some d.task k2 (sym d.is_task ∙ m.is_task) in
      let done = needs_come_first x (progress h) m.known m.is_known u k2 body m.is_ready n.need d.other d.is_other
      (subst (λ (z : Task). Needs x (progress h) z d.other) same d.needs) in
      true≢false (sym done ∙ sym (k.done_are n.need (within n.need d.other d.is_other)) ∙ n.is_undone)
    where
      within : (v : ℕ) (o : Task) → slice_get x.tasks v ≡ Some o → v < length x.tasks
      within v o e = slice_get_within x.tasks v o e

  pub not_stuck : (u : ℕ) (k2 : Task) (body : Json) (m : MayStart x (progress h) u k2 body) → IsStuckTask x h a u → ⊥
  not_stuck u k2 body m s =
      let same : s.task ≡ k2 = same_Some s.task k2 (sym s.is_task ∙ m.is_task) in
      stuck_is_not_ready x (progress h) m.known m.is_known u k2 body
      (subst (λ (z : Task). IsStuck x (progress h) z) same s.is_stuck) m.is_ready

module _ (x : Planned) (t : Table) (tasks : ℕ) (h : List Event) (a : Agenda) (seen : ℕ)
    (k : IsKept x t tasks h a seen) (all : seen ≡ length h) where
  not_woken : (u : ℕ) → IsWoken x h a seen u → ⊥
  not_woken u w =
      let l = slice_get_within h w.place w.happened w.is_there in
      let f = w.from in omega (arith, l, f, all)

  -- a task that is not listed may not start
  pub none_starts : (u : ℕ) → is_listed a u ≡ false → (k2 : Task) (body : Json) → MayStart x (progress h) u k2 body → ⊥
  none_starts u none k2 body m =
      by_cover (k.covered u (slice_get_within x.tasks u k2 m.is_task)
      (ready_says x m.known (progress h) u k2 body m.is_ready).is_free.waits_still)
    where
      by_cover : IsCovered x h a seen u → ⊥
      by_cover (inl (inl l)) = true≢false (sym l ∙ none)
      by_cover (inl (inr i)) = not_held x t tasks h a seen k u k2 body m i
      by_cover (inr (inl w)) = not_woken u w
      by_cover (inr (inr s)) = not_stuck x t tasks h a seen k u k2 body m s

  -- the scope of a task that is not listed may be neither entered nor left
  pub not_passed : (v : ℕ) → (is_scope a v ≡ true → is_listed a v ≡ false) → (f : Event) → IsScopeEvent v f
      → May x (progress h) f → ⊥
  not_passed v none (event.enter u) i m =
      none_starts u (subst (λ (n : ℕ). is_scope a n ≡ true → is_listed a n ≡ false) (sym i) none
      (k.kinds_are u (task.enter m.0) m.1.is_task)) (task.enter m.0) null m.1
  not_passed v none (event.leave u) i m =
      none_starts u (subst (λ (n : ℕ). is_scope a n ≡ true → is_listed a n ≡ false) (sym i) none
      (k.kinds_are u (task.leave m.0) m.1.is_task)) (task.leave m.0) null m.1
  not_passed v none (event.begin u worker body) i m = i
  not_passed v none (event.answer u b) i m = i
  not_passed v none (event.back u) i m = i
  not_passed v none event.crash i m = i

  -- where no task of scopes is listed, no scope may be entered or left
  pub settled : NoScopeListed a → IsSettled x (progress h)
  settled none v f i m = not_passed v (none v) f i m

  -- where the first scope that is listed may be entered or left, no earlier one may
  pub none_before : (noted : ℕ → Type 0) (u : ℕ) → IsReadyFirst x (progress h) t noted a u → (v : ℕ) (f : Event)
      → IsScopeEvent v f → v < u → May x (progress h) f → ⊥
  none_before noted u r v f i l m = not_passed v (λ s. r.is_first v s l) f i m

module _ (x : Planned) (t : Table) (tasks : ℕ) (h : List Event) (a : Agenda) (seen : ℕ)
    (k : IsKept x t tasks h a seen) (all : seen ≡ length h) (none : (u : ℕ) → is_listed a u ≡ false) where
  starts : (u : ℕ) (k2 : Task) (body : Json) → MayStart x (progress h) u k2 body → ⊥
  starts u k2 body m = none_starts x t tasks h a seen k all u (none u) k2 body m

  pub none_may_begin : NoneMayBegin x (progress h)
  none_may_begin u worker body m = starts u m.0 body m.1.1

  pub nothing_may : NoneBegun (progress h) → NothingMay x (progress h)
  nothing_may idle (event.enter u) m = absurd (starts u (task.enter m.0) null m.1)
  nothing_may idle (event.begin u worker body) m = absurd (none_may_begin u worker body m)
  nothing_may idle (event.answer u b) m = absurd (idle u m.is_begun)
  nothing_may idle (event.back u) m = absurd (idle u m)
  nothing_may idle (event.leave u) m = absurd (starts u (task.leave m.0) null m.1)
  nothing_may idle event.crash m = refl

  pub has_ended : NoneBegun (progress h) → HasEnded x (progress h)
  has_ended idle = record { none_begun = idle; no_more = inr (inr (nothing_may idle)) }

pub refused_has_ended : (x : Planned) (p : Progress) → NoneBegun p → p.refusal ≢ None → HasEnded x p
refused_has_ended x p idle r = record { none_begun = idle; no_more = inl r }

pub refused_settled : (x : Planned) (p : Progress) → p.refusal ≢ None → IsSettled x p
refused_settled x p r v (event.enter u) i m = r m.1.unrefused
refused_settled x p r v (event.leave u) i m = r m.1.unrefused
refused_settled x p r v (event.begin u worker body) i m = i
refused_settled x p r v (event.answer u b) i m = i
refused_settled x p r v (event.back u) i m = i
refused_settled x p r v event.crash i m = i

pub refused_none_may_begin : (x : Planned) (p : Progress) → p.refusal ≢ None → NoneMayBegin x p
refused_none_may_begin x p r u worker body m = r m.1.1.unrefused
