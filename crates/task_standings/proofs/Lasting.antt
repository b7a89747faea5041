-- What a task waits for stays until that is done, and a value that is none stays none.
use Rattle.std.proofs.Common.{◌≡◌, inl, inr, ℕ, Bool, true, false, List, [], ◌∷◌, Option, Some, None}
use Rattle.std.proofs.Common.{refl, sym, ap, subst, ◌∙◌}
use Rattle.std.specs.Prelude.{◌||◌, slice_get}
use Rattle.std.specs.List.{list_any}
use Rattle.std.proofs.lemmas.Bool.{or_left, or_right}
use Rattle.arm_value.specs.Json.{Json}
use Rattle.reading.specs.World.{reads_in}
use Rattle.reading.specs.Knowledge as knowledge
use Rattle.reading.specs.Knowledge.{Known, known, absent, missing, Told, value, no_value, waits, told, blanked}
use Rattle.reading.specs.Knowledge.{Completes, Grows, Stays, IsThere, IsFinal, IsAwaited, Means, IsToldStill}
use Rattle.reading.proofs.Completion.{told_means}
use Rattle.reading.proofs.Growth.{told_still}
use Rattle.deploy_cells.specs.Cells.{Cell, offered, output}
use Rattle.deploy_cells.specs.Guarded.{Reads}
use Rattle.board_history.specs.Known.{Table, entry_of}
use Rattle.board_history.specs.Meaning.{meaning}
use Rattle.board_history.specs.Start.{start_world, at_point}
use Rattle.board_history.specs.Tasks.{Task}
use Rattle.board_history.specs.Reads.{is_given_by}
use Rattle.board_history.specs.Children.{Has}
use Rattle.board_history.specs.Planned.{Planned, basis}
use Rattle.board_history.specs.Events.{Progress, IsDone}
use Rattle.board_history.specs.Points.{IsKnownThen, IsTableOf, point}
use Rattle.board_history.specs.Values.{TaskValue, task_values, reads_from}
use Rattle.board_history.specs.Readiness.{ready, readiness, needs_first, needs_now}
use Rattle.board_history.proofs.ReadinessLemmas.{ready_says, table_grows}
use Rattle.history_replays.specs.Past.{StaysDone}
use Rattle.history_replays.proofs.Later.{known_later}
use Rattle.task_standings.specs.Standings.{WaitsFor, IsNone, Needs, IsStuck}
use Rattle.task_standings.specs.Standings.{IsScopeSeen}
use Rattle.task_standings.proofs.Agreement.{known_or, joined, AreOne, grows_left, grows_right, one_known}
use Rattle.task_standings.proofs.Agreement.{more_completes}
use Rattle.task_standings.proofs.Agreement.{awaited_is_read}

any_known : {A : Type 0} (f : A → Bool) (a : A) (cs : List A) → knowledge.Has a cs → f a ≡ true → list_any f cs ≡ true
any_known f a [] h e = absurd h
any_known f a (c ∷ cs) h e = elim h [
  | inl i ↦ ap (λ b. b || list_any f cs) (ap f i ∙ e)
  | inr i ↦ or_right (f c) (list_any f cs) (any_known f a cs i e)
]

any_value : (f : TaskValue → Bool) (a : TaskValue) (vs : List TaskValue) → Has a vs → f a ≡ true
    → list_any f vs ≡ true
any_value f a [] h e = absurd h
any_value f a (c ∷ cs) h e = elim h [
  | inl i ↦ ap (λ b. b || list_any f cs) (ap f i ∙ e)
  | inr i ↦ or_right (f c) (list_any f cs) (any_value f a cs i e)
]

module _ (x : Planned) (p : Progress) (s t : Table) (i : IsKnownThen x p s) (j : IsKnownThen x p t) where
  are_one : AreOne s t
  are_one c o u e f =
      one_known (meaning x.deployment) (at_point (basis x) (point x p.status)) c o u (i c o e) (j c u f)

  both : Table
  both = joined s t

  completes_first : Completes s (blanked (joined s t))
  completes_first = more_completes s (joined s t) (grows_left s t)

  completes_second : Completes t (blanked (joined s t))
  completes_second = more_completes t (joined s t) (grows_right s t are_one)

  same_reads : (r : Reads (Option Json)) (o : Option Json) → told t r ≡ value o
      → reads_in (blanked (joined s t)) r ≡ reads_in (blanked t) r
  same_reads r o e =
      let f : IsFinal t r (Some o)
      = subst (λ (z : Told Cell (Option Json)). Means t r z) e (told_means Cell Json (Option Json) t r) in
      (f.everywhere (blanked (joined s t)) completes_second).1

  needs_by_read : (task giver : Task) (w : WaitsFor x s task giver) (o : Option Json)
      → told t w.awaiting.reading ≡ value o → needs_now x t task giver ≡ true
  needs_by_read task giver w o e =
      let read : knowledge.Has w.cell (reads_in (blanked t) w.awaiting.reading)
      = subst (λ (cs : List Cell). knowledge.Has w.cell cs) (same_reads w.awaiting.reading o e)
      (awaited_is_read (Option Json) s (blanked (joined s t)) completes_first w.awaiting.reading w.cell
      w.is_awaited) in
      or_right (needs_first x task giver) (list_any (reads_from x t giver) (task_values x.deployment task))
      (any_value (reads_from x t giver) w.awaiting (task_values x.deployment task) w.is_value
      (any_known (is_given_by x.deployment (start_world x.known) giver) w.cell
      (reads_in (blanked t) w.awaiting.reading) read w.is_given))

  still_value : (r : Reads (Option Json)) (z : Told Cell (Option Json)) (o : Option Json)
      → IsToldStill (joined s t) r z → z ≡ value o → told (joined s t) r ≡ value o
  still_value r z o h e = subst (λ (z : Told Cell (Option Json)). IsToldStill (joined s t) r z) e h

  never_both : (z : Told Cell (Option Json)) (o : Option Json) → z ≡ no_value → z ≡ value o → ⊥
  never_both z o e f = let g = sym e ∙ f in cc

  never_waits : (z : Told Cell (Option Json)) (o : Option Json) (c : Cell) → z ≡ waits c → z ≡ value o → ⊥
  never_waits z o c e f = let g = sym e ∙ f in cc

  entry_is : (c : Cell) (e : Known Json) → t c ≡ e → (e ≡ missing → ⊥) → (o : Option Json) × (t c ≡ entry_of o)
  entry_is c (known v) f h = (Some v, f)
  entry_is c absent f h = (None, f)
  entry_is c missing f h = absurd (h refl)

  missing_both : (e f : Known Json) → e ≡ missing → f ≡ missing → known_or e f ≡ missing
  missing_both missing missing g h = refl
  missing_both missing (known v) g h = absurd (cc)
  missing_both missing absent g h = absurd (cc)
  missing_both (known v) f g h = absurd (cc)
  missing_both absent f g h = absurd (cc)

  -- a reading that has a value by the one table waits by the other for nothing that the one has not
  awaited_there : (r : Reads (Option Json)) (c : Cell) (o : Option Json) → s c ≡ missing → told s r ≡ waits c
      → told t r ≡ value o → t c ≡ missing → ⊥
  awaited_there r c o m e f g =
      never_waits (told (joined s t) r) o c
      (subst (λ (z : Told Cell (Option Json)). IsToldStill (joined s t) r z) e
      (told_still Cell Json (Option Json) s (joined s t) (grows_left s t) r)
      (missing_both (s c) (t c) m g))
      (still_value r (told t r) o (told_still Cell Json (Option Json) t (joined s t) (grows_right s t are_one) r) f)

  not_none : (r : Reads (Option Json)) (z : Told Cell (Option Json)) → told s r ≡ z → IsNone x p z → (o : Option Json)
      → told t r ≡ value o → ⊥
  not_none r (value u) e n o f = n
  not_none r no_value e n o f =
      never_both (told (joined s t) r) o
      (subst (λ (z : Told Cell (Option Json)). IsToldStill (joined s t) r z) e
      (told_still Cell Json (Option Json) s (joined s t) (grows_left s t) r))
      (still_value r (told t r) o (told_still Cell Json (Option Json) t (joined s t) (grows_right s t are_one) r) f)
  not_none r (waits c) e n o f =
      let w : IsAwaited s r c
      = subst (λ (z : Told Cell (Option Json)). Means s r z) e (told_means Cell Json (Option Json) s r) in
      let k = entry_is c (t c) refl (awaited_there r c o w.is_missing e f) in
      n p k.0 (λ v u i. i) (j c k.0 k.1)

-- ---- a task that waits for another is not ready before that is done

needed : (x : Planned) (p : Progress) (t : Table) (u : ℕ) (task : Task) (body : Json)
    → readiness x t p.status u task ≡ ready body → (v : ℕ) (giver : Task) → slice_get x.tasks v ≡ Some giver
    → needs_now x t task giver ≡ true → IsDone p v
needed x p t u task body e v giver is n = (ready_says x t p u task body e).is_free.needs_done v giver is n

pub needs_come_first : (x : Planned) (p : Progress) (t : Table) → IsKnownThen x p t → (u : ℕ) (task : Task)
    (body : Json) → readiness x t p.status u task ≡ ready body → (v : ℕ) (giver : Task)
    → slice_get x.tasks v ≡ Some giver → Needs x p task giver → IsDone p v
needs_come_first x p t j u task body e v giver is (inl n) =
    needed x p t u task body e v giver is (or_left (needs_first x task giver) _ n)
needs_come_first x p t j u task body e v giver is (inr h) =
    let r = ready_says x t p u task body e in
    let a = r.has_values h.waits_for.awaiting h.waits_for.is_value in
    needed x p t u task body e v giver is (needs_by_read x p h.known t h.is_known j task giver h.waits_for a.0 a.1)

pub stuck_is_not_ready : (x : Planned) (p : Progress) (t : Table) → IsKnownThen x p t → (u : ℕ) (task : Task)
    (body : Json) → IsStuck x p task → readiness x t p.status u task ≡ ready body → ⊥
stuck_is_not_ready x p t j u task body h e =
    let r = ready_says x t p u task body e in
    let a = r.has_values h.lacks.lacking h.lacks.is_value in
    not_none x p h.known t h.is_known j h.lacks.lacking.reading (told h.known h.lacks.lacking.reading) refl
    h.lacks.is_none a.0 a.1

-- ---- later

pub needs_later : (x : Planned) (p q : Progress) (task giver : Task) → StaysDone p.status q.status
    → Needs x p task giver → Needs x q task giver
needs_later x p q task giver more (inl n) = inl n
needs_later x p q task giver more (inr h) =
    inr (record { known = h.known; is_known = known_later x p q h.known more h.is_known; waits_for = h.waits_for })

none_later : (x : Planned) (p q : Progress) → StaysDone p.status q.status → (z : Told Cell (Option Json))
    → IsNone x p z → IsNone x q z
none_later x p q more (value u) n = n
none_later x p q more no_value n = tt
none_later x p q more (waits c) n = λ r o later k. n r o (λ v u i. later v u (more v u i)) k

pub stuck_later : (x : Planned) (p q : Progress) (task : Task) → StaysDone p.status q.status → IsStuck x p task
    → IsStuck x q task
stuck_later x p q task more h =
    record {
      known = h.known;
      is_known = known_later x p q h.known more h.is_known;
      lacks = record {
        lacking = h.lacks.lacking;
        is_value = h.lacks.is_value;
        is_none = none_later x p q more (told h.known h.lacks.lacking.reading) h.lacks.is_none;
      };
    }

there_still : (e f : Known Json) → Stays e f → IsThere e → IsThere f
there_still (known v) f s i = subst IsThere (sym s) tt
there_still absent f s i = subst IsThere (sym s) tt
there_still missing f s i = absurd i

pub scopes_stay : (x : Planned) (s t : Table) → Grows s t → (u : ℕ) → IsScopeSeen x s u → IsScopeSeen x t u
scopes_stay x s t g u h =
    record {
      entered = λ q e c i. there_still (s c) (t c) (g c) (h.entered q e c i);
      left = λ q n r e f i.
          let b = h.left q n r e f i in (
            there_still (s (offered q n)) (t (offered q n)) (g (offered q n)) b.0,
            there_still (s (output q n)) (t (output q n)) (g (output q n)) b.1,
          );
    }

-- by all that is known a task needs what it waits for
pub needed_by_all : (x : Planned) (p : Progress) (t : Table) → IsTableOf x p t → (task giver : Task)
    → Needs x p task giver → needs_now x t task giver ≡ true
needed_by_all x p t all task giver (inl n) = or_left (needs_first x task giver) _ n
needed_by_all x p t all task giver (inr h) =
    let w = h.waits_for in
    or_right (needs_first x task giver) (list_any (reads_from x t giver) (task_values x.deployment task))
    (any_value (reads_from x t giver) w.awaiting (task_values x.deployment task) w.is_value
    (any_known (is_given_by x.deployment (start_world x.known) giver) w.cell
    (reads_in (blanked t) w.awaiting.reading)
    (awaited_is_read (Option Json) h.known (blanked t)
    (more_completes h.known t (table_grows x p h.known t h.is_known all)) w.awaiting.reading w.cell w.is_awaited)
    w.is_given))
