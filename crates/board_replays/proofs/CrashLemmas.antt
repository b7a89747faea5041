-- What a board keeps after a crash.
use Rattle.std.proofs.Common.{◌≡◌, inl, ℕ, ◌<◌, Bool, List, [], ◌∷◌, ◌++◌, length, refl, sym, ap, subst}
use Rattle.std.proofs.Common.{◌∙◌}
use Rattle.std.proofs.Common.{arith}
use Rattle.std.specs.Prelude.{Result, Ok, is_ok, if◌then◌else◌}
use Rattle.std.specs.declared.alloc.AllocError.{AllocError}
use Rattle.depend_graph.specs.Shape as graph
use Rattle.depend_graph.specs.Shape.{Shape}
use Rattle.plan_cells.specs.Known.{Table}
use Rattle.deploy_histories.specs.Planned.{Planned}
use Rattle.deploy_histories.specs.Events.{Event, Progress, progress, after_all, crash, Status, is_waiting, is_begun}
use Rattle.deploy_histories.specs.Events.{is_done}
use Rattle.deploy_histories.specs.Events.{closed, done_status}
use Rattle.deploy_histories.specs.Legal.{IsLegalFrom}
use Rattle.board_history.specs.Past.{Past, with_event}
use Rattle.task_standings.specs.Seen.{IsSeen}
use Rattle.task_agenda.specs.declared.agenda.Agenda.{Agenda}
use Rattle.task_agenda.specs.Agendas.{count, IsSeenTo, Keeps}
use Rattle.task_agenda.specs.Lists as lists
use Rattle.board_dealing.specs.Kept.{IsKept}
use Rattle.board_dealing.proofs.Covering.{legal_more, progress_more, needed_still}
use Rattle.board_dealing.proofs.PassLemmas.{seen_after}

same_done : (s : Status) → done_status (closed s) ≡ done_status s
same_done is_waiting = refl
same_done (is_begun w b) = refl
same_done (is_done o) = refl

module _ (x : Planned) (t : Table)
    (stays : (y : Planned) (p : Progress) (s : Table) (es : List Event) → IsSeen y p s → IsLegalFrom y p es
    → IsSeen y (after_all es p) s) (tasks : ℕ) (h : List Event) (a b : Agenda) (seen : ℕ) where
  done_so : (u : ℕ) → done_status ((progress (h ++ crash ∷ [])).status u) ≡ done_status ((progress h).status u)
  done_so u =
      ap (λ (p : Progress). done_status (p.status u)) (progress_more h crash) ∙ same_done ((progress h).status u)

  -- all tasks are looked at again
  pub kept_crashed : IsKept x t tasks h a seen → Keeps a b → ((u : ℕ) → u < count a → IsSeenTo b u)
      → IsKept x t tasks (h ++ crash ∷ []) b (length (h ++ crash ∷ []))
  kept_crashed k e all = record {
    is_legal = legal_more x h crash k.is_legal tt;
    is_seen = seen_after x h t stays k.is_seen crash tt;
    scopes = λ u d. k.scopes u (sym (done_so u) ∙ d);
    tasks_are = k.tasks_are;
    agenda_of = ap (λ (l : List Bool). length l) e.same.kinds ∙ k.agenda_of;
    kinds_are = λ u task i. ap (λ (l : List Bool). lists.is_scope l u) e.same.kinds ∙ k.kinds_are u task i;
    sized = ap (λ (g : Shape). length g.done) e.same.graph ∙ k.sized;
    done_are = λ u l. ap (λ (g : Shape). graph.is_done g u) e.same.graph ∙ k.done_are u l ∙ sym (done_so u);
    start_needs = λ u v task other i j n. subst (λ (g : Shape). graph.Needs g u v) (sym e.same.graph)
        (k.start_needs u v task other i j n);
    needs_are = λ u v n. needed_still x h crash tt a b e.listed
        (λ i j m. subst (λ (g : Shape). graph.Needs g i j) (sym e.same.graph) m) u v
        (k.needs_are u v (subst (λ (g : Shape). graph.Needs g u v) e.same.graph n));
    within = omega arith;
    covered = λ u l w. inl (all u (let c = k.agenda_of in omega (arith, c, l)));
  }

-- the same of the history and the agenda of a board
pub kept_restarted : (x : Planned) (t : Table)
    → ((y : Planned) (p : Progress) (s : Table) (es : List Event) → IsSeen y p s → IsLegalFrom y p es
    → IsSeen y (after_all es p) s) → (old new : Past) (a b : Agenda) (seen count_now : ℕ)
    → new ≡ with_event old crash → count_now ≡ length new.events → IsKept x t old.count old.events a seen → Keeps a b
    → ((u : ℕ) → u < count a → IsSeenTo b u) → IsKept x t new.count new.events b count_now
kept_restarted x t stays old new a b seen count_now i m k s all =
    subst (λ (n : ℕ). IsKept x t new.count new.events b n) (sym m)
    (subst (λ (p : Past). IsKept x t p.count p.events b (length p.events)) (sym i)
    (kept_crashed x t stays old.count old.events a b seen k s all))

pub crashed_is : (old new : Past) (r : Result (Unit {0}) AllocError) (o : Unit {0}) → r ≡ Ok o
    → new ≡ (if is_ok r then with_event old crash else old) → new ≡ with_event old crash
crashed_is old new r o e h =
    subst (λ (q : Result (Unit {0}) AllocError). new ≡ (if is_ok q then with_event old crash else old)) e h
