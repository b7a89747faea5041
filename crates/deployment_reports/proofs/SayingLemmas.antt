-- The names of tasks, and the tasks of endings.
use Rattle.std.proofs.Common.{◌≡◌, ℕ, ◌<◌, ◌+◌, List, [], ◌∷◌, ◌++◌, map, length, Option, Some}
use Rattle.std.proofs.Common.{sym, ap, subst, ◌∙◌, append_assoc, append-nil}
use Rattle.std.proofs.lemmas.List.{map-append}
use Rattle.std.proofs.lemmas.Option.{slice_get_within}
use Rattle.std.specs.Prelude.{IfOk, Result, Ok, Err, encode_utf8_all}
use Rattle.std.specs.declared.alloc.AllocError.{AllocError}
use Rattle.std.specs.declared.alloc.Global.{Global}
use Rattle.std.specs.declared.vec.Vec.{Vec}
use Rattle.lock_rules.specs.Causes.{code_of, message_of}
use Rattle.lock_rules.specs.Spaced.{spaced}
use Rattle.lock_rules.specs.declared.cause.Cause.{Cause}
use Rattle.task_standings.specs.Failures.{Tells}
use Rattle.task_standings.specs.declared.standing.RootOutput.{RootOutput}
use Rattle.task_standings.specs.declared.standing.TaskFault.{TaskFault}
use Rattle.deploy_histories.specs.Planned.{Planned}
use Rattle.deploy_histories.specs.Events.{Event, Progress, progress}
use Rattle.deploy_histories.specs.Legal.{IsLegal}
use Rattle.deploy_core.specs.Endings.{IsTrueEnding, IsCircular, NeedInTurn}
use Rattle.deploy_core.specs.declared.ending.Ending.{Ending}
use Rattle.deploy_core.specs.declared.ending.Ending.TheVariants.{Refused, Faulty, Circular}
use Rattle.deployment_reports.specs.Lines.{EndsWithOutputs}
use Rattle.deployment_reports.specs.Sayings.{failure_line, AreTasks, Says, SaysFailure}
use Rattle.deployment_reports.specs.Reports.{status_of}
use Rattle.command_reports.specs.declared.report.Report.{Report}
use Rattle.deployment_reports.proofs.RefusalLemmas.{refused_within}

-- ---- names

-- the first of some tasks, and the others
pub first_task : (x : Planned) (us : List ℕ) (u : ℕ) (rest : List ℕ) → us ≡ u ∷ rest → AreTasks x us
    → (u < length x.tasks) × AreTasks x rest
first_task x us u rest e h = subst (AreTasks x) e h

-- a name more
pub named_more : (f : ℕ → Option (List ℕ)) (us left rest : List ℕ) (u : ℕ) (ns : List (List ℕ)) (n : List ℕ)
    → left ≡ u ∷ rest → f u ≡ Some n → map Some ns ++ map f left ≡ map f us
    → map Some (ns ++ n ∷ []) ++ map f rest ≡ map f us
named_more f us left rest u ns n e is h =
    ap (λ (l : List (Option (List ℕ))). l ++ map f rest) (map-append Some ns (n ∷ []))
    ∙ append_assoc (map Some ns) (Some n ∷ []) (map f rest)
    ∙ ap (λ (o : Option (List ℕ)). map Some ns ++ o ∷ map f rest) (sym is)
    ∙ ap (λ (l : List ℕ). map Some ns ++ map f l) (sym e) ∙ h

-- all names
pub named_all : (f : ℕ → Option (List ℕ)) (us left : List ℕ) (ns : List (List ℕ)) → left ≡ []
    → map Some ns ++ map f left ≡ map f us → map f us ≡ map Some ns
named_all f us left ns e h =
    sym (sym (ap (λ (l : List ℕ). map Some ns ++ map f l) e ∙ append-nil (map Some ns)) ∙ h)

-- ---- tasks of endings

module _ (x : Planned) (p : Progress) where
  in_turn : (u : ℕ) (us : List ℕ) (end : ℕ) → NeedInTurn x p u us end → AreTasks x (u ∷ us)
  in_turn u [] end n = (slice_get_within x.tasks u n.task n.is_task, tt)
  in_turn u (v ∷ vs) end n = (slice_get_within x.tasks u n.0.task n.0.is_task, in_turn v vs end n.1)

  in_circle : (us : List ℕ) → IsCircular x p us → AreTasks x us
  in_circle [] i = absurd i
  in_circle (u ∷ us) i = in_turn u us u i.0

module _ (tells : Tells) (x : Planned) (h : List Event) where
  pub refused_task : (e : Ending) (u : ℕ) (code : List ℕ) → e ≡ Refused u code → IsLegal x h
      → IsTrueEnding tells x (progress h) e → AreTasks x (u ∷ [])
  refused_task e u code is legal holds =
      (refused_within x h legal u code (subst (λ (k : Ending). IsTrueEnding tells x (progress h) k) is holds), tt)

  pub faulty_task : (e : Ending) (u : ℕ) (said : TaskFault) → e ≡ Faulty u said
      → IsTrueEnding tells x (progress h) e → AreTasks x (u ∷ [])
  faulty_task e u said is holds =
      let f = subst (λ (k : Ending). IsTrueEnding tells x (progress h) k) is holds in
      (slice_get_within x.tasks u f.1.1.task f.1.1.is_task, tt)

  pub circular_tasks : (e : Ending) (us : Vec ℕ Global) → e ≡ Circular us
      → IsTrueEnding tells x (progress h) e → AreTasks x us.items
  circular_tasks e us is holds =
      in_circle x (progress h) us.items (subst (λ (k : Ending). IsTrueEnding tells x (progress h) k) is holds)

-- ---- what is returned

pub says_so : (named : ℕ → Option (List ℕ)) (name : List ℕ) (e k : Ending) → e ≡ k → (r : Result Report AllocError)
    → IfOk r (λ t. Says named name k t.text) → IfOk r (λ t. Says named name e t.text)
says_so named name e k is r h = subst (λ (j : Ending). IfOk r (λ t. Says named name j t.text)) (sym is) h

pub status_so : (e k : Ending) → e ≡ k → (r : Result Report AllocError) → IfOk r (λ t. t.status ≡ status_of k)
    → IfOk r (λ t. t.status ≡ status_of e)
status_so e k is r h = subst (λ (j : Ending). IfOk r (λ t. t.status ≡ status_of j)) (sym is) h

-- the lines of outputs after an equal text
pub ends_so : (a b : List ℕ) (os : List RootOutput) (r : Result Report AllocError) → a ≡ b
    → IfOk r (λ t. EndsWithOutputs a os t.text) → IfOk r (λ t. EndsWithOutputs b os t.text)
ends_so a b os r e h = subst (λ (z : List ℕ). IfOk r (λ t. EndsWithOutputs z os t.text)) e h

-- the line of a failure by the names of its tasks
pub failure_so : (named : ℕ → Option (List ℕ)) (name : List ℕ) (why : Cause) (us : List ℕ) (ns ms : List (List ℕ))
    → map named us ≡ map Some ns → ms ≡ ns → (r : Result (List ℕ) AllocError)
    → IfOk r (λ t. t ≡ failure_line name (encode_utf8_all (code_of why)) (encode_utf8_all (message_of (spaced ms) why)))
    → IfOk r (SaysFailure named name why us)
failure_so named name why us ns ms e f (Ok t) h =
    let P : List (List ℕ) → Type 0 = λ z.
    t ≡ failure_line name (encode_utf8_all (code_of why)) (encode_utf8_all (message_of (spaced z) why)) in
    record { names = ns; are_names = e; is = subst P f h }
failure_so named name why us ns ms e f (Err k) h = tt

-- the line of a failure by equal texts
pub line_so : (r : Result (List ℕ) AllocError) (name a b c d : List ℕ) → a ≡ b → c ≡ d
    → IfOk r (λ t. t ≡ failure_line name a c) → IfOk r (λ t. t ≡ failure_line name b d)
line_so r name a b c d e f h =
    subst (λ (z : List ℕ). IfOk r (λ t. t ≡ failure_line name b z)) f
    (subst (λ (z : List ℕ). IfOk r (λ t. t ≡ failure_line name z c)) e h)
