-- What is seen stays so, and a task of which all values are seen is ready.
use Rattle.std.proofs.Common.{◌≡◌, inl, inr, ℕ, Bool, true, false, true≢false, List, [], ◌∷◌, Option, Some, None}
use Rattle.std.proofs.Common.{refl, sym, subst, ◌∙◌}
use Rattle.std.specs.Prelude.{slice_get}
use Rattle.std.specs.List.{list_any}
use Rattle.std.proofs.lemmas.Bool.{or_cases}
use Rattle.arm_value.specs.Json.{Json}
use Rattle.reading.specs.World.{reads_in, Each}
use Rattle.reading.specs.Knowledge.{Known, missing, Told, value, no_value, waits, told, blanked, IsThere, IsFinal}
use Rattle.reading.specs.Knowledge.{Means}
use Rattle.reading.proofs.Completion.{told_means}
use Rattle.deploy_cells.specs.Cells.{Cell}
use Rattle.deploy_cells.specs.Guarded.{Meaning, Reads}
use Rattle.plan_cells.specs.Known.{Access, outright, by_others, hidden, Moment, Table, IsKnown, is_outright, is_told}
use Rattle.plan_cells.specs.Meaning.{Deployment, meaning}
use Rattle.plan_cells.specs.Start.{start_world, at_point}
use Rattle.plan_cells.specs.Tasks.{Task}
use Rattle.plan_cells.specs.Reads.{is_given_by}
use Rattle.plan_cells.specs.Children.{Has}
use Rattle.plan_cells.proofs.PointLemmas.{widens}
use Rattle.history_laws.specs.Planned.{Planned, basis}
use Rattle.history_laws.specs.Events.{Event, is_waiting, Progress, done_status, IsDone, after_all}
use Rattle.history_laws.specs.Points.{point}
use Rattle.history_laws.specs.Values.{Part, TaskValue, task_values, reads_from, needs_by_values, body_of}
use Rattle.history_laws.specs.Readiness.{Fault, fault_or, first_fault, needs_first, readiness, ready, IsReadyWith}
use Rattle.history_laws.specs.Legal.{IsLegalFrom}
use Rattle.history_laws.proofs.ReadinessLemmas.{says_ready}
use Rattle.history_laws.proofs.Steps.{all_stay_done, still_done, points_later}
use Rattle.point_values.specs.Seen.{IsSeen}

-- ---- at a later point

-- as much may be known, or more
abbrev Widens : Access → Access → Type 0
Widens (outright o) a = a ≡ outright o
Widens by_others a = a ≡ by_others
Widens hidden a = Unit {0}

module _ (m : Meaning) (n l : Moment) (wide : (c : Cell) → Widens (n c) (l c)) where
  by_access : (c : Cell) (a : Access) → n c ≡ a → Widens a (l c)
  by_access c a e = subst (λ (x : Access). Widens x (l c)) e (wide c)

  known_later : (c : Cell) (o : Option Json) → IsKnown m n c o → IsKnown m l c o
  known_later c o (is_outright _ _ e) = is_outright c o (by_access c (outright o) e)
  known_later c o (is_told _ _ p b h e) =
      is_told c o p (by_access c by_others b) (λ d u f. known_later d u (h d u f)) e

module _ (x : Planned) (p : Progress) (t : Table) (es : List Event) (seen : IsSeen x p t)
    (legal : IsLegalFrom x p es) where
  abbrev q : Progress
  q = after_all es p

  undone_before : (v : ℕ) (b : Bool) → done_status (p.status v) ≡ b → done_status (q.status v) ≡ false → b ≡ false
  undone_before v true e h =
      absurd (true≢false (sym (still_done p.status q.status (all_stay_done x p es legal) v e) ∙ h))
  undone_before v false e h = refl

  pub stays_seen : IsSeen x q t
  stays_seen = record {
    known_then = λ c o e.
        known_later (meaning x.deployment) (at_point (basis x) (point x p.status))
        (at_point (basis x) (point x q.status))
        (widens (basis x) (point x p.status) (point x q.status)
        (points_later p.status q.status (all_stay_done x p es legal) x)) c o (seen.known_then c o e);
    hides = λ v task c is given undone.
        seen.hides v task c is given (undone_before v (done_status (p.status v)) refl undone);
  }

-- ---- a task with values that are seen

module _ {A : Type 0} (f : A → Bool) (P : A → Type 0) where
  pub record IsOne : Type 0 where
    pub one : A
    pub passes : f one ≡ true
    pub has : P one

  any_each : (cs : List A) → list_any f cs ≡ true → Each P cs → IsOne
  any_each [] e h = absurd (true≢false (sym e))
  any_each (c ∷ cs) e h = elim (or_cases (f c) (list_any f cs) e) [
    | inl g ↦ record { one = c; passes = g; has = h.0 }
    | inr g ↦ any_each cs g h.1
  ]

module _ {A : Type 0} (f : A → Bool) where
  any_has : (xs : List A) → list_any f xs ≡ true → (a : A) × (Has a xs × (f a ≡ true))
  any_has [] e = absurd (true≢false (sym e))
  any_has (x ∷ xs) e = elim (or_cases (f x) (list_any f xs) e) [
    | inl g ↦ (x, (inl refl, g))
    | inr g ↦ let r = any_has xs g in (r.0, (inr r.1.0, r.1.1))
  ]

module _ (d : Deployment) (t : Table) where
  fault_by : (a : Part) (r : Told Cell (Option Json)) (rest : Option Fault) → fault_or d t a r rest ≡ None
      → ((o : Option Json) × (r ≡ value o)) × (rest ≡ None)
  fault_by a (value o) rest e = ((o, refl), e)
  fault_by a no_value rest e = cc
  fault_by a (waits c) rest e = cc

  all_told : (more : List TaskValue) → first_fault d t more ≡ None → (a : TaskValue) → Has a more
      → (o : Option Json) × (told t a.reading ≡ value o)
  all_told [] e a h = absurd h
  all_told (b ∷ more) e a h =
      let f = fault_by b.part (told t b.reading) (first_fault d t more) e in
      elim h [
        | inl g ↦ subst (λ (z : TaskValue). (o : Option Json) × (told t z.reading ≡ value o)) g f.0
        | inr g ↦ all_told more f.1 a g
      ]

  -- each cell that is read for a value that is known is there
  reads_there : (r : Reads (Option Json)) (o : Option Json) → told t r ≡ value o
      → Each (λ c. IsThere (t c)) (reads_in (blanked t) r)
  reads_there r o e =
      let f : IsFinal t r (Some o) = subst (λ (z : Told Cell (Option Json)). Means t r z) e
      (told_means Cell Json (Option Json) t r) in f.complete

never_there : (e : Known Json) → e ≡ missing → IsThere e → ⊥
never_there e h i = subst (λ (k : Known Json). IsThere k) h i

module _ (x : Planned) (p : Progress) (t : Table) (seen : IsSeen x p t) (u : ℕ) (task : Task)
    (still : p.status u ≡ is_waiting)
    (done_first : (v : ℕ) (other : Task) → slice_get x.tasks v ≡ Some other → needs_first x task other ≡ true
    → IsDone p v)
    (faultless : first_fault x.deployment t (task_values x.deployment task) ≡ None) where
  by_done : (v : ℕ) (other : Task) (c : Cell) (b : Bool) → slice_get x.tasks v ≡ Some other
      → is_given_by x.deployment (start_world x.known) other c ≡ true → IsThere (t c) → done_status (p.status v) ≡ b
      → b ≡ true
  by_done v other c true is given there e = refl
  by_done v other c false is given there e = absurd (never_there (t c) (seen.hides v other c is given e) there)

  by_values : (v : ℕ) (other : Task) → slice_get x.tasks v ≡ Some other → needs_by_values x t task other ≡ true
      → IsDone p v
  by_values v other is need =
      let a = any_has (reads_from x t other) (task_values x.deployment task) need in
      let known_of = all_told x.deployment t (task_values x.deployment task) faultless a.0 a.1.0 in
      let c = any_each (is_given_by x.deployment (start_world x.known) other) (λ (c : Cell). IsThere (t c))
      (reads_in (blanked t) a.0.reading) a.1.1 (reads_there x.deployment t a.0.reading known_of.0 known_of.1) in
      by_done v other c.one (done_status (p.status v)) is c.passes c.has refl

  ready_with : IsReadyWith x t p u task (body_of x t task)
  ready_with = record {
    is_free = record {
      waits_still = still;
      needs_done = λ v other is need. elim (or_cases (needs_first x task other) (needs_by_values x t task other) need) [
        | inl g ↦ done_first v other is g
        | inr g ↦ by_values v other is g
      ];
    };
    has_values = all_told x.deployment t (task_values x.deployment task) faultless;
    has_body = refl;
  }

  pub is_ready : readiness x t p.status u task ≡ ready (body_of x t task)
  is_ready = says_ready x t p u task (body_of x t task) ready_with
