-- The readiness of a task, and what it says.
use Rattle.std.proofs.Common.{◌≡◌, inl, inr, ℕ, zero, suc, ◌<◌, Bool, true, false, true≢false, List, [], ◌∷◌, ◌++◌}
use Rattle.std.proofs.Common.{Option, Some, None, refl, sym, ap, subst, ◌∙◌, arith}
use Rattle.std.specs.Prelude.{◌&&◌, ◌||◌, not, slice_get, option_map, if◌then◌else◌}
use Rattle.std.specs.List.{list_any}
use Rattle.std.proofs.lemmas.Option.{same_Some}
use Rattle.arm_value.specs.Json.{Json}
use Rattle.reading.specs.World.{reads_in}
use Rattle.reading.specs.Knowledge.{Known, known, absent, missing, Told, value, no_value, waits, told, known_value}
use Rattle.reading.specs.Knowledge.{blanked, Holds, Completes, Stays, Grows, IsFinal, Means, IsToldStill}
use Rattle.reading.proofs.Completion.{told_means}
use Rattle.reading.proofs.Growth.{told_still}
use Rattle.deploy_cells.specs.Cells.{Cell}
use Rattle.deploy_cells.specs.Guarded.{Reads}
use Rattle.plan_cells.specs.Known.{Table}
use Rattle.plan_cells.specs.Meaning.{Deployment, meaning}
use Rattle.plan_cells.specs.Start.{start_world, at_point}
use Rattle.plan_cells.specs.Tasks.{Task, enter, leave, put, delete}
use Rattle.plan_cells.specs.Reads.{is_given_by}
use Rattle.plan_cells.specs.Children.{Has}
use Rattle.plan_cells.proofs.KnownLemmas.{has_known, one_entry}
use Rattle.deploy_histories.specs.Planned.{Planned, basis, first_task}
use Rattle.deploy_histories.specs.Events.{Status, is_waiting, is_begun, is_done, Progress, done_status}
use Rattle.deploy_histories.specs.Points.{IsKnownThen, IsTableOf, point}
use Rattle.deploy_histories.specs.Values.{Part, a_body, TaskValue, task_values, body_reading, reads_from, value_or_null}
use Rattle.deploy_histories.specs.Values.{body_of}
use Rattle.deploy_histories.specs.Readiness.{Fault, needs_task, at_fault, ready, fault_of_part}
use Rattle.deploy_histories.specs.Readiness.{fault_or, first_fault, needs_first, needs_now, first_undone, by_fault}
use Rattle.deploy_histories.specs.Readiness.{by_need, by_status, readiness, IsFree, IsReadyWith, IsHeldUp, IsUnknown}
use Rattle.deploy_histories.specs.Readiness.{IsAtFault}

pub same_table : (x : Planned) (p : Progress) (s t : Table) → IsTableOf x p s → IsTableOf x p t → s ≡ t
same_table x p s t i j =
    λ k. λ c. one_entry (meaning x.deployment) (at_point (basis x) (point x p.status)) s t i j c k

-- ---- the first task that passes a test

-- it passes, and no earlier one does
pub record IsFirst (test : ℕ → Task → Bool) (ts : List Task) (v : ℕ) : Type 0 where
  pub found : Task
  pub has : slice_get ts v ≡ Some found
  pub passes : test v found ≡ true
  pub before : (i : ℕ) (t : Task) → i < v → slice_get ts i ≡ Some t → test i t ≡ false

abbrev NonePasses : (ℕ → Task → Bool) → List Task → Type 0
NonePasses test ts = (i : ℕ) (t : Task) → slice_get ts i ≡ Some t → test i t ≡ false

abbrev later : (ℕ → Task → Bool) → ℕ → Task → Bool
later test n u = test (suc n) u

first_by : (test : ℕ → Task → Bool) (t : Task) (ts : List Task) (v : ℕ) (b : Bool) (o : Option ℕ) → test zero t ≡ b
    → ((w : ℕ) → o ≡ Some w → IsFirst (later test) ts w)
    → (if b then Some zero else option_map (λ n. suc n) o) ≡ Some v → IsFirst test (t ∷ ts) v
first_by test t ts v true o b rest e =
    subst (λ (n : ℕ). IsFirst test (t ∷ ts) n) (same_Some zero v e)
    (record { found = t; has = refl; passes = b; before = λ i u h f. absurd (omega arith) })
first_by test t ts v false None b rest e = cc
first_by test t ts v false (Some w) b rest e =
    subst (λ (n : ℕ). IsFirst test (t ∷ ts) n) (same_Some (suc w) v e) (after_one (rest w refl))
  where
    after_one : IsFirst (later test) ts w → IsFirst test (t ∷ ts) (suc w)
    after_one f = record {
      found = f.found;
      has = f.has;
      passes = f.passes;
      before = earlier f;
    }
      where
        earlier : IsFirst (later test) ts w → (i : ℕ) (u : Task) → i < suc w → slice_get (t ∷ ts) i ≡ Some u
            → test i u ≡ false
        earlier g zero u h e = ap (test zero) (sym (same_Some t u e)) ∙ b
        earlier g (suc i) u h e = g.before i u (omega arith) e

pub first_is : (test : ℕ → Task → Bool) (ts : List Task) (v : ℕ) → first_task test ts ≡ Some v → IsFirst test ts v
first_is test [] v e = cc
first_is test (t ∷ ts) v e =
    first_by test t ts v (test zero t) (first_task (later test) ts) refl (λ w h. first_is (later test) ts w h) e

none_by : (test : ℕ → Task → Bool) (t : Task) (ts : List Task) (b : Bool) (o : Option ℕ) → test zero t ≡ b
    → (o ≡ None → NonePasses (later test) ts) → (if b then Some zero else option_map (λ n. suc n) o) ≡ None
    → NonePasses test (t ∷ ts)
none_by test t ts true o b rest e i u h = cc
none_by test t ts false (Some w) b rest e i u h = cc
none_by test t ts false None b rest e zero u h = ap (test zero) (sym (same_Some t u h)) ∙ b
none_by test t ts false None b rest e (suc i) u h = rest refl i u h

pub none_is : (test : ℕ → Task → Bool) (ts : List Task) → first_task test ts ≡ None → NonePasses test ts
none_is test [] e i u h = cc
none_is test (t ∷ ts) e i u h =
    none_by test t ts (test zero t) (first_task (later test) ts) refl (λ f. none_is (later test) ts f) e i u h

pub is_none : (test : ℕ → Task → Bool) (ts : List Task) → NonePasses test ts → first_task test ts ≡ None
is_none test [] n = refl
is_none test (t ∷ ts) n =
    by_head (test zero t) (n zero t refl) (is_none (later test) ts (λ i u h. n (suc i) u h))
  where
    by_head : (b : Bool) → b ≡ false → {o : Option ℕ} → o ≡ None
        → (if b then Some zero else option_map (λ n. suc n) o) ≡ None
    by_head b e f = rw e (ap (option_map (λ n. suc n)) f)

pub is_first : (test : ℕ → Task → Bool) (ts : List Task) (v : ℕ) → IsFirst test ts v → first_task test ts ≡ Some v
is_first test [] v f = let h = f.has in cc
is_first test (t ∷ ts) zero f =
    ap (λ (b : Bool). if b then Some zero else option_map (λ n. suc n) (first_task (later test) ts))
    (ap (test zero) (same_Some t f.found f.has) ∙ f.passes)
is_first test (t ∷ ts) (suc v) f =
    ap (λ (b : Bool). if b then Some zero else option_map (λ n. suc n) (first_task (later test) ts))
    (f.before zero t (omega arith) refl)
    ∙ ap (option_map (λ n. suc n))
    (is_first (later test) ts v (record {
      found = f.found;
      has = f.has;
      passes = f.passes;
      before = λ i u h e. f.before (suc i) u (omega arith) e;
    }))

-- ---- the parts of the word

both_true : (a b : Bool) → (not a && b) ≡ true → (a ≡ false) × (b ≡ true)
both_true true b e = absurd (true≢false (sym e))
both_true false b e = (refl, e)

one_false : (a b : Bool) → (not a && b) ≡ false → b ≡ true → a ≡ true
one_false true b e f = refl
one_false false b e f = absurd (true≢false (sym f ∙ e))

if_done : (a b : Bool) → (b ≡ true → a ≡ true) → (not a && b) ≡ false
if_done true b h = refl
if_done false true h = absurd (true≢false (sym (h refl)))
if_done false false h = refl

-- what the word says of its parts
record IsReadyBy (s : Status) (need : Option ℕ) (fault : Option Fault) (b body : Json) : Type 0 where
  still : s ≡ is_waiting
  needless : need ≡ None
  faultless : fault ≡ None
  same : b ≡ body

ready_by : (s : Status) (need : Option ℕ) (fault : Option Fault) (b body : Json)
    → by_status s (by_need need (by_fault fault b)) ≡ ready body → IsReadyBy s need fault b body
ready_by (is_done o) need fault b body e = cc
ready_by (is_begun w j) need fault b body e = cc
ready_by is_waiting (Some v) fault b body e = cc
ready_by is_waiting None (Some f) b body e = cc
ready_by is_waiting None None b body e =
    record { still = refl; needless = refl; faultless = refl; same = same_body e }
  where
    same_body : ready b ≡ ready body → b ≡ body
    same_body h = cc

held_by : (s : Status) (need : Option ℕ) (r : Option Fault) (b : Json) (v : ℕ)
    → by_status s (by_need need (by_fault r b)) ≡ needs_task v → (s ≡ is_waiting) × (need ≡ Some v)
held_by (is_done o) need r b v e = cc
held_by (is_begun w j) need r b v e = cc
held_by is_waiting (Some u) r b v e = (refl, same_need e)
  where
    same_need : needs_task u ≡ needs_task v → Some u ≡ Some v
    same_need h = cc
held_by is_waiting None (Some f) b v e = cc
held_by is_waiting None None b v e = cc

module _ (d : Deployment) (t : Table) where
  fault_by : (a : Part) (r : Told Cell (Option Json)) (rest : Option Fault) → fault_or d t a r rest ≡ None
      → ((o : Option Json) × (r ≡ value o)) × (rest ≡ None)
  fault_by a (value o) rest e = ((o, refl), e)
  fault_by a no_value rest e = cc
  fault_by a (waits c) rest e = cc

  all_told : (more : List TaskValue) → first_fault d t more ≡ None → (a : TaskValue) → Has a more
      → (o : Option Json) × (told t a.reading ≡ value o)
  all_told [] e a h = absurd h
  all_told (b ∷ more) e a h =
      let f = fault_by b.part (told t b.reading) (first_fault d t more) e in
      elim h [
        | inl g ↦ subst (λ (z : TaskValue). (o : Option Json) × (told t z.reading ≡ value o)) g f.0
        | inr g ↦ all_told more f.1 a g
      ]

  no_fault : (more : List TaskValue) → ((a : TaskValue) → Has a more → (o : Option Json) × (told t a.reading ≡ value o))
      → first_fault d t more ≡ None
  no_fault [] all = refl
  no_fault (a ∷ more) all =
      let h = all a (inl refl) in
      ap (λ (r : Told Cell (Option Json)). fault_or d t a.part r (first_fault d t more)) h.1
      ∙ no_fault more (λ b g. all b (inr g))

module _ (x : Planned) (t : Table) (p : Progress) (u : ℕ) (task : Task) where
  abbrev undone_test : ℕ → Task → Bool
  undone_test n v = not (done_status (p.status n)) && needs_now x t task v

  free_of : p.status u ≡ is_waiting → first_undone x t p.status task ≡ None → IsFree x t p u task
  free_of s e = record {
    waits_still = s;
    needs_done = λ v other is need.
        one_false (done_status (p.status v)) (needs_now x t task other) (none_is undone_test x.tasks e v other is) need;
  }

  free_back : IsFree x t p u task → first_undone x t p.status task ≡ None
  free_back f =
      is_none undone_test x.tasks
      (λ v other is. if_done (done_status (p.status v)) (needs_now x t task other) (f.needs_done v other is))

  pub ready_says : (body : Json) → readiness x t p.status u task ≡ ready body → IsReadyWith x t p u task body
  ready_says body e =
      let parts = ready_by (p.status u) (first_undone x t p.status task)
      (first_fault x.deployment t (task_values x.deployment task)) (body_of x t task) body e in
      record {
        is_free = free_of parts.still parts.needless;
        has_values = all_told x.deployment t (task_values x.deployment task) parts.faultless;
        has_body = parts.same;
      }

  pub says_ready : (body : Json) → IsReadyWith x t p u task body → readiness x t p.status u task ≡ ready body
  says_ready body r =
      let needless = free_back r.is_free in
      let faultless = no_fault x.deployment t (task_values x.deployment task) r.has_values in
      ap (λ (s : Status). by_status s (by_need (first_undone x t p.status task) (by_fault
      (first_fault x.deployment t (task_values x.deployment task)) (body_of x t task)))) r.is_free.waits_still
      ∙ (ap (λ (o : Option ℕ). by_need o (by_fault
      (first_fault x.deployment t (task_values x.deployment task)) (body_of x t task))) needless
      ∙ (ap (λ (o : Option Fault). by_fault o (body_of x t task)) faultless ∙ ap ready r.has_body))

  pub need_says : (v : ℕ) → readiness x t p.status u task ≡ needs_task v → IsHeldUp x t p u task v
  need_says v e =
      let parts = held_by (p.status u) (first_undone x t p.status task)
      (first_fault x.deployment t (task_values x.deployment task)) (body_of x t task) v e in
      let f = first_is undone_test x.tasks v parts.1 in
      let both = both_true (done_status (p.status v)) (needs_now x t task f.found) f.passes in
      record {
        waits_still = parts.0;
        other = f.found;
        is_task = f.has;
        is_needed = both.1;
        is_undone = both.0;
        is_first = λ w earlier less is need.
            one_false (done_status (p.status w)) (needs_now x t task earlier) (f.before w earlier less is) need;
      }

  pub says_need : (v : ℕ) → IsHeldUp x t p u task v → readiness x t p.status u task ≡ needs_task v
  says_need v h =
      let first : first_undone x t p.status task ≡ Some v = is_first undone_test x.tasks v (record {
        found = h.other;
        has = h.is_task;
        passes = passing (done_status (p.status v)) (needs_now x t task h.other) h.is_undone h.is_needed;
        before = λ i other less is.
            if_done (done_status (p.status i)) (needs_now x t task other) (h.is_first i other less is);
      }) in
      ap (λ (s : Status). by_status s (by_need (first_undone x t p.status task) (by_fault
      (first_fault x.deployment t (task_values x.deployment task)) (body_of x t task)))) h.waits_still
      ∙ ap (λ (o : Option ℕ). by_need o (by_fault
      (first_fault x.deployment t (task_values x.deployment task)) (body_of x t task))) first
    where
      passing : (a b : Bool) → a ≡ false → b ≡ true → (not a && b) ≡ true
      passing true b e f = cc
      passing false b e f = f

-- ---- faults

fault_said : (s : Status) (need : Option ℕ) (r : Option Fault) (b : Json) (f : Fault)
    → by_status s (by_need need (by_fault r b)) ≡ at_fault f → (s ≡ is_waiting) × ((need ≡ None) × (r ≡ Some f))
fault_said (is_done o) need r b f e = cc
fault_said (is_begun w j) need r b f e = cc
fault_said is_waiting (Some v) r b f e = cc
fault_said is_waiting None (Some g) b f e = (refl, (refl, same_fault e))
  where
    same_fault : at_fault g ≡ at_fault f → Some g ≡ Some f
    same_fault h = cc
fault_said is_waiting None None b f e = cc

module _ (x : Planned) (t : Table) where
  abbrev Unknown : List TaskValue → Fault → Type 0
  Unknown vs f = (a : TaskValue) × (IsUnknown x t vs a × (fault_of_part x.deployment t a.part ≡ f))

  unknown_later : (a : TaskValue) (vs : List TaskValue) (f : Fault) (o : Option Json) → told t a.reading ≡ value o
      → Unknown vs f → Unknown (a ∷ vs) f
  unknown_later a vs f o e u = (
    u.0,
    (
      record {
        front = a ∷ u.1.0.front;
        rest = u.1.0.rest;
        is = ap (λ (r : List TaskValue). a ∷ r) u.1.0.is;
        before = λ b h. elim h [
          | inl i ↦ subst (λ (z : TaskValue). (o : Option Json) × (told t z.reading ≡ value o)) i (o, e)
          | inr i ↦ u.1.0.before b i
        ];
        here = u.1.0.here;
      },
      u.1.1,
    ),
  )

  unknown_here : (a : TaskValue) (vs : List TaskValue) (f : Fault)
      → ((o : Option Json) → told t a.reading ≡ value o → ⊥) → Some (fault_of_part x.deployment t a.part) ≡ Some f
      → Unknown (a ∷ vs) f
  unknown_here a vs f n e = (
    a,
    (
      record {
        front = [];
        rest = vs;
        is = refl;
        before = λ b h. absurd h;
        here = n;
      },
      same_Some (fault_of_part x.deployment t a.part) f e,
    ),
  )

  never_none : (o : Option Json) (z : Told Cell (Option Json)) → z ≡ no_value → z ≡ value o → ⊥
  never_none o z e f = cc

  never_waits : (o : Option Json) (c : Cell) (z : Told Cell (Option Json)) → z ≡ waits c → z ≡ value o → ⊥
  never_waits o c z e f = cc

  by_first : (a : TaskValue) (vs : List TaskValue) (f : Fault) (r : Told Cell (Option Json)) → told t a.reading ≡ r
      → (first_fault x.deployment t vs ≡ Some f → Unknown vs f)
      → fault_or x.deployment t a.part r (first_fault x.deployment t vs) ≡ Some f → Unknown (a ∷ vs) f
  by_first a vs f (value o) e more h = unknown_later a vs f o e (more h)
  by_first a vs f no_value e more h = unknown_here a vs f (λ o g. never_none o (told t a.reading) e g) h
  by_first a vs f (waits c) e more h = unknown_here a vs f (λ o g. never_waits o c (told t a.reading) e g) h

  fault_is : (vs : List TaskValue) (f : Fault) → first_fault x.deployment t vs ≡ Some f → Unknown vs f
  fault_is [] f e = cc
  fault_is (a ∷ vs) f e = by_first a vs f (told t a.reading) refl (λ h. fault_is vs f h) e

  fault_there : (a : TaskValue) (rest : Option Fault) (r : Told Cell (Option Json)) → told t a.reading ≡ r
      → ((o : Option Json) → told t a.reading ≡ value o → ⊥)
      → fault_or x.deployment t a.part r rest ≡ Some (fault_of_part x.deployment t a.part)
  fault_there a rest (value o) e n = absurd (n o e)
  fault_there a rest no_value e n = refl
  fault_there a rest (waits c) e n = refl

  fault_back : (front : List TaskValue) (a : TaskValue) (rest : List TaskValue)
      → ((b : TaskValue) → Has b front → (o : Option Json) × (told t b.reading ≡ value o))
      → ((o : Option Json) → told t a.reading ≡ value o → ⊥)
      → first_fault x.deployment t (front ++ a ∷ rest) ≡ Some (fault_of_part x.deployment t a.part)
  fault_back [] a rest before here =
      fault_there a (first_fault x.deployment t rest) (told t a.reading) refl here
  fault_back (b ∷ front) a rest before here =
      let h = before b (inl refl) in
      ap (λ (r : Told Cell (Option Json)). fault_or x.deployment t b.part r
      (first_fault x.deployment t (front ++ a ∷ rest))) h.1
      ∙ fault_back front a rest (λ c i. before c (inr i)) here

module _ (x : Planned) (t : Table) (p : Progress) (u : ℕ) (task : Task) where
  pub fault_says : (f : Fault) → readiness x t p.status u task ≡ at_fault f → IsAtFault x t p u task f
  fault_says f e =
      let parts = fault_said (p.status u) (first_undone x t p.status task)
      (first_fault x.deployment t (task_values x.deployment task)) (body_of x t task) f e in
      let a = fault_is x t (task_values x.deployment task) f parts.1.1 in
      record {
        is_free = free_of x t p u task parts.0 parts.1.0;
        unknown = a.0;
        is_unknown = a.1.0;
        has_fault = a.1.1;
      }

  pub says_fault : (f : Fault) → IsAtFault x t p u task f → readiness x t p.status u task ≡ at_fault f
  says_fault f h =
      let needless = free_back x t p u task h.is_free in
      let faulty : first_fault x.deployment t (task_values x.deployment task) ≡ Some f
      = ap (first_fault x.deployment t) h.is_unknown.is
      ∙ (fault_back x t h.is_unknown.front h.unknown h.is_unknown.rest h.is_unknown.before h.is_unknown.here
      ∙ ap Some h.has_fault) in
      ap (λ (s : Status). by_status s (by_need (first_undone x t p.status task) (by_fault
      (first_fault x.deployment t (task_values x.deployment task)) (body_of x t task)))) h.is_free.waits_still
      ∙ (ap (λ (o : Option ℕ). by_need o (by_fault
      (first_fault x.deployment t (task_values x.deployment task)) (body_of x t task))) needless
      ∙ ap (λ (o : Option Fault). by_fault o (body_of x t task)) faulty)

-- ---- more is known

module _ (q t : Table) (grows : Grows q t) where
  holds_more : (e f : Known Json) → Stays e f → Holds (known_value f) e
  holds_more (known v) f s = ap known_value s
  holds_more absent f s = ap known_value s
  holds_more missing f s = tt

  more_completes : Completes q (blanked t)
  more_completes c = holds_more (q c) (t c) (grows c)

  -- what was told stays, and so does what was read for it
  still_by : {A : Type 0} (r : Reads A) (s : Told Cell A) (o : A) → IsToldStill t r s → s ≡ value o
      → told t r ≡ value o
  still_by r s o h e = subst (λ (z : Told Cell _). IsToldStill t r z) e h

  still_told : {A : Type 0} (r : Reads A) (o : A) → told q r ≡ value o → told t r ≡ value o
  still_told {A} r o e = still_by r (told q r) o (told_still Cell Json A q t grows r) e

  same_reads : {A : Type 0} (r : Reads A) (o : A) → told q r ≡ value o
      → reads_in (blanked t) r ≡ reads_in (blanked q) r
  same_reads {A} r o e =
      let f : IsFinal q r (Some o) = subst (λ (z : Told Cell A). Means q r z) e (told_means Cell Json A q r) in
      (f.everywhere (blanked t) more_completes).1

any_same : {A : Type 0} (f g : A → Bool) (xs : List A) → ((a : A) → Has a xs → f a ≡ g a)
    → list_any f xs ≡ list_any g xs
any_same f g [] h = refl
any_same f g (x ∷ xs) h =
    ap (λ b. b || list_any f xs) (h x (inl refl)) ∙ ap (λ b. g x || b) (any_same f g xs (λ a i. h a (inr i)))

module _ (x : Planned) (q t : Table) (grows : Grows q t) (p : Progress) (u : ℕ) (task : Task) (body : Json)
    (r : IsReadyWith x q p u task body) where
  same_needs : (other : Task) → needs_now x t task other ≡ needs_now x q task other
  same_needs other =
      ap (λ b. needs_first x task other || b)
      (any_same (reads_from x t other) (reads_from x q other) (task_values x.deployment task) (λ a h.
      let v = r.has_values a h in
      ap (list_any (λ c. is_given_by x.deployment (start_world x.known) other c))
      (same_reads q t grows a.reading v.0 v.1)))

  body_by : (k : Task) → ((a : TaskValue) → Has a (task_values x.deployment k)
      → (o : Option Json) × (told q a.reading ≡ value o)) → body_of x t k ≡ body_of x q k
  body_by (put at s) h =
      let v = h (record { part = a_body; reading = body_reading x.deployment at s }) (inl refl) in
      ap value_or_null (still_told q t grows (body_reading x.deployment at s) v.0 v.1 ∙ sym v.1)
  body_by (enter at) h = refl
  body_by (leave at) h = refl
  body_by (delete k) h = refl

  ready_still : IsReadyWith x t p u task body
  ready_still = record {
    is_free = record {
      waits_still = r.is_free.waits_still;
      needs_done = λ v other is e. r.is_free.needs_done v other is (sym (same_needs other) ∙ e);
    };
    has_values = λ a h. let v = r.has_values a h in (v.0, still_told q t grows a.reading v.0 v.1);
    has_body = body_by task r.has_values ∙ r.has_body;
  }

module _ (x : Planned) (p : Progress) (s t : Table) (known_then : IsKnownThen x p s) (all : IsTableOf x p t) where
  stays_by : (c : Cell) (e : Known Json) → s c ≡ e → Stays e (t c)
  stays_by c (known v) e =
      has_known (meaning x.deployment) (at_point (basis x) (point x p.status)) t all c (Some v)
      (known_then c (Some v) e)
  stays_by c absent e =
      has_known (meaning x.deployment) (at_point (basis x) (point x p.status)) t all c None (known_then c None e)
  stays_by c missing e = tt

  pub table_grows : Grows s t
  table_grows c = stays_by c (s c) refl

  pub ready_by_table : (u : ℕ) (task : Task) (body : Json) → readiness x s p.status u task ≡ ready body
      → readiness x t p.status u task ≡ ready body
  ready_by_table u task body e =
      says_ready x t p u task body (ready_still x s t table_grows p u task body (ready_says x s p u task body e))
