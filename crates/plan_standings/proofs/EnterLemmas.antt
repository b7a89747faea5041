-- The readiness of the entry of a scope, by what its parameters and variables were told to be.
use Rattle.std.proofs.Common.{◌≡◌, ◌⊎◌, inl, inr, ℕ, suc, ◌<◌, ◌-◌, ◌^◌, Bool, true, false, not, List, [], ◌∷◌}
use Rattle.std.proofs.Common.{length, Option, Some, None, refl, sym, ap, subst, ◌∙◌, true≢false, arith}
use Rattle.std.proofs.lemmas.List.{length-map}
use Rattle.std.specs.Prelude.{slice_get, Result, Ok, Err, IfOk, if◌then◌else◌}
use Rattle.std.specs.declared.alloc.AllocError.{AllocError}
use Rattle.deploy_cells.proofs.SameLemmas.{position_same}
use Rattle.arm_value.specs.Json.{Json, null}
use Rattle.arm_value.specs.View.{json}
use Rattle.arm_value.specs.declared.value.Value.{Value}
use Rattle.arm_ids.specs.Held.{HeldResource}
use Rattle.arm_ids.specs.declared.id.ResourceId.{ResourceId}
use Rattle.reading.specs.Knowledge.{Told, absent, value, waits, told, Grows, IsThere}
use Rattle.deploy_cells.specs.Cells.{Step, Position, Cell, parameter, variable, offered, output, count, included, name}
use Rattle.deploy_cells.specs.Cells.{deployments, state}
use Rattle.deploy_cells.specs.Same.{same_position}
use Rattle.plan_cells.specs.Known as knowledge
use Rattle.plan_cells.specs.Known.{entry_told}
use Rattle.plan_cells.specs.Meaning.{Deployment, plain, is_own}
use Rattle.plan_cells.specs.Scopes.{owner, nested_of, is_outer}
use Rattle.plan_cells.specs.Tasks.{Task, enter, leave}
use Rattle.plan_cells.specs.Children.{Has, parameter_names, variable_names}
use Rattle.plan_cells.specs.Needs.{is_entered_by}
use Rattle.plan_cells.specs.Reads.{entry_cells}
use Rattle.plan_cells.proofs.ListLemmas.{has_map}
use Rattle.plan_filling.specs.Rows.{row_at}
use Rattle.plan_table.specs.declared.table.Table.{Table}
use Rattle.plan_table.specs.Opened.{opened_of, IsAround}
use Rattle.plan_table.specs.Whole.{whole_of, scopes_of, rows_in}
use Rattle.plan_table.specs.Found.{scope_at}
use Rattle.plan_sight.specs.Ready.{IsReady}
use Rattle.plan_sight.specs.declared.lack.Lack.{Lack}
use Rattle.plan_sight.specs.declared.lack.Lack.TheVariants as lack
use Rattle.plan_sight.specs.Seen.{Lacks}
use Rattle.task_aims.specs.Plan.{Plan}
use Rattle.task_aims.specs.Task.TheVariants.{Enter}
use Rattle.task_aims.specs.Plans.{deployment_of}
use Rattle.task_aims.specs.Numbered.{TaskNumbers as Numbers}
use Rattle.deploy_histories.specs.Planned.{Planned}
use Rattle.deploy_histories.specs.Events.{Event, Progress, progress, IsDone, is_waiting}
use Rattle.deploy_histories.specs.Values.{task_values, body_of, demanded, entry_value}
use Rattle.deploy_histories.specs.Readiness.{first_fault, needs_first, readiness, ready}
use Rattle.task_aims.specs.Planned.{planned_by}
use Rattle.point_values.specs.Seen.{IsSeen}
use Rattle.point_rows.specs.declared.later.Later.{Later}
use Rattle.point_rows.specs.Rows.{known_now}
use Rattle.scope_faults.specs.Entries.{plain_now, own_of, IsSettled, IsCircle, WaitsForState, WaitsForLine, HasNothing}
use Rattle.scope_faults.specs.Entries.{line_cell}
use Rattle.scope_faults.proofs.OwnLemmas.{own_cell}
use Rattle.awaited_cells.specs.Awaited.{MaySee, MaySeeAround}
use Rattle.awaited_cells.proofs.ValueLemmas.{entries_await}
use Rattle.task_standings.specs.Standings.{IsStanding, IsScopeSeen, IsNone, Enters}
use Rattle.task_standings.specs.declared.standing.Standing.{Standing}
use Rattle.task_standings.specs.declared.standing.Standing.TheVariants.{Ready, Stuck}
use Rattle.task_standings.specs.declared.standing.Standing.TheVariants as standing
use Rattle.plan_standings.specs.Waits.{table_of, IsNext, IsAtPoint, IsEntered, IsInSight, HasStates}
use Rattle.plan_standings.specs.Answers.{IsLacking, IsUnready, IsOneMore, IsAnswer}
use Rattle.plan_standings.proofs.NumberedLemmas.{planned_task, entered_before, start_entered}
use Rattle.plan_standings.proofs.WaitLemmas.{in_sight}
use Rattle.plan_standings.proofs.AnswerLemmas.{start_of_plan}
use Rattle.plan_standings.proofs.StateLemmas.{kept_on, fewer_left}
use Rattle.point_rows.proofs.GrowthLemmas.{stays, stays_after}
use Rattle.scope_faults.specs.Entries.{AreTold, Goes}
use Rattle.scope_faults.proofs.GoesLemmas.{told_with_states}
use Rattle.plan_standings.specs.Entering.{HasMore, IsEntryLook}
use Rattle.plan_standings.proofs.DemandLemmas.{demanded_waits, demanded_nothing, no_fault}
use Rattle.plan_standings.proofs.CircleLemmas.{never}

-- ---- the scope whose parameters and variables a scope sees

if_not : {A : Type 0} (b : Bool) (x y : A) → not b ≡ true → (if b then x else y) ≡ y
if_not true x y e = absurd (true≢false (sym e))
if_not false x y e = refl

if_so : {A : Type 0} (b : Bool) (x y : A) → not b ≡ false → (if b then x else y) ≡ x
if_so true x y e = refl
if_so false x y e = absurd (true≢false e)

module _ (d : Deployment) where
  own_owner : (q : Position) → is_own d q ≡ true → owner d.template q ≡ q
  unfolding owner
  own_owner [] e = refl
  own_owner (s ∷ q) e = if_not (is_outer (nested_of d.template q s)) (owner d.template q) (s ∷ q) e

  outer_owner : (s : Step) (q : Position) → is_own d (s ∷ q) ≡ false → owner d.template (s ∷ q) ≡ owner d.template q
  unfolding owner
  outer_owner s q e = if_so (is_outer (nested_of d.template q s)) (owner d.template q) (s ∷ q) e

  -- what is awaited is in sight, where it is no parameter or variable of the scope
  around_sight : (k : knowledge.Table) (q : Position) → is_own d q ≡ true → (c : Cell)
      → (Has c (entry_cells d q) → ⊥) → MaySee d q c → IsInSight d k c
  around_sight k q o (parameter r y) n h =
      absurd (n (subst (λ (z : Position). Has (parameter r y) (entry_cells d z)) (own_owner q o) h))
  around_sight k q o (variable r y) n h =
      absurd (n (subst (λ (z : Position). Has (variable r y) (entry_cells d z)) (own_owner q o) h))
  around_sight k q o (offered r y) n h = h
  around_sight k q o (output r y) n h = h
  around_sight k q o (count r m) n h = tt
  around_sight k q o (included r s) n h = tt
  around_sight k q o (name r s) n h = tt
  around_sight k q o (deployments r) n h = tt
  around_sight k q o (state i) n h = tt

-- ---- the entry of a scope

module _ (g : Plan) (held : List HeldResource) (n : Numbers) (h : List Event) (l : Later)
    (at : IsAtPoint g held n h l) (f : ℕ) (there : f < length (table_of g).frames.items) (u : ℕ)
    (next : IsNext g held h u (Enter f)) where
  abbrev x : Planned
  x = planned_by g held

  abbrev t : Table
  t = table_of g

  abbrev p : Progress
  p = progress h

  abbrev d : Deployment
  d = deployment_of g

  abbrev k : knowledge.Table
  k = known_now t l

  abbrev q : Position
  q = (scope_at t f).position

  pub ready_table : IsReady t
  ready_table = record {
    laid = at.under_way.is_planned.table.laid;
    sound = at.under_way.is_planned.table.filled.sound;
  }

  pub is_task : slice_get x.tasks u ≡ Some (enter q)
  is_task = planned_task (scopes_of t) g.tasks.items u (Enter f) next.is_task

  -- what holds of what the table deploys holds of what is deployed
  abbrev pub whole : whole_of t ≡ d
  whole = at.under_way.is_planned.whole

  -- ---- the scope around

  frame_listed : (i : ℕ) → i < length t.frames.items → i < length (scopes_of t)
  frame_listed i b = let m = length-map t.frames.items opened_of in omega (arith, m, b)

  around_of : (s : Step) (r : Position) → q ≡ s ∷ r → IsAround (scopes_of t) f (scope_at t f) (s ∷ r)
  around_of s r e =
      subst (IsAround (scopes_of t) f (scope_at t f)) e
      (ready_table.laid.kept f (frame_listed f there)).around

  around_entered : (s : Step) (r : Position) → q ≡ s ∷ r → IsEntered x p r
  around_entered s r e =
      let a = around_of s r e in
      let b = a.0 in
      let o = (scope_at t (scope_at t f).around).position in
      subst (IsEntered x p) a.1
      (start_entered x t g.tasks.items g.keys.items refl at.under_way.numbers.of_scopes p u (enter q) is_task
      next.needs_done (scope_at t f).around (omega (arith, b, there))
      (entered_before d (enter q) (enter o)
      (subst (λ (z : Position). is_entered_by d (enter z) (enter o) ≡ true) (sym e)
      (subst (λ (z : Position). same_position o z ≡ true) a.1 (position_same o)))))

  own_is : (scope_at t f).is_own ≡ is_own d q
  own_is =
      subst (λ (b : Deployment). (scope_at t f).is_own ≡ is_own b q) whole
      (ready_table.laid.kept f (frame_listed f there)).own

  -- ---- one that waits

  module _ (e : Cell) (is_cell : Has e (own_of t f)) where
    own_scope : is_own d q ≡ true
    own_scope = sym own_is ∙ (own_cell t f ready_table there e is_cell).0

    pub cell_listed : Has (entry_value d e) (task_values d (enter q))
    cell_listed =
        has_map (entry_value d) e (entry_cells d q)
        (subst (λ (b : Deployment). Has e (entry_cells b q)) whole is_cell)

    around_by : (r : Position) → q ≡ r → (c : Cell) → (Has c (entry_cells d r) → ⊥) → is_own d r ≡ true
        → MaySeeAround d r c → IsInSight d k c
    around_by [] a c other o m = around_sight d k [] o c other m
    around_by (s ∷ r) a c other o (inl m) = around_sight d k (s ∷ r) o c other m
    around_by (s ∷ r) a c other o (inr m) =
        in_sight x p t l at.under_way.has_histories (start_of_plan g held n h l at) at.kept r (around_entered s r a) c m

    pub sight_of : (s : knowledge.Table) (c : Cell) → (Has c (own_of t f) → ⊥) → told s (plain d e) ≡ waits c
        → IsInSight d k c
    sight_of s c other w =
        around_by q refl c
        (λ i. other (subst (λ (b : Deployment). Has c (entry_cells b q)) (sym whole) i)) own_scope
        (entries_await d s q e c (subst (λ (b : Deployment). Has e (entry_cells b q)) whole is_cell) w)

    abbrev awaiting : Cell → Told Cell (Option Json)
    awaiting c = waits c

    same_awaited : (c b : Cell) → awaiting c ≡ awaiting b → c ≡ b
    same_awaited c b w = cc

    pub waits_lacking : (c : Cell) (z : Lack) → plain_now t l e ≡ waits c → (Has c (own_of t f) → ⊥)
        → Lacks {A = Json} t z (waits c) → IsLacking g held h l (enter q) z
    waits_lacking c z w other lacks =
        let awaited : told k (plain d e) ≡ waits c
        = subst (λ (b : Deployment). told k (plain b e) ≡ waits c) whole w in
        let demands : told k (demanded (plain d e)) ≡ waits c = demanded_waits k (plain d e) c awaited in
        record {
          lacking = entry_value d e;
          is_value = cell_listed;
          lacks = subst (λ u. Lacks t z u) (sym demands) lacks;
          in_sight = λ b i.
              subst (λ (a : Cell). IsInSight d k a) (same_awaited c b (sym demands ∙ i)) (sight_of k c other awaited);
        }

  not_state : (i : ResourceId) → Has (state i) (own_of t f) → ⊥
  not_state i b = by_own (own_cell t f ready_table there (state i) b).1
    where
      by_own : ((y : List ℕ) × (Has y (parameter_names (scope_at t f).template) × (parameter q y ≡ state i)))
          ⊎ ((y : List ℕ) × (Has y (variable_names (scope_at t f).template) × (variable q y ≡ state i))) → ⊥
      by_own (inl a) = let no : parameter q a.0 ≡ state i = a.1.1 in cc
      by_own (inr a) = let no : variable q a.0 ≡ state i = a.1.1 in cc

  pub state_lacking : (i : ResourceId) → WaitsForState t l f i → IsLacking g held h l (enter q) (lack.State i)
  state_lacking i w = waits_lacking w.cell w.is_own (state i) (lack.State i) w.is_awaited (not_state i) refl

  pub line_lacking : (j : ℕ) → WaitsForLine t l f j → IsLacking g held h l (enter q) (lack.Line j)
  line_lacking j w =
      waits_lacking w.cell w.is_own (row_at (rows_in t) j).cell (lack.Line j) w.is_awaited w.is_other
      (w.listed, refl)

  -- ---- one without a value

  stuck_by : (e : Cell) → Has e (own_of t f) → IsNone x p (told k (demanded (plain d e)))
      → IsStanding x p k u Stuck
  stuck_by e is_cell none = record {
    task = enter q;
    is_task = is_task;
    stands_as = record { lacking = entry_value d e; is_value = cell_listed e is_cell; is_none = none };
  }

  pub nothing_stands : (j : ℕ) → HasNothing t l f j → IsStanding x p k u Stuck
  nothing_stands j b =
      stuck_by (line_cell t j) b.is_own
      (subst (λ z. IsNone x p z) (sym (demanded_nothing k (plain d (line_cell t j))
      (subst (λ (a : Deployment). entry_told (told k (plain a (line_cell t j))) ≡ absent) whole b.is_nothing))) tt)

  pub circle_stands : (c : Cell) → IsCircle false t l f c → IsStanding x p k u Stuck
  circle_stands c b =
      let w = b.awaits c b.has in
      stuck_by c (b.own c b.has)
      (subst (λ z. IsNone x p z) (sym (demanded_waits k (plain d c) w.0
      (subst (λ (a : Deployment). told k (plain a c) ≡ waits w.0) whole w.1.1)))
      (λ j o more i. never x p t l (sym whole) at.kept.seen.known_then f ready_table there b.cells b.own b.awaits j more
      w.0 o i w.1.0))

  -- ---- all have values

  module _ (settled : (c : Cell) → Has c (own_of t f) → IsSettled t l c) where
    settled_here : (c : Cell) → Has c (entry_cells d q) → IsSettled t l c
    settled_here c i = settled c (subst (λ (b : Deployment). Has c (entry_cells b q)) (sym whole) i)

    told_here : (c : Cell) → Has c (entry_cells d q) → (j : Json) × (told k (plain d c) ≡ value (Some j))
    told_here c i =
        let s = settled_here c i in
        (s.has, subst (λ (b : Deployment). told k (plain b c) ≡ value (Some s.has)) whole s.is_told)

    pub settled_stands : ((x : Planned) (p : Progress) (s : knowledge.Table) → IsSeen x p s → (w : ℕ) (task : Task)
        → p.status w ≡ is_waiting
        → ((j : ℕ) (other : Task) → slice_get x.tasks j ≡ Some other → needs_first x task other ≡ true → IsDone p j)
        → first_fault x.deployment s (task_values x.deployment task) ≡ None
        → readiness x s p.status w task ≡ ready (body_of x s task))
        → (v : Value) → json v ≡ null → IsStanding x p k u (Ready v)
    settled_stands law v e = record {
      task = enter q;
      is_task = is_task;
      stands_as = (
        law x p k at.kept.seen u (enter q) next.waits_still
            (λ j other has needs. next.needs_done (enter q) j other is_task has needs)
            (no_fault d k (entry_cells d q) told_here)
            ∙ ap ready (sym e),
        tt,
      );
    }

    same_enter : (a b : Position) → Some (enter a) ≡ Some (enter b) → a ≡ b
    same_enter a b e = cc

    not_leave : (a b : Position) → Some (enter a) ≡ Some (leave b) → ⊥
    not_leave a b e = cc

    -- what the scope sees
    seen_by : (r : Position) → q ≡ r → (b : Bool) → is_own d r ≡ b → (c : Cell)
        → Has c (entry_cells d (owner d.template r)) → IsThere (k c)
    seen_by r e true o c i =
        (settled_here c (subst (λ (z : Position). Has c (entry_cells d z)) (own_owner d r o ∙ sym e) i)).is_there
    seen_by [] e false o c i = absurd (true≢false o)
    seen_by (s ∷ r) e false o c i =
        let a = around_entered s r e in
        (at.kept.scopes a.number a.is_done).entered r a.is_task c
        (subst (λ (z : Position). Has c (entry_cells d z)) (outer_owner d s r o) i)

    pub scope_seen : IsScopeSeen x k u
    scope_seen = record {
      entered = λ r has c i.
          seen_by q refl (is_own d q) refl c
          (subst (λ (z : Position). Has c (entry_cells d (owner d.template z)))
          (sym (same_enter q r (sym is_task ∙ has))) i);
      left = λ r y z has a b. absurd (not_leave q r (sym is_task ∙ has));
    }

  -- what was answered of the entry
  pub look_answered : (m : Later) (o : Option Standing) → IsAnswer g held h l m u (enter q) o
      → IsEntryLook g held h l m u o
  look_answered m None a = tt
  look_answered m (Some s) a =
      (record { task = enter q; is_task = is_task; stands_as = a.1 }, λ e. absurd (never_enters s a.0 e))
    where
      never_enters : (s : Standing) → IsUnready s → Enters x u s → ⊥
      never_enters (Ready body) a e = a
      never_enters (standing.Waits v) a e = e
      never_enters Stuck a e = e

  pub look_result : (m : Later) (r : Result (Option Standing) AllocError)
      → IfOk r (IsAnswer g held h l m u (enter q)) → IfOk r (IsEntryLook g held h l m u)
  look_result m (Ok o) a = look_answered m o a
  look_result m (Err e) a = tt

-- steps in a row
module _ (g : Plan) (held : List HeldResource) (n : Numbers) (h : List Event) where
  pub nothing_yet : (l : Later) → IsAtPoint g held n h l → AreTold (table_of g) l → HasMore g held h l l
  nothing_yet l at told = record {
    fit = at.fit;
    told = told;
    grows = λ c. stays (known_now (table_of g) l c);
    kept = at.kept;
  }

  pub point_then : (l m : Later) → IsAtPoint g held n h l → HasMore g held h l m → IsAtPoint g held n h m
  point_then l m at s = record { under_way = at.under_way; fit = s.fit; kept = s.kept }

  pub settled_then : (l m k : Later) → HasMore g held h l m → IsAtPoint g held n h m → Goes (table_of g) m k
      → HasMore g held h l k
  settled_then l m k a at goes =
      let x = planned_by g held in
      let t = table_of g in
      let grows : Grows (known_now t l) (known_now t k)
      = λ c. stays_after (known_now t l c) (known_now t m c) (known_now t k c) (a.grows c) (goes.grows c) in
      record {
        fit = goes.fit a.fit;
        told = goes.told a.told;
        grows = grows;
        kept = kept_on x (progress h) t m k a.kept goes.grows
            (goes.seen x (progress h) (sym at.under_way.is_planned.whole) a.kept.seen);
      }

  pub states_then : (l m k : Later) → HasMore g held h l m → HasStates g held h m k → HasMore g held h l k
  states_then l m k a s =
      let t = table_of g in
      record {
        fit = s.fit;
        told = told_with_states t m k s.grows s.entries a.told;
        grows = λ c. stays_after (known_now t l c) (known_now t m c) (known_now t k c) (a.grows c) (s.grows c);
        kept = s.kept;
      }

  pub settled_fewer : (m k j : Later) → k.states.items ≡ m.states.items
      → length j.states.items ≡ suc (length k.states.items)
      → 2 ^ 63 - length j.states.items < 2 ^ 63 - length m.states.items
  settled_fewer m k j e f =
      subst (λ (i : ℕ). 2 ^ 63 - length j.states.items < 2 ^ 63 - i) (ap length e) (fewer_left k j f)

  pub fewer_looks : (m k j : Later) (o : Option Standing) → k.states.items ≡ m.states.items → o ≡ None
      → IsOneMore k j o → 2 ^ 63 - length j.states.items < 2 ^ 63 - length m.states.items
  fewer_looks m k j o e n h = settled_fewer m k j e (subst (λ z. IsOneMore k j z) n h)

  pub some_look : (l m : Later) (u : ℕ) (o : Option Standing) (s : Standing) → o ≡ Some s
      → IsEntryLook g held h l m u o → IsEntryLook g held h l m u (Some s)
  some_look l m u o s e a = subst (IsEntryLook g held h l m u) e a
