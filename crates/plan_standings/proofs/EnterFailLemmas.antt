-- Why a scope cannot be entered at the end of a deployment.
use Rattle.std.proofs.Common.{◌≡◌, ◌⊎◌, inl, inr, ℕ, ◌<◌, true, false, List, [], ◌∷◌, ◌++◌, map, length}
use Rattle.std.proofs.Common.{Option, Some, None, refl, sym, ap, subst, ◌∙◌, true≢false}
use Rattle.std.specs.Prelude.{slice_get, Result, Ok, Err, IfOk}
use Rattle.std.specs.declared.alloc.AllocError.{AllocError}
use Rattle.arm_value.specs.Json.{Json}
use Rattle.arm_ids.specs.Held.{HeldResource}
use Rattle.arm_ids.specs.declared.id.ResourceId.{ResourceId}
use Rattle.reading.specs.World.{Each}
use Rattle.reading.specs.Knowledge.{Known, known, absent, missing, Told, value, no_value, waits, told, IsThere, Means}
use Rattle.reading.proofs.Completion.{told_means}
use Rattle.template_parts.specs.declared.fault.BindFault.{BindFault}
use Rattle.deploy_cells.specs.Cells.{Position, Cell, World, parameter, variable, state}
use Rattle.deploy_cells.specs.Guarded.{there_if}
use Rattle.plan_cells.specs.Known as knowledge
use Rattle.plan_cells.specs.Known.{entry_told}
use Rattle.plan_cells.specs.Meaning.{Deployment, plain, raw}
use Rattle.plan_cells.specs.Start.{start_world}
use Rattle.plan_cells.specs.Tasks as tasks
use Rattle.plan_cells.specs.Tasks.{Task, enter, put, leave, delete}
use Rattle.plan_cells.specs.Children.{Has, parameter_names, variable_names}
use Rattle.plan_cells.specs.Reads.{is_given_by, is_state_at, key_in, entry_cells}
use Rattle.plan_cells.proofs.ListLemmas.{has_mapped}
use Rattle.plan_paths.specs.CellPaths.{cell_path}
use Rattle.plan_filling.specs.Rows.{row_at}
use Rattle.plan_sight.specs.declared.lack.Lack.{Lack}
use Rattle.plan_sight.specs.declared.lack.Lack.TheVariants as lack
use Rattle.plan_table.specs.declared.table.Table.{Table}
use Rattle.plan_table.specs.Whole.{whole_of, rows_in}
use Rattle.plan_table.specs.Found.{scope_at}
use Rattle.task_aims.specs.Plan.{Plan}
use Rattle.task_aims.specs.Task.TheVariants.{Enter}
use Rattle.task_aims.specs.Plans.{deployment_of}
use Rattle.task_aims.specs.Numbered.{TaskNumbers as Numbers}
use Rattle.deploy_histories.specs.Planned.{Planned}
use Rattle.deploy_histories.specs.Events as events
use Rattle.deploy_histories.specs.Events.{Event, crash, Progress, progress, IsDone, is_waiting, done_status}
use Rattle.deploy_histories.specs.Points.{IsTableOf}
use Rattle.deploy_histories.specs.Values.{TaskValue, a_cell, task_values, body_of, demanded, entry_value}
use Rattle.deploy_histories.specs.Readiness.{fault_of_part, fault_of_cell, first_fault, needs_first, readiness}
use Rattle.deploy_histories.specs.Readiness.{at_fault, ready}
use Rattle.deploy_histories.proofs.ReadinessLemmas.{says_fault}
use Rattle.task_aims.specs.Planned.{planned_by}
use Rattle.point_values.specs.Seen.{IsSeen}
use Rattle.point_rows.specs.declared.later.Later.{Later}
use Rattle.point_rows.specs.Rows.{known_now}
use Rattle.scope_faults.specs.Entries.{plain_now, own_of, IsDecided, IsCircle, WaitsForState, WaitsForLine}
use Rattle.scope_faults.proofs.GoesLemmas.{decided_there}
use Rattle.scope_faults.proofs.OwnLemmas.{own_cell}
use Rattle.scope_faults.specs.Circles.{IsAwait, IsVacated, NeverWaits, IsLackOf, IsCircleLack}
use Rattle.scope_faults.specs.Faults.{said_of, HasValue, HasNone, IsEntryFault}
use Rattle.task_standings.specs.declared.standing.Failing.{Failing}
use Rattle.task_standings.specs.declared.standing.Failing.TheVariants.{Faulty, Needs}
use Rattle.task_standings.specs.declared.standing.TaskFault.{TaskFault}
use Rattle.task_standings.specs.Failures.{IsFailing}
use Rattle.plan_standings.specs.Waits.{table_of, IsNext, IsAtPoint, IsInSight}
use Rattle.plan_standings.specs.Tells.{tells, SaysFault}
use Rattle.plan_standings.specs.Ended.{IsOver}
use Rattle.plan_standings.specs.Needing.{IsNeed, IsNeverFilled, IsFailingLook}
use Rattle.plan_standings.proofs.DemandLemmas.{demanded_value, demanded_waits, demanded_nothing, demanded_awaits}
use Rattle.plan_standings.proofs.CircleLemmas.{never}
use Rattle.plan_standings.proofs.EnterLemmas.{is_task, whole, cell_listed, ready_table, sight_of}
use Rattle.plan_standings.proofs.EndLemmas.{IsBetween, between_itself, BrokenIn, fault_by, fault_says, value_needs}
use Rattle.plan_standings.proofs.EndLemmas.{none_needed}
use Rattle.plan_standings.proofs.EndLemmas.{value_by_all, none_by_all, waits_by_all, never_known, cell_fault_is}
use Rattle.plan_standings.proofs.EndLemmas.{plain_waits, plain_parameter, plain_variable, none_first, await_cell}

-- ---- no task gives a parameter or a variable

module _ (d : Deployment) (q : Position) (y : List ℕ) where
  no_state : (o : Option ResourceId) (c : Cell) → (c ≡ parameter q y) ⊎ (c ≡ variable q y) → is_state_at o c ≡ true → ⊥
  no_state None c h e = true≢false (sym e)
  no_state (Some k) c (inl h) e =
      true≢false (sym (ap (λ (b : Cell). is_state_at (Some k) b) (sym h) ∙ e))
  no_state (Some k) c (inr h) e =
      true≢false (sym (ap (λ (b : Cell). is_state_at (Some k) b) (sym h) ∙ e))

  pub parameter_not_given : (w : World) (task : Task) → is_given_by d w task (parameter q y) ≡ true → ⊥
  parameter_not_given w (put p s) e = no_state (key_in d w p s) (parameter q y) (inl refl) e
  parameter_not_given w (leave p) e = true≢false (sym e)
  parameter_not_given w (enter p) e = true≢false (sym e)
  parameter_not_given w (delete k) e = true≢false (sym e)

  pub variable_not_given : (w : World) (task : Task) → is_given_by d w task (variable q y) ≡ true → ⊥
  variable_not_given w (put p s) e = no_state (key_in d w p s) (variable q y) (inr refl) e
  variable_not_given w (leave p) e = true≢false (sym e)
  variable_not_given w (enter p) e = true≢false (sym e)
  variable_not_given w (delete k) e = true≢false (sym e)

-- ---- lists

each_cell : (P : Cell → Type 0) (cs : List Cell) (c : Cell) → Each P cs → Has c cs → P c
each_cell P [] c e h = absurd h
each_cell P (d ∷ ds) c e (inl q) = subst P q e.0
each_cell P (d ∷ ds) c e (inr h) = each_cell P ds c e.1 h

map_split : (f : Cell → TaskValue) (xs ys : List Cell) (c : Cell) → map f (xs ++ c ∷ ys) ≡ map f xs ++ f c ∷ map f ys
map_split f [] ys c = refl
map_split f (x ∷ xs) ys c = ap (λ (vs : List TaskValue). f x ∷ vs) (map_split f xs ys c)

-- ---- what settling came to

-- where all is decided nothing is missing
pub decided_filled : (g : Plan) (held : List HeldResource) (h : List Event) (l : Later) (f : ℕ)
    → ((c : Cell) → Has c (own_of (table_of g) f) → IsDecided true (table_of g) l c) → IsNeverFilled g held h l f
decided_filled g held h l f all a is c own gone =
    absurd (subst IsThere gone (decided_there true (table_of g) l c (all c own)))

module _ (g : Plan) (held : List HeldResource) (n : Numbers) (h : List Event) (l : Later)
    (at : IsAtPoint g held n h l) (f : ℕ) (there : f < length (table_of g).frames.items) (u : ℕ)
    (next : IsNext g held h u (Enter f)) where
  abbrev x : Planned
  x = planned_by g held

  abbrev t : Table
  t = table_of g

  abbrev p : Progress
  p = progress h

  abbrev d : Deployment
  d = deployment_of g

  abbrev k : knowledge.Table
  k = known_now t l

  abbrev q : Position
  q = (scope_at t f).position

  is_whole : whole_of t ≡ d
  is_whole = whole g held n h l at f there u next

  the_task : slice_get x.tasks u ≡ Some (enter q)
  the_task = is_task g held n h l at f there u next

  -- an own cell is a parameter or a variable
  own_by : (P : Cell → Type 0) → ((y : List ℕ) → P (parameter q y)) → ((y : List ℕ) → P (variable q y)) → (c : Cell)
      → Has c (own_of t f) → P c
  own_by P ps vs c own = by_own (own_cell t f (ready_table g held n h l at f there u next) there c own).1
    where
      by_own : ((y : List ℕ) × (Has y (parameter_names (scope_at t f).template) × (parameter q y ≡ c)))
          ⊎ ((y : List ℕ) × (Has y (variable_names (scope_at t f).template) × (variable q y ≡ c))) → P c
      by_own (inl o) = subst P o.1.1 (ps o.0)
      by_own (inr o) = subst P o.1.1 (vs o.0)

  not_given : (c : Cell) → Has c (own_of t f) → (task : Task)
      → is_given_by d (start_world x.known) task c ≡ true → ⊥
  not_given c own =
      own_by (λ (b : Cell). (task : Task) → is_given_by d (start_world x.known) task b ≡ true → ⊥)
      (λ y. parameter_not_given d q y (start_world x.known)) (λ y. variable_not_given d q y (start_world x.known)) c own

  -- a circle is never known
  pub circle_filled : (c : Cell) → IsCircle true t l f c → IsNeverFilled g held h l f
  circle_filled c b a all e own gone =
      elim (b.others e own) [
        | inl s ↦ absurd (subst IsThere gone (decided_there true t l e s))
        | inr i ↦ missing_by e i (a e) refl
      ]
    where
      missing_by : (e : Cell) → Has e b.cells → (v : Known Json) → a e ≡ v → a e ≡ missing
      missing_by e i missing r = r
      missing_by e i (known j) r =
          absurd (never x p t l (sym is_whole) at.kept.seen.known_then f (ready_table g held n h l at f there u next)
          there b.cells b.own b.awaits p (λ w o s. s) e (Some j) (all.is_known e (Some j) r) i)
      missing_by e i absent r =
          absurd (never x p t l (sym is_whole) at.kept.seen.known_then f (ready_table g held n h l at f there u next)
          there b.cells b.own b.awaits p (λ w o s. s) e None (all.is_known e None r) i)

  -- ---- what one of the cells waits for

  missing_in : (s : knowledge.Table) (c e : Cell) → told s (plain d c) ≡ waits e → s e ≡ missing
  missing_in s c e w =
      (subst (Means s (plain d c)) w (told_means Cell Json (Option Json) s (plain d c))).is_missing

  need_by : (s : knowledge.Table) → ((a : knowledge.Table) → IsTableOf x p a → IsBetween x k s a) → (c : Cell)
      → Has c (own_of t f) → (e : Cell) → told s (plain d c) ≡ waits e → (o : Option Failing) → IsNeed x p e o
      → IsFailingLook x p u o
  need_by s between c own e w None i = tt
  need_by s between c own e w (Some (Faulty said)) i = absurd i
  need_by s between c own e w (Some (Needs v)) i = record {
    task = enter q;
    is_task = the_task;
    other = i.giver;
    is_other = i.is_task;
    is_undone = ap done_status next.waits_still;
    other_undone = i.is_undone;
    by_all = λ a all.
        value_needs x p k s a at.kept.seen all (between a all) (enter q) i.giver (entry_value d c)
        (cell_listed g held n h l at f there u next c own) e (demanded_waits s (plain d c) e w) i.gives;
  }

  need_result : (s : knowledge.Table) → ((a : knowledge.Table) → IsTableOf x p a → IsBetween x k s a) → (c : Cell)
      → Has c (own_of t f) → (e : Cell) → told s (plain d c) ≡ waits e → (r : Result (Option Failing) AllocError)
      → IfOk r (IsNeed x p e) → IfOk r (IsFailingLook x p u)
  need_result s between c own e w (Ok o) i = need_by s between c own e w o i
  need_result s between c own e w (Err y) i = tt

  there_told : (m : Later) (c e : Cell) → plain_now t m c ≡ waits e → told (known_now t m) (plain d c) ≡ waits e
  there_told m c e w = subst (λ (b : Deployment). told (known_now t m) (plain b c) ≡ waits e) is_whole w

  -- by what is known
  waits_result : (c : Cell) → Has c (own_of t f) → (e : Cell) → plain_now t l c ≡ waits e → (Has e (own_of t f) → ⊥)
      → (r : Result (Option Failing) AllocError)
      → (k e ≡ missing → IsInSight d k e → IfOk r (IsNeed x p e)) → IfOk r (IsFailingLook x p u)
  waits_result c own e w other r given =
      need_result k (λ a all. between_itself x k a) c own e (there_told l c e w) r
      (given (missing_in k c e (there_told l c e w))
      (sight_of g held n h l at f there u next c own k e other (there_told l c e w)))

  not_state : (i : ResourceId) → Has (state i) (own_of t f) → ⊥
  not_state i b = own_by (λ (c : Cell). c ≡ state i → ⊥) (λ y e. cc) (λ y e. cc) (state i) b refl

  pub state_result : (i : ResourceId) → WaitsForState t l f i → (r : Result (Option Failing) AllocError)
      → ((c : Cell) → IsAwait {A = Json} t (lack.State i) (waits c) → k c ≡ missing → IsInSight d k c
      → IfOk r (IsNeed x p c)) → IfOk r (IsFailingLook x p u)
  state_result i w r given =
      waits_result w.cell w.is_own (state i) w.is_awaited (not_state i) r (given (state i) refl)

  pub line_result : (j : ℕ) → WaitsForLine t l f j → (r : Result (Option Failing) AllocError)
      → ((c : Cell) → IsAwait {A = Json} t (lack.Line j) (waits c) → k c ≡ missing → IsInSight d k c
      → IfOk r (IsNeed x p c)) → IfOk r (IsFailingLook x p u)
  line_result j w r given =
      waits_result w.cell w.is_own (row_at (rows_in t) j).cell w.is_awaited w.is_other r
      (given (row_at (rows_in t) j).cell (w.listed, refl))

  -- with those of a circle absent
  between_by : (m : Later) → IsVacated t f l m → IsNeverFilled g held h l f → (a : knowledge.Table) → IsTableOf x p a
      → IsBetween x k (known_now t m) a
  between_by m vacated filled a all = record {
    cells = λ b.
        elim (vacated.cells b) [
          | inl i ↦ inl i
          | inr i ↦ inr (i.1.0, (i.1.1, (filled a all b i.0 i.1.0, not_given b i.0)))
        ];
  }

  missing_then : (m : Later) → IsVacated t f l m → (e : Cell) → known_now t m e ≡ missing → k e ≡ missing
  missing_then m vacated e gone =
      elim (vacated.cells e) [
        | inl i ↦ sym i ∙ gone
        | inr i ↦ i.1.0
      ]

  circle_result : IsNeverFilled g held h l f → (m : Later) → IsVacated t f l m → (c : Cell) → Has c (own_of t f)
      → (e : Cell) → plain_now t m c ≡ waits e → (r : Result (Option Failing) AllocError)
      → (k e ≡ missing → IsInSight d k e → IfOk r (IsNeed x p e)) → IfOk r (IsFailingLook x p u)
  circle_result filled m vacated c own e w r given =
      let gone = missing_in (known_now t m) c e (there_told m c e w) in
      need_result (known_now t m) (between_by m vacated filled) c own e (there_told m c e w) r
      (given (missing_then m vacated e gone)
      (sight_of g held n h l at f there u next c own (known_now t m) e (λ o. subst IsThere gone (vacated.all e o))
      (there_told m c e w)))

  -- ---- the first that has no value

  module _ (filled : IsNeverFilled g held h l f) (m : Later) (vacated : IsVacated t f l m)
      (never_waits : (c : Cell) → Has c (own_of t f) → NeverWaits t m c) (a : knowledge.Table) (all : IsTableOf x p a)
    where
      both : IsBetween x k (known_now t m) a
      both = between_by m vacated filled a all

      never_told : (c : Cell) → Has c (own_of t f) → (i : Cell) → told (known_now t m) (plain d c) ≡ waits i → ⊥
      never_told c own i e =
          never_waits c own i
          (subst (λ (b : Deployment). told (known_now t m) (plain b c) ≡ waits i) (sym is_whole) e)

      own_there : (c : Cell) → Has c (entry_cells d q) → Has c (own_of t f)
      own_there c i = subst (λ (b : Deployment). Has c (entry_cells b q)) (sym is_whole) i

      value_never : (w : TaskValue) → Has w (task_values d (enter q)) → (i : Cell)
          → told (known_now t m) w.reading ≡ waits i → ⊥
      value_never w has i e =
          let c = has_mapped (entry_value d) w (entry_cells d q) has in
          never_told c.0 (own_there c.0 c.1.0) i
          (demanded_awaits (known_now t m) (plain d c.0) i
          (subst (λ (v : TaskValue). told (known_now t m) v.reading ≡ waits i) (sym c.1.1) e))

      valued : (c : Cell) → HasValue t l c → (o : Option Json) × (told a (demanded (plain d c)) ≡ value o)
      valued c v = (
        Some v.0,
        demanded_value a (plain d c) v.0
            (value_by_all x p k (known_now t m) a at.kept.seen all both (plain d c) (Some v.0)
            (subst (λ (b : Deployment). told k (plain b c) ≡ value (Some v.0)) is_whole v.1)),
      )

      -- a cell without a value has none by all that is known
      module _ (c : Cell) (own : Has c (own_of t f)) (none : HasNone t l c) where
        nothing_by : told k (plain d c) ≡ no_value → told a (plain d c) ≡ no_value
        nothing_by e = none_by_all x p k (known_now t m) a at.kept.seen all both (plain d c) e

        by_told : (z : Told Cell (Option Json)) → told k (plain d c) ≡ z → (o : Option Json)
            → told a (demanded (plain d c)) ≡ value o → ⊥
        by_told (value (Some j)) e o r =
            none j (subst (λ (b : Deployment). told k (plain b c) ≡ value (Some j)) (sym is_whole) e)
        by_told (value None) e o r =
            let g = value_by_all x p k (known_now t m) a at.kept.seen all both (plain d c) None e in
            let no : no_value ≡ value o = sym (demanded_nothing a (plain d c) (ap entry_told g)) ∙ r in cc
        by_told no_value e o r =
            let no : no_value ≡ value o = sym (demanded_nothing a (plain d c) (ap entry_told (nothing_by e))) ∙ r in cc
        by_told (waits i) e o r =
            let gone = never_known x p k (known_now t m) a at.kept.seen all both (plain d c) i e (never_told c own) in
            let still = waits_by_all x p k (known_now t m) a at.kept.seen all both (plain d c) i e gone in
            let no : waits i ≡ value o = sym (demanded_waits a (plain d c) i still) ∙ r in cc

        here : (o : Option Json) → told a (demanded (plain d c)) ≡ value o → ⊥
        here = by_told (told k (plain d c)) refl

        part_is : fault_of_part d a (a_cell c) ≡ fault_of_cell d a c
        part_is =
            own_by (λ (b : Cell). fault_of_part d a (a_cell b) ≡ fault_of_cell d a b) (λ y. refl) (λ y. refl) c own

        reading_waits : (i : Cell) → told (known_now t m) (there_if (raw d c)) ≡ waits i → ⊥
        reading_waits i e =
            never_told c own i
            (own_by (λ (b : Cell). told (known_now t m) (there_if (raw d b)) ≡ waits i
            → told (known_now t m) (plain d b) ≡ waits i)
            (λ y. plain_waits d (known_now t m) (parameter q y) (plain_parameter d q y) i)
            (λ y. plain_waits d (known_now t m) (variable q y) (plain_variable d q y) i) c own e)

        fault_here : (o : Option BindFault) (b : BrokenIn d k c o) → fault_of_part d a (a_cell c) ≡ fault_by d k c o b
        fault_here o b =
            part_is
            ∙ cell_fault_is x p k a at.kept.seen all c
            (λ i e. never_known x p k (known_now t m) a at.kept.seen all both (there_if (raw d c)) i e reading_waits)
            o b

        pub fails_by : (front rest : List Cell) → own_of t f ≡ front ++ c ∷ rest → Each (HasValue t l) front
            → (o : Option BindFault) (b : BrokenIn d k c o)
            → readiness x a p.status u (enter q) ≡ at_fault (fault_by d k c o b)
        fails_by front rest is before o b =
            says_fault x a p u (enter q) (fault_by d k c o b) (record {
              is_free = record {
                waits_still = next.waits_still;
                needs_done =
                    none_needed x p k (known_now t m) a at.kept.seen all both (enter q)
                    (λ v other has i. next.needs_done (enter q) v other the_task has i) value_never;
              };
              unknown = entry_value d c;
              is_unknown = record {
                front = map (entry_value d) front;
                rest = map (entry_value d) rest;
                is =
                    ap (map (entry_value d))
                    (ap (λ (z : Deployment). entry_cells z q) (sym is_whole) ∙ is)
                    ∙ map_split (entry_value d) front rest c;
                before = λ w has.
                    let e = has_mapped (entry_value d) w front has in
                    subst (λ (v : TaskValue). (o : Option Json) × (told a v.reading ≡ value o)) e.1.1
                    (valued e.0 (each_cell (HasValue t l) front e.0 before e.1.0));
                here = here;
              };
              has_fault = fault_here o b;
            })

  -- what is said of the first cell without a value is said of the task
  pub entry_fails : IsNeverFilled g held h l f → (m : Later) → IsVacated t f l m → IsLackOf t m f None
      → (said : TaskFault) → IsEntryFault t l f (Some said) → IsFailing tells x p u (Faulty said)
  entry_fails filled m vacated never_waits said (c, (first, (o, (broken, is)))) = (
    fault_by d k c o there_broken,
    (
      (
        enter q,
        (
          the_task,
          subst (SaysFault x (enter q) (fault_by d k c o there_broken))
              (sym (is ∙ ap (λ (b : Deployment). said_of (cell_path b.template c) o) is_whole))
              (fault_says x k c (enter q) o there_broken),
        ),
      ),
      record {
        task = enter q;
        is_task = the_task;
        by_all = λ a all.
            fails_by filled m vacated never_waits a all c
            (subst (Has c) (sym first.is) (has_middle first.front)) first.here first.front first.rest first.is
            first.before o there_broken;
      },
    ),
  )
    where
      there_broken : BrokenIn d k c o
      there_broken = subst (λ (b : Deployment). BrokenIn b k c o) is_whole broken

      has_middle : (front : List Cell) → Has c (front ++ c ∷ first.rest)
      has_middle [] = inl refl
      has_middle (e ∷ es) = inr (has_middle es)

  -- ---- where all have values the scope is entered

  not_crash : events.enter u ≡ crash → ⊥
  not_crash e = cc

  pub never_valued : ((x : Planned) (p : Progress) (s : knowledge.Table) → IsSeen x p s → (w : ℕ) (task : Task)
      → p.status w ≡ is_waiting
      → ((j : ℕ) (other : Task) → slice_get x.tasks j ≡ Some other → needs_first x task other ≡ true → IsDone p j)
      → first_fault x.deployment s (task_values x.deployment task) ≡ None
      → readiness x s p.status w task ≡ ready (body_of x s task))
      → IsOver x p → Each (HasValue t l) (own_of t f) → ⊥
  never_valued law over all =
      not_crash (over.nothing_may (events.enter u) (
        q,
        record {
          unrefused = over.unrefused;
          is_task = the_task;
          known = k;
          is_known = at.kept.seen.known_then;
          is_ready =
              law x p k at.kept.seen u (enter q) next.waits_still
              (λ j other has needs. next.needs_done (enter q) j other the_task has needs)
              (none_first d k (task_values d (enter q)) told_value);
        },
      ))
    where
      told_cell : (c : Cell) → Has c (entry_cells d q) → (o : Option Json) × (told k (demanded (plain d c)) ≡ value o)
      told_cell c i =
          let v = each_cell (HasValue t l) (own_of t f) c all
          (subst (λ (b : Deployment). Has c (entry_cells b q)) (sym is_whole) i) in (
            Some v.0,
            demanded_value k (plain d c) v.0
                (subst (λ (b : Deployment). told k (plain b c) ≡ value (Some v.0)) is_whole v.1),
          )

      told_value : (w : TaskValue) → Has w (task_values d (enter q)) → (o : Option Json) × (told k w.reading ≡ value o)
      told_value w has =
          let c = has_mapped (entry_value d) w (entry_cells d q) has in
          subst (λ (v : TaskValue). (o : Option Json) × (told k v.reading ≡ value o)) c.1.1 (told_cell c.0 c.1.0)

  -- ---- what is answered

  pub lack_result : IsNeverFilled g held h l f → (z : Lack) → IsCircleLack t l f (Some z)
      → (r : Result (Option Failing) AllocError)
      → ((c : Cell) → IsAwait {A = Json} t z (waits c) → k c ≡ missing → IsInSight d k c → IfOk r (IsNeed x p c))
      → IfOk r (IsFailingLook x p u)
  lack_result filled z (m, (vacated, (c, (own, w)))) r given =
      let e = await_cell t z (plain_now t m c) w in
      circle_result filled m vacated c own e.0 e.1.0 r (given e.0 e.1.1)

  pub lack_awaits : (z : Lack) → IsCircleLack t l f (Some z) → (c : Cell) × IsAwait {A = Json} t z (waits c)
  lack_awaits z (m, (vacated, (c, (own, w)))) =
      let e = await_cell t z (plain_now t m c) w in (e.0, e.1.1)
