-- The elements of `dependsOn`, one after another, and tasks one after another.
use Rattle.std.proofs.Common.{◌≡◌, ℕ, zero, suc, ◌+◌, ◌<◌, ◌≤◌, List, [], ◌∷◌, ◌++◌, map, length, drop, get_or}
use Rattle.std.proofs.Common.{Option, Some, None, refl, sym, ap, subst, ◌∙◌, arith, append_assoc}
use Rattle.std.proofs.lemmas.List.{map-append, append-nil}
use Rattle.std.specs.Prelude.{slice_get}
use Rattle.std.specs.declared.vec.Vec.{Vec}
use Rattle.std.specs.declared.alloc.Global.{Global}
use Rattle.foundation.proofs.Lists.{got_next, next_after, nothing_left}
use Rattle.arm_value.specs.Json.{Json}
use Rattle.arm_value.specs.View.{json}
use Rattle.arm_value.specs.declared.value.Value.{Value}
use Rattle.reading.specs.Knowledge.{Known, known, absent, missing, value, told, Stays, Grows, IsToldStill}
use Rattle.reading.proofs.Growth.{told_still}
use Rattle.deploy_cells.specs.Cells.{step, Position, Cell}
use Rattle.deploy_cells.specs.Guarded.{Reads}
use Rattle.plan_cells.specs.Needs.{started}
use Rattle.plan_cells.specs.Tasks.{enter}
use Rattle.plan_codes.specs.TaskCodes.{AreRead, AreDepending}
use Rattle.plan_filling.specs.Rows.{Status, status_of, table, known_by}
use Rattle.plan_filling.specs.Final.{or_unlisted, final}
use Rattle.plan_table.specs.declared.table.Table.{Table}
use Rattle.plan_table.specs.Whole.{whole_of, scopes_of, rows_in}
use Rattle.plan_table.specs.Found.{scope_at}
use Rattle.plan_tasks.specs.declared.task.ScopeTask.{ScopeTask}
use Rattle.plan_tasks.specs.Start.{start_of, IsStartTable, IsInstance, task_of}
use Rattle.plan_needs.specs.Lists.{values_in}
use Rattle.plan_needs.specs.Needs.{AreElements}
use Rattle.plan_needs.proofs.InstanceLemmas.{listed_there}
use Rattle.plan_openers.specs.declared.opener.Opener.{Opener}
use Rattle.plan_openers.specs.Openers.{IsOpener}
use Rattle.plan_sight.specs.Ready.{told_in}
use Rattle.plan_elements.specs.Elements.{element_at, AreElementsOf}

-- ---- what is told by the lines is so at the start

stays : (x : Known Json) → Stays x x
stays (known v) = refl
stays absent = refl
stays missing = tt

stays_by : (σ : Cell → Option Status) (c : Cell) (o : Option Status) → Stays (known_by o) (or_unlisted σ c o)
stays_by σ c None = tt
stays_by σ c (Some s) = stays (known_by (Some s))

grows : (σ : Cell → Option Status) → Grows (table σ) (final σ)
grows σ c = stays_by σ c (σ c)

pub told_at_start : {A : Type 0} (t : Table) (r : Reads A) (v : A) → told_in t r ≡ value v
    → told (start_of t) r ≡ value v
told_at_start {A} t r v e =
    subst (IsToldStill (start_of t) r) e
    (told_still Cell Json A (table (status_of (rows_in t))) (start_of t) (grows (status_of (rows_in t))) r)

-- ---- one element after another

drop_zero : {A : Type 0} (xs : List A) → drop 0 xs ≡ xs
drop_zero [] = refl
drop_zero (x ∷ xs) = refl

pub item_json : (vs : List Value) (i : ℕ) (v : Value) → i < length vs → v ≡ get_or vs i v
    → slice_get (map json vs) i ≡ Some (json v)
item_json [] i v h e = absurd (omega (arith, h))
item_json (y ∷ ys) zero v h e = ap (λ z. Some (json z)) (sym e)
item_json (y ∷ ys) (suc i) v h e = item_json ys i v (omega (arith, h)) e

abbrev pub position_of : Table → Opener → Position
position_of t x = (scope_at t x.frame).position

abbrev pub ReadBy : Table → Opener → List Json → List Json → Type 0
ReadBy t x js vs = AreRead (whole_of t) (start_of t) (position_of t x) (step x.resource x.copy) js vs

-- with the values of the elements from a place on, all are read
abbrev pub ElementsLeft : Table → Opener → List Json → List Json → ℕ → Type 0
ElementsLeft t x js vs i = (ws : List Json) → ReadBy t x (drop i js) ws → ReadBy t x js (vs ++ ws)

pub elements_begin : (t : Table) (x : Opener) (js : List Json) (vs : List Value) → vs ≡ []
    → ElementsLeft t x js (map json vs) 0
elements_begin t x js vs e =
    subst (λ us. ElementsLeft t x js (map json us) 0) (sym e)
    (λ ws a. subst (λ ys. ReadBy t x ys ws) (drop_zero js) a)

pub elements_more : (t : Table) (x : Opener) (trees : List Value) (i : ℕ) (tree v : Value) (old new : List Value)
    → i < length trees → tree ≡ get_or trees i tree
    → told_in t (element_at t x (json tree)) ≡ value (json v) → new ≡ old ++ v ∷ []
    → ElementsLeft t x (map json trees) (map json old) i → ElementsLeft t x (map json trees) (map json new) (i + 1)
elements_more t x trees i tree v old new h e told n left ws a =
    let js = map json trees in
    let later : ReadBy t x (drop (suc i) js) ws =
    subst (λ (k : ℕ). ReadBy t x (drop k js) ws) (let z : i + 1 ≡ suc i = omega arith in z) a in
    let here : ReadBy t x (drop i js) (json v ∷ ws) =
    subst (λ ys. ReadBy t x ys (json v ∷ ws)) (sym (got_next js i (json tree) (item_json trees i tree h e)))
    (told_at_start t (element_at t x (json tree)) (json v) told, later) in
    let all : map json old ++ json v ∷ ws ≡ map json new ++ ws =
    sym (append_assoc (map json old) (json v ∷ []) ws)
    ∙ ap (λ ys. ys ++ ws) (sym (ap (map json) n ∙ map-append json old (v ∷ []))) in
    subst (ReadBy t x js) all (left (json v ∷ ws) here)

pub elements_end : (t : Table) (x : Opener) (trees vs : List Value) (i : ℕ) → length trees ≤ i
    → ElementsLeft t x (map json trees) (map json vs) i → ReadBy t x (map json trees) (map json vs)
elements_end t x trees vs i h left =
    let none : drop i (map json trees) ≡ [] =
    nothing_left (map json trees) i (let n = same_length trees in omega (arith, n, h)) in
    subst (ReadBy t x (map json trees)) (append-nil (map json vs))
    (left [] (subst (λ ys. ReadBy t x ys []) (sym none) tt))
  where
    same_length : (ys : List Value) → length (map json ys) ≡ length ys
    same_length [] = refl
    same_length (y ∷ ys) = ap (λ (n : ℕ). suc n) (same_length ys)

-- ---- an instance

pub depending : (t : Table) (x : Opener) (start : IsStartTable t) (h : IsInstance t x.frame x.resource x.copy)
    (js vs : List Json) → AreElementsOf t x js → ReadBy t x js vs
    → AreDepending (whole_of t) (start_of t) (Some (position_of t x, step x.resource x.copy)) vs
depending t x start h js vs a r =
    let same : Some h.number.listed ≡ Some a.listed = sym h.number.has ∙ a.is_listed in
    let one : h.number.listed ≡ a.listed = cc in
    record {
      listed = h.number.listed;
      is_listed = listed_there t x.frame x.resource x.copy start h;
      are_read = subst (λ ys. ReadBy t x ys vs)
          (sym a.are ∙ ap (λ y. y.declaration.depends_on) (sym one)) r;
    }

-- of the instance that opened a scope
pub entered : (t : Table) (g : ℕ) (x : Opener) (vs : List Json) → IsOpener t g x
    → AreDepending (whole_of t) (start_of t) (Some (position_of t x, step x.resource x.copy)) vs
    → AreDepending (whole_of t) (start_of t) (started (enter (scope_at t g).position)) vs
entered t g x vs o a =
    subst (λ p. AreDepending (whole_of t) (start_of t) (started (enter p)) vs) (sym o.is_scope.position) a

pub entered_root : (t : Table) (g : ℕ) (vs : List Json) → (scope_at t g).position ≡ []
    → vs ≡ [] → AreDepending (whole_of t) (start_of t) (started (enter (scope_at t g).position)) vs
entered_root t g vs e n =
    subst (λ p. AreDepending (whole_of t) (start_of t) (started (enter p)) vs) (sym e) n

-- ---- one task after another

-- with the values for the tasks from a number on, there are those for all
abbrev pub TasksLeft : Table → List ScopeTask → List (Vec Value Global) → ℕ → Type 0
TasksLeft t us vss i =
    (wss : List (List Json)) → AreElements t (drop i us) wss → AreElements t us (values_in vss ++ wss)

pub tasks_begin : (t : Table) (us : List ScopeTask) (vss : List (Vec Value Global)) → vss ≡ [] → TasksLeft t us vss 0
tasks_begin t us vss e =
    subst (λ uss. TasksLeft t us uss 0) (sym e) (λ wss a. subst (λ ys. AreElements t ys wss) (drop_zero us) a)

pub tasks_more : (t : Table) (us : List ScopeTask) (i : ℕ) (u : ScopeTask) (v : Vec Value Global)
    (old new : List (Vec Value Global)) → i < length us → u ≡ get_or us i u
    → AreDepending (whole_of t) (start_of t) (started (task_of (scopes_of t) u)) (map json v.items)
    → new ≡ old ++ v ∷ [] → TasksLeft t us old i → TasksLeft t us new (i + 1)
tasks_more t us i u v old new h e d n left wss a =
    let vs = map json v.items in
    let later : AreElements t (drop (suc i) us) wss =
    subst (λ (k : ℕ). AreElements t (drop k us) wss) (let z : i + 1 ≡ suc i = omega arith in z) a in
    let here : AreElements t (drop i us) (vs ∷ wss) =
    subst (λ ys. AreElements t ys (vs ∷ wss)) (sym (next_after us i u h e)) (d, later) in
    let all : values_in old ++ vs ∷ wss ≡ values_in new ++ wss =
    sym (append_assoc (values_in old) (vs ∷ []) wss)
    ∙ ap (λ ys. ys ++ wss)
    (sym (ap values_in n ∙ map-append (λ (w : Vec Value Global). map json w.items) old (v ∷ []))) in
    subst (AreElements t us) all (left (vs ∷ wss) here)

pub tasks_end : (t : Table) (us : List ScopeTask) (vss : List (Vec Value Global)) (i : ℕ) → length us ≤ i
    → TasksLeft t us vss i → AreElements t us (values_in vss)
tasks_end t us vss i h left =
    subst (AreElements t us) (append-nil (values_in vss))
    (left [] (subst (λ ys. AreElements t ys []) (sym (nothing_left us i h)) tt))
