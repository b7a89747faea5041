-- What is told of the cell of a line, and of parameters and variables.
use Rattle.std.proofs.Common.{◌≡◌, inl, inr, ℕ, ◌<◌, Bool, true, false, not, List, [], ◌∷◌, map, length}
use Rattle.std.proofs.Common.{get_or, Option, Some, None, Result, refl, sym, ap, subst, ◌∙◌, arith}
use Rattle.std.specs.Prelude.{bytes_eq, is_some, option_map, MatchOption, if◌then◌else◌}
use Rattle.std.proofs.lemmas.List.{length-map, get_or_read}
use Rattle.arm_value.specs.Json.{Json}
use Rattle.arm_value.specs.Look.{fold}
use Rattle.arm_value.specs.View.{json}
use Rattle.arm_value.specs.declared.value.Value.{Value}
use Rattle.arm_ids.specs.declared.id.Place.{Place}
use Rattle.plan_table.specs.Look as look
use Rattle.plan_table.specs.Look.{Fact, a_value}
use Rattle.reading.specs.Reading.{pure, read}
use Rattle.reading.specs.Knowledge.{Told, value, no_value, waits, told, by_entry, finished}
use Rattle.template_tree.specs.Tree.{TemplateTree}
use Rattle.plan_cells.specs.Cells.{Step, Position, Cell, parameter, variable}
use Rattle.plan_cells.specs.Scopes.{template_at, owner, is_outer, nested_of}
use Rattle.plan_cells.specs.Sites.{Site, value_of, declared_value, declares, looked_up, first_with, parameter_named, variable_named}
use Rattle.plan_cells.specs.Resources.{header_in}
use Rattle.plan_cells.specs.Meaning.{Deployment, is_own}
use Rattle.plan_cells.specs.Children.{Has}
use Rattle.plan_cells.proofs.ListLemmas.{not_named}
use Rattle.std.proofs.lemmas.Slice.Eq.{bytes_eq-Decides}
use Rattle.plan_table.specs.Rows.{Status, Row, row_at, status_of, known_by}
use Rattle.plan_table.proofs.RowLemmas.{status_found}
use Rattle.plan_table.specs.declared.table.Table.{Table}
use Rattle.plan_table.specs.declared.line.Line.{Line}
use Rattle.plan_table.specs.declared.line.Spot.TheVariants.{Deployments}
use Rattle.plan_table.specs.declared.line.State.{State}
use Rattle.plan_table.specs.declared.line.State.TheVariants as how
use Rattle.plan_table.specs.declared.frame.Frame.{Frame}
use Rattle.plan_table.specs.Opened.{Opened, IsKept, opened_of}
use Rattle.plan_table.specs.Lines.{cell_of, line_at, new_line, status_in, row_of}
use Rattle.plan_table.specs.Whole.{whole_of, scopes_of, rows_in}
use Rattle.plan_table.specs.Found.{scope_at, HasCell, IsLineOf, state_at}
use Rattle.plan_table.proofs.FrameLemmas.{frame_is}
use Rattle.plan_table.proofs.LaidLemmas.{row_here, length_rows}
use Rattle.plan_sight.specs.declared.lack.Lack.{Lack}
use Rattle.plan_sight.specs.declared.lack.Lack.TheVariants as lack
use Rattle.plan_sight.specs.Ready.{IsReady, told_in}
use Rattle.plan_sight.specs.Seen.{Lacks, Shows, Stops}

abbrev pub cell_at : Table → ℕ → Cell
cell_at t j = cell_of (scopes_of t) (line_at t.lines.items j).spot

-- the state of a line that was read
pub state_here : (t : Table) (j : ℕ) (l : Line) (x : State) → j < length t.lines.items
    → l ≡ get_or t.lines.items j l → l.state ≡ x → state_at t j ≡ x
state_here t j l x h e s =
    ap (λ (y : Line). y.state) (sym (get_or_read t.lines.items j l h e (new_line (Deployments 0)))) ∙ s

-- how far the cell of a line is
pub status_at : (t : Table) (j : ℕ) → IsReady t → j < length t.lines.items
    → status_of (rows_in t) (cell_at t j) ≡ Some (status_in (state_at t j))
status_at t j ready h =
    let is : row_at (rows_in t) j ≡ row_of (scopes_of t) (line_at t.lines.items j) =
    row_here (scopes_of t) t.lines.items j h in
    let found : status_of (rows_in t) (row_at (rows_in t) j).cell ≡ Some (row_at (rows_in t) j).status =
    status_found (rows_in t) j ready.sound.distinct
    (let n = length_rows (scopes_of t) t.lines.items in omega (arith, n, h)) in
    subst (λ (r : Row). status_of (rows_in t) r.cell ≡ Some r.status) is found

told_value : (t : Table) (c : Cell) (s : Status) → status_of (rows_in t) c ≡ Some s
    → told_in t (value_of c) ≡ by_entry c (λ v. value (option_map a_value v)) (known_by (Some s))
unfolding told
told_value t c s e = ap (λ o. by_entry c (λ v. value (option_map a_value v)) (known_by o)) e

told_read : (t : Table) (c : Cell) (s : Status) → status_of (rows_in t) c ≡ Some s
    → told_in t (read c) ≡ by_entry c (λ v. finished v) (known_by (Some s))
unfolding told
told_read t c s e = ap (λ o. by_entry c (λ v. finished v) (known_by o)) e

abbrev value_told : Table → ℕ → Told Cell (Option Fact)
value_told t j = told_in t (value_of (cell_at t j))

by_state : (t : Table) (j : ℕ) (x : State) → IsReady t → j < length t.lines.items → state_at t j ≡ x
    → value_told t j ≡ by_entry (cell_at t j) (λ v. value (option_map a_value v)) (known_by (Some (status_in x)))
by_state t j x ready h e =
    told_value t (cell_at t j) (status_in (state_at t j)) (status_at t j ready h)
    ∙ ap (λ y. by_entry (cell_at t j) (λ v. value (option_map a_value v)) (known_by (Some (status_in y)))) e

read_by_state : (t : Table) (j : ℕ) (x : State) → IsReady t → j < length t.lines.items → state_at t j ≡ x
    → told_in t (read (cell_at t j)) ≡ by_entry (cell_at t j) (λ v. finished v) (known_by (Some (status_in x)))
read_by_state t j x ready h e =
    told_read t (cell_at t j) (status_in (state_at t j)) (status_at t j ready h)
    ∙ ap (λ y. by_entry (cell_at t j) (λ v. finished v) (known_by (Some (status_in y)))) e

pub has_value : (t : Table) (j : ℕ) (v : Value) → IsReady t → j < length t.lines.items → state_at t j ≡ how.Value v
    → value_told t j ≡ value (Some (a_value (json v)))
has_value t j v ready h e = by_state t j (how.Value v) ready h e

pub has_none : (t : Table) (j : ℕ) → IsReady t → j < length t.lines.items → state_at t j ≡ how.Empty
    → value_told t j ≡ value None
has_none t j ready h e = by_state t j how.Empty ready h e

pub reads_value : (t : Table) (j : ℕ) (v : Value) → IsReady t → j < length t.lines.items → state_at t j ≡ how.Value v
    → told_in t (read (cell_at t j)) ≡ value (json v)
reads_value t j v ready h e = read_by_state t j (how.Value v) ready h e

pub reads_none : (t : Table) (j : ℕ) → IsReady t → j < length t.lines.items → state_at t j ≡ how.Empty
    → told_in t (read (cell_at t j)) ≡ no_value
reads_none t j ready h e = read_by_state t j how.Empty ready h e

-- a state of which nothing is known
abbrev pub IsOpen : State → Type 0
IsOpen how.New = Unit {0}
IsOpen how.Open = Unit {0}
IsOpen (how.Value v) = ⊥
IsOpen how.Empty = ⊥
IsOpen (how.Late k) = Unit {0}

-- a cell of which nothing is known is waited for
pub entry_waits : {A : Type 0} (c : Cell) (k : Option Json → Told Cell A) (x : State) → IsOpen x
    → by_entry c k (known_by (Some (status_in x))) ≡ waits c
entry_waits c k how.New o = refl
entry_waits c k how.Open o = refl
entry_waits c k (how.Value v) o = absurd o
entry_waits c k how.Empty o = absurd o
entry_waits c k (how.Late l) o = refl

pub listed_row : (t : Table) (j : ℕ) → j < length t.lines.items → j < length (rows_in t)
listed_row t j h = let n = length_rows (scopes_of t) t.lines.items in omega (arith, n, h)

pub cell_of_row : (t : Table) (j : ℕ) → j < length t.lines.items → cell_at t j ≡ (row_at (rows_in t) j).cell
cell_of_row t j h = sym (ap (λ (r : Row). r.cell) (row_here (scopes_of t) t.lines.items j h))

pub waits_value : (t : Table) (j : ℕ) (x : State) → IsReady t → j < length t.lines.items → state_at t j ≡ x
    → IsOpen x → Lacks t (lack.Line j) (value_told t j)
waits_value t j x ready h e o = (
  listed_row t j h,
  by_state t j x ready h e
      ∙ entry_waits (cell_at t j) (λ v. value (option_map a_value v)) x o ∙ ap waits (cell_of_row t j h),
)

pub waits_read : (t : Table) (j : ℕ) (x : State) → IsReady t → j < length t.lines.items → state_at t j ≡ x
    → IsOpen x → Stops t (lack.Line j) (told_in t (read (cell_at t j)))
waits_read t j x ready h e o = (
  listed_row t j h,
  read_by_state t j x ready h e ∙ entry_waits (cell_at t j) (λ v. finished v) x o ∙ ap waits (cell_of_row t j h),
)

-- ---- parameters and variables

by_first : {A : Type 0} (f : A → List ℕ) (x : List ℕ) (a : A) (ys : List A) (b : Bool) → bytes_eq x (fold (f a)) ≡ b
    → Has x (map (λ z. fold (f z)) (a ∷ ys))
    → (Has x (map (λ z. fold (f z)) ys) → is_some (first_with (λ z. bytes_eq x (fold (f z))) ys) ≡ true)
    → is_some (if b then Some a else first_with (λ z. bytes_eq x (fold (f z))) ys) ≡ true
by_first f x a ys true e h g = refl
by_first f x a ys false e (inl q) g =
    let yes : bytes_eq x (fold (f a)) ≡ true = (bytes_eq-Decides x (fold (f a))).1 (sym q) in
    let no : true ≡ false = sym yes ∙ e in cc
by_first f x a ys false e (inr h) g = g h

pub named : {A : Type 0} (f : A → List ℕ) (x : List ℕ) (ys : List A) → Has x (map (λ z. fold (f z)) ys)
    → is_some (first_with (λ z. bytes_eq x (fold (f z))) ys) ≡ true
named f x [] h = absurd h
named f x (a ∷ ys) h = by_first f x a ys (bytes_eq x (fold (f a))) refl h (named f x ys)

by_outer : (d : Deployment) (s : Step) (p : Position) (b : Bool) → is_outer (nested_of d.template p s) ≡ b
    → is_own d (owner d.template p) ≡ true → is_own d (if b then owner d.template p else s ∷ p) ≡ true
by_outer d s p true e h = h
by_outer d s p false e h = ap not e

-- the scope whose parameters are seen has its own
pub own_owner : (d : Deployment) (p : Position) → is_own d (owner d.template p) ≡ true
unfolding owner
own_owner d [] = refl
own_owner d (s ∷ p) = by_outer d s p (is_outer (nested_of d.template p s)) refl (own_owner d p)

told_nothing : (t : Table) → told_in t (pure {A = Option Fact} None) ≡ value None
unfolding told
told_nothing t = refl

module _ (t : Table) (f : ℕ) (x : List ℕ) (e : Site) (ready : IsReady t) (h : f < length (scopes_of t))
    (here : e.at ≡ (scope_at t f).position) where
  abbrev d : Deployment
  d = whole_of t

  abbrev o : ℕ
  o = (scope_at t f).owner

  kept_here : IsKept d (scopes_of t) f (scope_at t f)
  kept_here = ready.laid.kept f h

  pub owner_there : o < length (scopes_of t)
  owner_there = let l = kept_here.owner_listed in omega (arith, l, h)

  kept_owner : IsKept d (scopes_of t) o (scope_at t o)
  kept_owner = ready.laid.kept o owner_there

  owner_is : owner d.template e.at ≡ (scope_at t o).position
  owner_is = ap (owner d.template) here ∙ sym kept_here.owner

  owner_own : (scope_at t o).is_own ≡ true
  owner_own = kept_owner.own ∙ ap (is_own d) (sym owner_is) ∙ own_owner d e.at

  declared_by : {A : Type 0} (g : TemplateTree → Option A) (b : Bool) → is_some (g (scope_at t o).template) ≡ b
      → (c : Position → Cell)
      → declared_value (declares g (template_at d.template (owner d.template e.at))) (c (owner d.template e.at))
      ≡ declared_value b (c (scope_at t o).position)
  declared_by g b q c =
      ap (λ p. declared_value (declares g (template_at d.template p)) (c p)) owner_is
      ∙ ap (λ u. declared_value (declares g u) (c (scope_at t o).position)) kept_owner.template
      ∙ ap (λ y. declared_value y (c (scope_at t o).position)) q

  pub parameter_seen : (place : Place) (j : ℕ) → IsLineOf t o (parameter (scope_at t o).position x) j
      → told_in t (looked_up d.template place e (look.parameter x)) ≡ value_told t j
  parameter_seen place j l =
      ap (told_in t) (declared_by (parameter_named x) true
      (named (λ p. p.name) x (header_in (scope_at t o).template).parameters l.has.1)
      (λ p. parameter p x) ∙ ap value_of (sym l.is))

  pub parameter_unseen : (place : Place) → (HasCell (scope_at t o) (parameter (scope_at t o).position x) → ⊥)
      → told_in t (looked_up d.template place e (look.parameter x)) ≡ value None
  parameter_unseen place n =
      ap (told_in t) (declared_by (parameter_named x) false
      (ap is_some (not_named (λ p. p.name) x (header_in (scope_at t o).template).parameters
      (λ y. n (owner_own, y)))) (λ p. parameter p x)) ∙ told_nothing t

  pub variable_seen : (place : Place) (j : ℕ) → IsLineOf t o (variable (scope_at t o).position x) j
      → told_in t (looked_up d.template place e (look.variable x)) ≡ value_told t j
  variable_seen place j l =
      ap (told_in t) (declared_by (variable_named x) true
      (named (λ p. p.name) x (header_in (scope_at t o).template).variables l.has.1)
      (λ p. variable p x) ∙ ap value_of (sym l.is))

  pub variable_unseen : (place : Place) → (HasCell (scope_at t o) (variable (scope_at t o).position x) → ⊥)
      → told_in t (looked_up d.template place e (look.variable x)) ≡ value None
  variable_unseen place n =
      ap (told_in t) (declared_by (variable_named x) false
      (ap is_some (not_named (λ p. p.name) x (header_in (scope_at t o).template).variables
      (λ y. n (owner_own, y)))) (λ p. variable p x)) ∙ told_nothing t

-- ---- the frame that was read

pub scope_is : (t : Table) (f : ℕ) (x : Frame) → f < length t.frames.items → x ≡ get_or t.frames.items f x
    → scope_at t f ≡ opened_of x
scope_is t f x h e = frame_is t.frames.items f x h e

pub owner_is_of : (t : Table) (f : ℕ) (x : Frame) → f < length t.frames.items → x ≡ get_or t.frames.items f x
    → x.owner ≡ (scope_at t f).owner
owner_is_of t f x h e = ap (λ (o : Opened). o.owner) (sym (scope_is t f x h e))

pub scopes_there : (t : Table) (f : ℕ) → f < length t.frames.items → f < length (scopes_of t)
scopes_there t f h = let n = length-map t.frames.items opened_of in omega (arith, n, h)

pub frames_there : (t : Table) (f : ℕ) → f < length (scopes_of t) → f < length t.frames.items
frames_there t f h = let n = length-map t.frames.items opened_of in omega (arith, n, h)

pub owner_within : (t : Table) (f : ℕ) (x : Frame) → IsReady t → f < length t.frames.items
    → x ≡ get_or t.frames.items f x → x.owner < length t.frames.items
owner_within t f x ready h e =
    let least = (ready.laid.kept f (scopes_there t f h)).owner_listed in
    let same = owner_is_of t f x h e in omega (arith, least, same, h)

-- what a look-up found, and that it found nothing
pub found_some : (P : ℕ → Type 0) (o : Option ℕ) (j : ℕ) → o ≡ Some j → MatchOption o (Unit {0}) P → P j
found_some P (Some i) j e h = subst P (let same : i ≡ j = cc in same) h
found_some P None j e h = absurd (cc)

pub found_none : (X : Type 0) (o : Option ℕ) → o ≡ None → MatchOption o X (λ _. Unit {0}) → X
found_none X (Some i) e h = absurd (cc)
found_none X None e h = h

-- ---- parameters and variables, by the line that was found or not

module _ (t : Table) (f : ℕ) (x : List ℕ) (fr : Frame) (ready : IsReady t) (h : f < length t.frames.items)
    (read : fr ≡ get_or t.frames.items f fr) where
  same : fr.owner ≡ (scope_at t f).owner
  same = owner_is_of t f fr h read

  pub parameter_shown : {X : Type 0} (view : X → Fact) (r : Result X Lack) (at : ℕ)
      → IsLineOf t fr.owner (parameter (scope_at t fr.owner).position x) at → Shows view t r (value_told t at)
      → (place : Place) (e : Site) → e.at ≡ (scope_at t f).position
      → Shows view t r (told_in t (looked_up (whole_of t).template place e (look.parameter x)))
  parameter_shown view r at l s place e here =
      subst (Shows view t r)
      (sym (parameter_seen t f x e ready (scopes_there t f h) here place at
      (subst (λ o. IsLineOf t o (parameter (scope_at t o).position x) at) same l))) s

  pub parameter_hidden : (HasCell (scope_at t fr.owner) (parameter (scope_at t fr.owner).position x) → ⊥)
      → (place : Place) (e : Site) → e.at ≡ (scope_at t f).position
      → told_in t (looked_up (whole_of t).template place e (look.parameter x)) ≡ value None
  parameter_hidden n place e here =
      parameter_unseen t f x e ready (scopes_there t f h) here place
      (subst (λ o. HasCell (scope_at t o) (parameter (scope_at t o).position x) → ⊥) same n)

  pub variable_shown : {X : Type 0} (view : X → Fact) (r : Result X Lack) (at : ℕ)
      → IsLineOf t fr.owner (variable (scope_at t fr.owner).position x) at → Shows view t r (value_told t at)
      → (place : Place) (e : Site) → e.at ≡ (scope_at t f).position
      → Shows view t r (told_in t (looked_up (whole_of t).template place e (look.variable x)))
  variable_shown view r at l s place e here =
      subst (Shows view t r)
      (sym (variable_seen t f x e ready (scopes_there t f h) here place at
      (subst (λ o. IsLineOf t o (variable (scope_at t o).position x) at) same l))) s

  pub variable_hidden : (HasCell (scope_at t fr.owner) (variable (scope_at t fr.owner).position x) → ⊥)
      → (place : Place) (e : Site) → e.at ≡ (scope_at t f).position
      → told_in t (looked_up (whole_of t).template place e (look.variable x)) ≡ value None
  variable_hidden n place e here =
      variable_unseen t f x e ready (scopes_there t f h) here place
      (subst (λ o. HasCell (scope_at t o) (variable (scope_at t o).position x) → ⊥) same n)
