-- A line that is found is that of the cell, and the line of a cell that is there is found.
use Rattle.std.proofs.Common.{◌≡◌, ◌⊎◌, inl, inr, ℕ, zero, suc, ◌<◌, ◌≤◌, Bool, true, false, List, [], ◌∷◌, map, length}
use Rattle.std.proofs.Common.{get_or, Option, Some, None, refl, sym, ap, subst, ◌∙◌, arith}
use Rattle.std.specs.Prelude.{MatchOption}
use Rattle.arm_value.specs.View.{json}
use Rattle.plan_filling.specs.Cells.{Step, step, Position, Cell, parameter, variable, offered, output, count, included, name, deployments, state, copies}
use Rattle.plan_filling.specs.Meaning.{Deployment}
use Rattle.plan_filling.specs.Desired.{is_state}
use Rattle.plan_filling.specs.Children.{Has, parameter_names, variable_names, output_names}
use Rattle.plan_table.specs.declared.table.Table.{Table}
use Rattle.plan_table.specs.declared.line.Line.{Line}
use Rattle.plan_table.specs.declared.line.Spot.{Spot}
use Rattle.plan_table.specs.declared.line.Spot.TheVariants.{Parameter, Variable, Offered, Output, Count, Included}
use Rattle.plan_table.specs.declared.line.Spot.TheVariants.{Name, Deployments}
use Rattle.plan_table.specs.declared.line.State.{State}
use Rattle.plan_table.specs.declared.line.State.TheVariants as how
use Rattle.plan_table.specs.Opened.{Opened, opened_at}
use Rattle.plan_table.specs.Lines.{frame_of, name_at, cell_in, cell_of, IsNumber, IsDeclared, IsPlaced, line_at, IsAt}
use Rattle.plan_table.specs.Keys.{shape, key_of}
use Rattle.plan_table.specs.Laid.{IsOfScope, OpensBy, Laid}
use Rattle.plan_table.specs.Whole.{whole_of, scopes_of, IsLaid}
use Rattle.plan_table.specs.Found.{scope_at, HasCell, IsLineOf, state_at, Counts, IsTrueLine}
use Rattle.plan_table.proofs.KeyLemmas.{position_in, one_frame, cell_by_key, one_shape, in_scope, no_state}
use Rattle.arm_value.specs.Kinds.{is_true}

has_at : (xs : List (List ℕ)) (n : ℕ) → n < length xs → Has (name_at xs n) xs
has_at [] n h = absurd (omega (arith, h))
has_at (x ∷ xs) zero h = inl refl
has_at (x ∷ xs) (suc n) h = inr (has_at xs n (omega (arith, h)))

-- where a name is
record IsNameAt (xs : List (List ℕ)) (x : List ℕ) : Type 0 where
  number : ℕ
  listed : number < length xs
  is : name_at xs number ≡ x

name_is_at : (xs : List (List ℕ)) (x : List ℕ) → Has x xs → IsNameAt xs x
name_is_at [] x h = absurd h
name_is_at (y ∷ xs) x (inl e) = record { number = 0; listed = omega arith; is = e }
name_is_at (y ∷ xs) x (inr h) =
    let r = name_is_at xs x h in let l =
    r.listed in record { number = suc r.number; listed = omega (arith, l); is = r.is }

has_cell : (o : Opened) (s : Spot) → IsDeclared o s → HasCell o (cell_in o s)
has_cell o (Parameter f n) h = (h.0, has_at (parameter_names o.template) n h.1)
has_cell o (Variable f n) h = (h.0, has_at (variable_names o.template) n h.1)
has_cell o (Offered f n) h = has_at (output_names o.template) n h
has_cell o (Output f n) h = has_at (output_names o.template) n h
has_cell o (Count f r) h = h
has_cell o (Included f r i) h = h.0
has_cell o (Name f r i) h = h.0
has_cell o (Deployments f) h = tt

-- a line with the key of a cell is its line
pub found : (t : Table) (f : ℕ) (c : Cell) (j : ℕ) → IsLaid t → is_state c ≡ false
    → position_in c ≡ (scope_at t f).position → j < length t.lines.items
    → key_of (scopes_of t) (line_at t.lines.items j).spot ≡ f ∷ shape c → IsLineOf t f c j
found t f c j laid a e h k =
    let s : Spot = (line_at t.lines.items j).spot in
    let is : cell_of (scopes_of t) s ≡ c = cell_by_key (scopes_of t) s f c a e k in
    let placed : IsPlaced (scopes_of t) s = laid.placed j h in
    record {
      listed = h;
      frame = one_frame (scopes_of t) s f (shape c) k;
      is = is;
      has = subst (λ d. HasCell (scope_at t f) d) is
          (subst (λ g. HasCell (scope_at t g) (cell_of (scopes_of t) s)) (one_frame (scopes_of t) s f (shape c) k)
          (has_cell (opened_at (scopes_of t) (frame_of s)) s placed.declared));
    }

-- no line has the key of the cell
abbrev pub HasNone : Table → ℕ → Cell → Type 0
HasNone t f c = (j : ℕ) → j < length t.lines.items
    → f ∷ shape c ≡ key_of (scopes_of t) (line_at t.lines.items j).spot → ⊥

-- a spot of the cell is at no line
none_at : (t : Table) (s : Spot) → HasNone t (frame_of s) (cell_of (scopes_of t) s) → IsAt t.lines.items s → ⊥
none_at t s h a = h a.line a.listed (sym (ap (key_of (scopes_of t)) a.is))

none_of_scope : (t : Table) (s : Spot) (c : Cell) → IsLaid t → frame_of s < length (scopes_of t) → IsOfScope s
    → IsDeclared (opened_at (scopes_of t) (frame_of s)) s → cell_of (scopes_of t) s ≡ c → HasNone t (frame_of s) c → ⊥
none_of_scope t s c laid h u q e n =
    none_at t s (subst (HasNone t (frame_of s)) (sym e) n) (laid.cells (frame_of s) h s refl u q)

pub no_parameter : (t : Table) (f : ℕ) (x : List ℕ) → IsLaid t → f < length (scopes_of t)
    → HasNone t f (parameter (scope_at t f).position x)
    → HasCell (scope_at t f) (parameter (scope_at t f).position x) → ⊥
no_parameter t f x laid h n c =
    let r = name_is_at (parameter_names (scope_at t f).template) x c.1 in
    none_of_scope t (Parameter f r.number) (parameter (scope_at t f).position x) laid h tt (c.0, r.listed)
    (ap (parameter (scope_at t f).position) r.is) n

pub no_variable : (t : Table) (f : ℕ) (x : List ℕ) → IsLaid t → f < length (scopes_of t)
    → HasNone t f (variable (scope_at t f).position x) → HasCell (scope_at t f) (variable (scope_at t f).position x) → ⊥
no_variable t f x laid h n c =
    let r = name_is_at (variable_names (scope_at t f).template) x c.1 in
    none_of_scope t (Variable f r.number) (variable (scope_at t f).position x) laid h tt (c.0, r.listed)
    (ap (variable (scope_at t f).position) r.is) n

pub no_offered : (t : Table) (f : ℕ) (x : List ℕ) → IsLaid t → f < length (scopes_of t)
    → HasNone t f (offered (scope_at t f).position x) → HasCell (scope_at t f) (offered (scope_at t f).position x) → ⊥
no_offered t f x laid h n c =
    let r = name_is_at (output_names (scope_at t f).template) x c in
    none_of_scope t (Offered f r.number) (offered (scope_at t f).position x) laid h tt r.listed
    (ap (offered (scope_at t f).position) r.is) n

pub no_count : (t : Table) (f r : ℕ) → IsLaid t → f < length (scopes_of t)
    → HasNone t f (count (scope_at t f).position r) → IsNumber (scope_at t f) r → ⊥
no_count t f r laid h n c = none_of_scope t (Count f r) (count (scope_at t f).position r) laid h tt c refl n

pub no_deployments : (t : Table) (f : ℕ) → IsLaid t → f < length (scopes_of t)
    → HasNone t f (deployments (scope_at t f).position) → ⊥
no_deployments t f laid h n = none_of_scope t (Deployments f) (deployments (scope_at t f).position) laid h tt tt refl n

-- ---- by the value of another line

is_count : (o : Opened) (s : Spot) (f r : ℕ) → frame_of s ≡ f → cell_in o s ≡ count o.position r → s ≡ Count f r
is_count o (Parameter g n) f r e c = cc
is_count o (Variable g n) f r e c = cc
is_count o (Offered g n) f r e c = cc
is_count o (Output g n) f r e c = cc
is_count o (Count g q) f r e c = let same : q ≡ r = cc in cc
is_count o (Included g q i) f r e c = cc
is_count o (Name g q i) f r e c = cc
is_count o (Deployments g) f r e c = cc

counted_at : (os : List Opened) (ls : List Line) (g f r i : ℕ) (x : State) → OpensBy os ls g (Count f r) x → Counts i x
    → IsAt ls (Included f r i) × IsAt ls (Name f r i)
counted_at os ls g f r i (how.Value v) o c = o i c
counted_at os ls g f r i how.New o c = absurd c
counted_at os ls g f r i how.Open o c = absurd c
counted_at os ls g f r i how.Empty o c = absurd c
counted_at os ls g f r i (how.Late k) o c = absurd c

-- the instance of a count that has it is listed
instance_at : (t : Table) (f r i j : ℕ) → IsLaid t → IsLineOf t f (count (scope_at t f).position r) j
    → Counts i (state_at t j) → IsAt t.lines.items (Included f r i) × IsAt t.lines.items (Name f r i)
instance_at t f r i j laid l c =
    let s : Spot = (line_at t.lines.items j).spot in
    let in_frame : cell_in (scope_at t f) s ≡ count (scope_at t f).position r =
    ap (λ g. cell_in (scope_at t g) s) (sym l.frame) ∙ l.is in
    let is : s ≡ Count f r = is_count (scope_at t f) s f r l.frame in_frame in
    counted_at (scopes_of t) t.lines.items (line_at t.lines.items j).opened f r i (state_at t j)
    (subst (λ y. OpensBy (scopes_of t) t.lines.items (line_at t.lines.items j).opened y (state_at t j)) is
    (laid.opens j l.listed)) c

pub no_included : (t : Table) (f r i : ℕ) → IsLaid t
    → HasNone t f (included (scope_at t f).position (step r i)) → (j : ℕ)
    → IsLineOf t f (count (scope_at t f).position r) j → Counts i (state_at t j) → ⊥
no_included t f r i laid n j l c = none_at t (Included f r i) n (instance_at t f r i j laid l c).0

pub no_name : (t : Table) (f r i : ℕ) → IsLaid t → HasNone t f (name (scope_at t f).position (step r i)) → (j : ℕ)
    → IsLineOf t f (count (scope_at t f).position r) j → Counts i (state_at t j) → ⊥
no_name t f r i laid n j l c = none_at t (Name f r i) n (instance_at t f r i j laid l c).1

-- the condition of which output it is
record IsOffered (o : Opened) (f : ℕ) (x : List ℕ) (s : Spot) : Type 0 where
  number : ℕ
  is : s ≡ Offered f number
  named : name_at (output_names o.template) number ≡ x

is_offered : (o : Opened) (s : Spot) (f : ℕ) (x : List ℕ) → frame_of s ≡ f → cell_in o s ≡ offered o.position x
    → IsOffered o f x s
is_offered o (Parameter g n) f x e c = absurd (cc)
is_offered o (Variable g n) f x e c = absurd (cc)
is_offered o (Offered g n) f x e c = record {
  number = n;
  is = ap (λ h. Offered h n) e;
  named = (let same : name_at (output_names o.template) n ≡ x = cc in same);
}
is_offered o (Output g n) f x e c = absurd (cc)
is_offered o (Count g q) f x e c = absurd (cc)
is_offered o (Included g q i) f x e c = absurd (cc)
is_offered o (Name g q i) f x e c = absurd (cc)
is_offered o (Deployments g) f x e c = absurd (cc)

offered_at : (os : List Opened) (ls : List Line) (g f n : ℕ) (x : State) → OpensBy os ls g (Offered f n) x
    → IsTrueLine x → IsAt ls (Output f n)
offered_at os ls g f n (how.Value v) o c = o c
offered_at os ls g f n how.New o c = absurd c
offered_at os ls g f n how.Open o c = absurd c
offered_at os ls g f n how.Empty o c = absurd c
offered_at os ls g f n (how.Late k) o c = absurd c

pub no_output : (t : Table) (f : ℕ) (x : List ℕ) → IsLaid t → HasNone t f (output (scope_at t f).position x) → (j : ℕ)
    → IsLineOf t f (offered (scope_at t f).position x) j → IsTrueLine (state_at t j) → ⊥
no_output t f x laid n j l c =
    let s : Spot = (line_at t.lines.items j).spot in
    let r = is_offered (scope_at t f) s f x l.frame (ap (λ g. cell_in (scope_at t g) s) (sym l.frame) ∙ l.is) in
    none_at t (Output f r.number)
    (subst (HasNone t f) (ap (output (scope_at t f).position) (sym r.named)) n)
    (offered_at (scopes_of t) t.lines.items (line_at t.lines.items j).opened f r.number (state_at t j)
    (subst (λ y. OpensBy (scopes_of t) t.lines.items (line_at t.lines.items j).opened y (state_at t j)) r.is
    (laid.opens j l.listed)) c)

-- ---- what is found by a key

pub line_found : (t : Table) (f : ℕ) (c : Cell) (key : List ℕ) (o : Option ℕ) → IsLaid t → is_state c ≡ false
    → position_in c ≡ (scope_at t f).position → key ≡ f ∷ shape c
    → MatchOption o (Unit {0}) (λ j. (j < length t.lines.items)
    × (key_of (scopes_of t) (line_at t.lines.items j).spot ≡ key))
    → MatchOption o (Unit {0}) (IsLineOf t f c)
line_found t f c key None laid a e k h = tt
line_found t f c key (Some j) laid a e k h = found t f c j laid a e h.0 (h.1 ∙ k)

pub line_missing : (t : Table) (f : ℕ) (c : Cell) (key : List ℕ) (o : Option ℕ) (X : Type 0) → key ≡ f ∷ shape c
    → MatchOption o ((j : ℕ) → j < length t.lines.items
    → key ≡ key_of (scopes_of t) (line_at t.lines.items j).spot → ⊥) (λ _. Unit {0})
    → (HasNone t f c → X) → MatchOption o X (λ _. Unit {0})
line_missing t f c key None X k h g = g (λ j l e. h j l (k ∙ e))
line_missing t f c key (Some j) X k h g = tt

pub line_there : (t : Table) (f : ℕ) (c : Cell) (key : List ℕ) (o : Option ℕ) → IsLaid t → is_state c ≡ false
    → position_in c ≡ (scope_at t f).position → key ≡ f ∷ shape c
    → MatchOption o (Unit {0}) (λ j. (j < length t.lines.items)
    × (key_of (scopes_of t) (line_at t.lines.items j).spot ≡ key))
    → MatchOption o ((j : ℕ) → j < length t.lines.items
    → key ≡ key_of (scopes_of t) (line_at t.lines.items j).spot → ⊥) (λ _. Unit {0})
    → (HasNone t f c → ⊥) → MatchOption o ⊥ (IsLineOf t f c)
line_there t f c key None laid a e k h m g = g (λ j l q. m j l (k ∙ q))
line_there t f c key (Some j) laid a e k h m g = found t f c j laid a e h.0 (h.1 ∙ k)
