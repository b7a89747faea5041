-- The lines of the parameters or variables of a scope, one after another.
use Rattle.std.proofs.Common.{◌≡◌, inl, inr, ℕ, zero, suc, ◌+◌, ◌<◌, ◌≤◌, Bool, true, false, List, [], ◌∷◌, ◌++◌}
use Rattle.std.proofs.Common.{map, length, drop, get_or, refl, sym, ap, subst, ◌∙◌, arith}
use Rattle.std.proofs.lemmas.List.{drop_all, append_assoc, append-nil}
use Rattle.std.proofs.Math.Seq.{drop-cons}
use Rattle.reading.specs.World.{Each}
use Rattle.deploy_cells.specs.Cells.{Cell, parameter, variable}
use Rattle.plan_cells.specs.Children.{Has, own_cells, parameter_names, variable_names}
use Rattle.plan_table.specs.declared.table.Table.{Table}
use Rattle.plan_table.specs.declared.line.Spot.{Spot}
use Rattle.plan_table.specs.declared.line.Spot.TheVariants.{Parameter, Variable, Offered, Output, Count, Included}
use Rattle.plan_table.specs.declared.line.Spot.TheVariants.{Name, Deployments}
use Rattle.plan_table.specs.Lines.{frame_of, cell_of, line_at}
use Rattle.plan_table.specs.Opened.{Opened}
use Rattle.plan_table.specs.Whole.{scopes_of}
use Rattle.plan_table.specs.Found.{scope_at, IsLineOf}
use Rattle.plan_sight.specs.Ready.{IsReady}
use Rattle.std.proofs.lemmas.Bool.{eq-eqb}
use Rattle.scope_entries.specs.Entries.{line_cell, is_own_spot, IsOwnLine, AreOwnLines, cells_at, AreLinesOf}
use Rattle.scope_entries.proofs.OwnLemmas.{own_is}

pub each_more : (P : ℕ → Type 0) (js : List ℕ) (j : ℕ) → Each P js → P j → Each P (js ++ j ∷ [])
each_more P [] j e h = (h, tt)
each_more P (i ∷ is) j e h = (e.0, each_more P is j e.1 h)

pub cells_more : (t : Table) (js : List ℕ) (j : ℕ) → cells_at t (js ++ j ∷ []) ≡ cells_at t js ++ line_cell t j ∷ []
cells_more t [] j = refl
cells_more t (i ∷ is) j = ap (λ (cs : List Cell). line_cell t i ∷ cs) (cells_more t is j)

pub each_line : (t : Table) (f : ℕ) (js is : List ℕ) (j : ℕ) → is ≡ js ++ j ∷ [] → AreOwnLines t f js
    → IsOwnLine t f j → AreOwnLines t f is
each_line t f js is j e own line =
    subst (AreOwnLines t f) (sym e) (each_more (IsOwnLine t f) js j own line)

pub name_there : {A : Type 0} (g : A → List ℕ) (xs : List A) (i : ℕ) (x : A) → i < length xs → x ≡ get_or xs i x
    → Has (g x) (map g xs)
name_there g [] i x h e = absurd (omega (arith, h))
name_there g (y ∷ ys) zero x h e = inl (ap g (sym e))
name_there g (y ∷ ys) (suc i) x h e = inr (name_there g ys i x (omega (arith, h)) e)

-- a line that has the cell of a parameter or a variable is one of the scope
abbrev pub is_parameter : Cell → Bool
is_parameter (parameter p x) = true
is_parameter (variable p x) = true
is_parameter _ = false

own_spot : (os : List Opened) (f : ℕ) (s : Spot) (c : Cell) → cell_of os s ≡ c → is_parameter c ≡ true → frame_of s ≡ f
    → is_own_spot f s ≡ true
own_spot os f (Parameter g n) c e p q = eq-eqb g f q
own_spot os f (Variable g n) c e p q = eq-eqb g f q
own_spot os f (Offered g n) c e p q = let no : false ≡ true = ap is_parameter e ∙ p in absurd (cc)
own_spot os f (Output g n) c e p q = let no : false ≡ true = ap is_parameter e ∙ p in absurd (cc)
own_spot os f (Count g r) c e p q = let no : false ≡ true = ap is_parameter e ∙ p in absurd (cc)
own_spot os f (Included g r i) c e p q = let no : false ≡ true = ap is_parameter e ∙ p in absurd (cc)
own_spot os f (Name g r i) c e p q = let no : false ≡ true = ap is_parameter e ∙ p in absurd (cc)
own_spot os f (Deployments g) c e p q = let no : false ≡ true = ap is_parameter e ∙ p in absurd (cc)

pub found_own : (t : Table) (f j : ℕ) (c : Cell) → is_parameter c ≡ true → IsLineOf t f c j → IsOwnLine t f j
found_own t f j c p l = record {
  listed = l.listed;
  is_own = own_spot (scopes_of t) f (line_at t.lines.items j).spot c l.is p l.frame;
}

-- ---- one name after another

module _ (t : Table) (c : List ℕ → Cell) where
  -- the lines have the cells that they had, and those of the names but for those that are left
  abbrev pub LinesLeft : List Cell → List (List ℕ) → List ℕ → List (List ℕ) → Type 0
  LinesLeft before names js rest = cells_at t js ++ map c rest ≡ before ++ map c names

  pub lines_begin : (names rest : List (List ℕ)) (js : List ℕ) → rest ≡ names
      → LinesLeft (cells_at t js) names js rest
  lines_begin names rest js e = ap (λ (xs : List (List ℕ)). cells_at t js ++ map c xs) e

  pub lines_more : (before : List Cell) (names left rest : List (List ℕ)) (js is : List ℕ) (y : List ℕ) (j : ℕ)
      → left ≡ y ∷ rest → is ≡ js ++ j ∷ [] → line_cell t j ≡ c y → LinesLeft before names js left
      → LinesLeft before names is rest
  lines_more before names left rest js is y j e g l a =
      ap (λ (ks : List ℕ). cells_at t ks ++ map c rest) g
      ∙ ap (λ (cs : List Cell). cs ++ map c rest) (cells_more t js j)
      ∙ append_assoc (cells_at t js) (line_cell t j ∷ []) (map c rest)
      ∙ ap (λ (d : Cell). cells_at t js ++ d ∷ map c rest) l
      ∙ ap (λ (xs : List (List ℕ)). cells_at t js ++ map c xs) (sym e)
      ∙ a

  pub lines_end : (before : List Cell) (names rest : List (List ℕ)) (js : List ℕ) → rest ≡ []
      → LinesLeft before names js rest → cells_at t js ≡ before ++ map c names
  lines_end before names rest js e a =
      sym (append-nil (cells_at t js)) ∙ ap (λ (xs : List (List ℕ)). cells_at t js ++ map c xs) (sym e) ∙ a

-- what is left of a slice, name by name
pub names_here : {A : Type 0} (g : A → List ℕ) (xs : List A) (i : ℕ) (x : A) → i < length xs → x ≡ get_or xs i x
    → map g (drop i xs) ≡ g x ∷ map g (drop (i + 1) xs)
names_here g xs i x h e =
    subst (λ (k : ℕ). map g (drop i xs) ≡ g x ∷ map g (drop k xs)) (let z : suc i ≡ i + 1 = omega arith in z)
    (ap (map g) (drop-cons xs i x h) ∙ ap (λ y. g y ∷ map g (drop (suc i) xs)) (sym e))

pub names_gone : {A : Type 0} (g : A → List ℕ) (xs : List A) (i : ℕ) → length xs ≤ i → map g (drop i xs) ≡ []
names_gone g xs i h = ap (map g) (drop_all i xs h)

-- ---- all lines of a scope

pub all_lines : (t : Table) (f : ℕ) (ready : IsReady t) (there : f < length t.frames.items) (none some js : List ℕ)
    → none ≡ [] → (scope_at t f).is_own ≡ true → AreOwnLines t f js
    → cells_at t some
    ≡ cells_at t none ++ map (parameter (scope_at t f).position) (parameter_names (scope_at t f).template)
    → cells_at t js
    ≡ cells_at t some ++ map (variable (scope_at t f).position) (variable_names (scope_at t f).template)
    → AreLinesOf t f js
all_lines t f ready there none some js e o own ps vs = record {
  own = own;
  cells =
      vs
      ∙ ap (λ (cs : List Cell). cs ++ map (variable (scope_at t f).position) (variable_names (scope_at t f).template))
      (ps ∙ ap (λ (is : List ℕ). cells_at t is
      ++ map (parameter (scope_at t f).position) (parameter_names (scope_at t f).template)) e)
      ∙ sym (own_is t f ready there
      ∙ ap (λ (b : Bool). own_cells b (scope_at t f).position (scope_at t f).template) o);
}

pub no_lines : (t : Table) (f : ℕ) (ready : IsReady t) (there : f < length t.frames.items) (js : List ℕ)
    → js ≡ [] → (scope_at t f).is_own ≡ false → AreLinesOf t f js
no_lines t f ready there js e n = record {
  own = subst (AreOwnLines t f) (sym e) tt;
  cells =
      ap (cells_at t) e
      ∙ sym (own_is t f ready there
      ∙ ap (λ (b : Bool). own_cells b (scope_at t f).position (scope_at t f).template) n);
}
