-- A table in which each cell is found.
use Rattle.std.specs.Prelude.{◌≡◌, ◌⊎◌, ℕ, ◌<◌, List, [], ◌∷◌, true, false, length, Some, None}
use Rattle.arm_value.specs.Json.{Json}
use Rattle.arm_value.specs.View.{json}
use Rattle.plan_filling.specs.Cells.{step, copies}
use Rattle.plan_filling.specs.Resources.{Nested, nested_at}
use Rattle.plan_filling.specs.Meaning.{Deployment}
use Rattle.plan_table.specs.declared.line.Line.{Line}
use Rattle.plan_table.specs.declared.line.Spot.{Spot}
use Rattle.plan_table.specs.declared.line.Spot.TheVariants.{Parameter, Variable, Offered, Output, Count, Included}
use Rattle.plan_table.specs.declared.line.Spot.TheVariants.{Name, Deployments}
use Rattle.plan_table.specs.declared.line.State.{State}
use Rattle.plan_table.specs.declared.line.State.TheVariants as how
use Rattle.plan_table.specs.Opened.{Opened, opened_at, IsKept}
use Rattle.plan_table.specs.Lines.{frame_of, IsDeclared, IsPlaced, line_at, IsAt}
use Rattle.plan_table.specs.Keys.{Index, Indexes}
use Rattle.arm_value.specs.Kinds.{is_true}

-- the cell is there with its scope, and not by another value
abbrev pub IsOfScope : Spot → Type 0
IsOfScope (Parameter f n) = Unit {0}
IsOfScope (Variable f n) = Unit {0}
IsOfScope (Offered f n) = Unit {0}
IsOfScope (Count f r) = Unit {0}
IsOfScope (Deployments f) = Unit {0}
IsOfScope (Output f n) = ⊥
IsOfScope (Included f r i) = ⊥
IsOfScope (Name f r i) = ⊥

-- each cell that the scope number f has is listed
abbrev pub HasCells : List Opened → List Line → ℕ → Type 0
HasCells os ls f = (s : Spot) → frame_of s ≡ f → IsOfScope s → IsDeclared (opened_at os f) s → IsAt ls s

-- the scope number g is the one that an instance of the scope number f opened
pub record IsOpened (os : List Opened) (g f r i : ℕ) : Type 0 where
  pub there : g < length os
  pub position : (opened_at os g).position ≡ step r i ∷ (opened_at os f).position

-- what the cell of a spot opened, where it has a value, is listed
abbrev pub OpensBy : List Opened → List Line → ℕ → Spot → State → Type 0
OpensBy os ls g (Count f r) (how.Value v) =
    (i : ℕ) → i < copies (Some (json v)) → IsAt ls (Included f r i) × IsAt ls (Name f r i)
OpensBy os ls g (Offered f n) (how.Value v) = is_true (Some (json v)) ≡ true → IsAt ls (Output f n)
OpensBy os ls g (Included f r i) (how.Value v) =
    is_true (Some (json v)) ≡ true → (n : Nested) → nested_at (opened_at os f).template r ≡ Some n
    → IsOpened os g f r i
OpensBy os ls g _ _ = Unit {0}

abbrev pub Opens : List Opened → List Line → Line → Type 0
Opens os ls l = OpensBy os ls l.opened l.spot l.state

-- how the scopes and lines of a table lie
pub record Laid (d : Deployment) (os : List Opened) (ix : Index) (ls : List Line) : Type 0 where
  pub some : 0 < length os
  pub root : (opened_at os 0).position ≡ []
  pub kept : (f : ℕ) → f < length os → IsKept d os f (opened_at os f)
  pub cells : (f : ℕ) → f < length os → HasCells os ls f
  pub placed : (j : ℕ) → j < length ls → IsPlaced os (line_at ls j).spot
  pub opens : (j : ℕ) → j < length ls → Opens os ls (line_at ls j)
  pub indexed : Indexes os ix ls

-- a value that opens nothing
abbrev pub IsAlone : List Opened → Spot → Json → Type 0
IsAlone os (Parameter f n) v = Unit {0}
IsAlone os (Variable f n) v = Unit {0}
IsAlone os (Offered f n) v = is_true (Some v) ≡ false
IsAlone os (Output f n) v = Unit {0}
IsAlone os (Count f r) v = copies (Some v) ≡ 0
IsAlone os (Included f r i) v = (is_true (Some v) ≡ false) ⊎ (nested_at (opened_at os f).template r ≡ None)
IsAlone os (Name f r i) v = Unit {0}
IsAlone os (Deployments f) v = Unit {0}
