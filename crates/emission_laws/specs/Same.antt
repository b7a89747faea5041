-- Declarations that become the same.
use Rattle.std.specs.Prelude.{◌≡◌, ℕ, List}
use Rattle.declaration_laws.specs.Emitted.{Frame, Scope}
use Rattle.declaration_laws.specs.Declared.{Emission}
use Rattle.emission_laws.specs.Holes.{IsRun}

-- where expressions use the declaration of that number, it becomes the same in both
pub record SameScope (a b : Scope) (n : ℕ) : Type 0 where
  pub variable : a.variable n ≡ b.variable n
  pub items : a.items n ≡ b.items n
  pub name : (fs : List Frame) → IsRun fs → a.name n fs ≡ b.name n fs
  pub id : (fs : List Frame) → IsRun fs → a.id n fs ≡ b.id n fs

-- and where other declarations use it
pub record SameEmission (a b : Emission) (n : ℕ) : Type 0 where
  pub scope : SameScope a.scope b.scope n
  pub full_name : (fs : List Frame) → IsRun fs → a.full_name n fs ≡ b.full_name n fs
  pub condition : (fs : List Frame) → IsRun fs → a.condition n fs ≡ b.condition n fs
  pub parts : (fs : List Frame) → IsRun fs → a.parts n fs ≡ b.parts n fs
