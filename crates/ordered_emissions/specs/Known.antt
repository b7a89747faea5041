-- What declarations become where only some of them are known.
use Rattle.std.specs.Prelude.{◌≡◌, ℕ, Bool, List, [], ◌∷◌, map, if◌then◌else◌}
use Rattle.arm_expr.specs.Tree.{Tree}
use Rattle.bicep_emission.specs.Emitted.{Frame, Scope, no_value}
use Rattle.emission_laws.specs.Declared.{Emission}
use Rattle.emission_laws.specs.Holes.{fill, holes, nearest, IsRun}

-- of a symbol that is known what it becomes, made of that with holes; of another nothing
abbrev pub known_scope : (ℕ → Bool) → Scope → Scope
known_scope p sc = record {
  variable = λ n. if p n then sc.variable n else no_value;
  items = λ n. if p n then sc.items n else no_value;
  name = λ n fs. if p n then fill (nearest fs) (sc.name n (holes ∷ [])) else no_value;
  id = λ n fs. if p n then fill (nearest fs) (sc.id n (holes ∷ [])) else no_value;
}

abbrev pub known : (ℕ → Bool) → Emission → Emission
known p b = record {
  scope = known_scope p b.scope;
  full_name = λ n fs. if p n then b.full_name n fs else no_value;
  condition = λ n fs. if p n then b.condition n fs else no_value;
  parts = λ n fs. if p n then map (fill (nearest fs)) (b.parts n (holes ∷ [])) else [];
}

-- of a symbol that is known the whole name and the condition, made of those with holes; of another nothing
abbrev pub known_full_name : (ℕ → Bool) → Emission → ℕ → List Frame → Tree
known_full_name p b n fs = if p n then fill (nearest fs) (b.full_name n (holes ∷ [])) else no_value

abbrev pub known_condition : (ℕ → Bool) → Emission → ℕ → List Frame → Tree
known_condition p b n fs = if p n then fill (nearest fs) (b.condition n (holes ∷ [])) else no_value

-- the whole name and the condition of the declaration of that number have no holes, but for those of the loop around it
pub record HasHeads (b : Emission) (n : ℕ) : Type 0 where
  pub full_name : (fs : List Frame) → IsRun fs → fill (nearest fs) (b.full_name n (holes ∷ [])) ≡ b.full_name n fs
  pub condition : (fs : List Frame) → IsRun fs → fill (nearest fs) (b.condition n (holes ∷ [])) ≡ b.condition n fs
