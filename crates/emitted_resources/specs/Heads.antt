-- The names, the conditions and the loops of resources of a template.
use Rattle.std.specs.Prelude.{◌≡◌, ℕ, Bool, false, List, Option, Some, None, codes, bytes_eq}
use Rattle.std.specs.Prelude.{Result, IfOk}
use Rattle.std.specs.declared.alloc.AllocError.{AllocError}
use Rattle.arm_expr.specs.Tree.{Tree, call}
use Rattle.arm_expr.specs.Tree as tree
use Rattle.arm_value.specs.View.{json}
use Rattle.arm_value.specs.declared.value.Value.{Value}
use Rattle.template_parts.specs.declared.looping.Batches.{Batches}
use Rattle.template_parts.specs.declared.looping.ResourceCopy.{ResourceCopy}
use Rattle.bicep_resolved.specs.Source.{LoopTree}
use Rattle.emitted_declarations.specs.Declared.{Emission}
use Rattle.emitted_values.specs.EmittedTrees.{count_of}
use Rattle.emitted_values.specs.Written.{expression_json}
use Rattle.emitted_values.specs.Files.{frames_around}
use Rattle.emitted_values.specs.Values.{AreBoth}

-- of a resource or a module, by its number and by the loop around it: its whole name, its condition, and how often its
-- loop runs
abbrev pub whole_name : Emission → ℕ → Option LoopTree → Tree
whole_name e n l = e.full_name n (frames_around e n l)

abbrev pub whole_condition : Emission → ℕ → Option LoopTree → Tree
whole_condition e n l = e.condition n (frames_around e n l)

abbrev pub loop_count : Emission → ℕ → Tree
loop_count e n = count_of (e.scope.items n)

-- whether an expression is `true()`
abbrev pub is_always : Tree → Bool
is_always (call name tree.none) = bytes_eq name (codes "true")
is_always e = false

-- the text of a condition in brackets; without one the condition is `true()`
abbrev pub IsConditionText : Tree → Option Value → Type 0
IsConditionText e (Some v) = json v ≡ expression_json e
IsConditionText e None = e ≡ call (codes "true") tree.none

-- a loop of that name, which runs so often, in these batches
pub record IsLoopOf (x : List ℕ) (c : Tree) (b : Batches) (l : ResourceCopy) : Type 0 where
  pub name : l.name ≡ x
  pub count : json l.count ≡ expression_json c
  pub batches : l.batches ≡ b

-- one where there is a loop, or no memory
abbrev pub IsCopy : Option LoopTree → List ℕ → Tree → Batches → Result (Option ResourceCopy) AllocError → Type 0
IsCopy each x c b r = IfOk r (AreBoth (λ l y. IsLoopOf x c b y) each)
