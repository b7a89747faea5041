-- Conditions of what is nested in no resource, and parents that can be emitted.
use Rattle.std.specs.Prelude.{List, [], ◌∷◌, Option, Some, None}
use Rattle.arm_expr.specs.Tree.{Tree}
use Rattle.bicep_resolved.specs.Source.{SourceTree}
use Rattle.bicep_meaning.specs.Files.{SourceFile, Parent, no_parent, inside, below}
use Rattle.bicep_emission.specs.Emittable.{IsReach}
use Rattle.bicep_emission.specs.Emitted.{emitted}
use Rattle.emitted_declarations.specs.Declared.{Emission}
use Rattle.emission_laws.specs.Holes.{holes}
use Rattle.kept_heads.specs.Joints.{always}

abbrev pub own_or_always : SourceFile → List SourceFile → Emission → Option SourceTree → Tree
own_or_always file files b None = always
own_or_always file files b (Some c) = emitted file files b.scope c (holes ∷ [])

-- the parent of a declaration, where it is an element of a loop, has an index that can be emitted
abbrev pub HasParent : Parent → Type 0
HasParent no_parent = Unit {0}
HasParent (inside n) = Unit {0}
HasParent (below r) = IsReach r
