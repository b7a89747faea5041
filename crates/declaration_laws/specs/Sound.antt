-- What a file of a program without faults has, as far as its declarations are emitted.
use Rattle.std.specs.Prelude.{◌≡◌, ◌<◌, ℕ, Bool, false, length, List, Some, codes}
use Rattle.arm_value.specs.Look.{fold}
use Rattle.arm_ids.specs.Segments.{segments}
use Rattle.bicep_tree.specs.declared.leaf.Quoted.{Quoted}
use Rattle.bicep_emission.specs.Source.{SourceTree, ReachTree, ValueTree, field_named}
use Rattle.bicep_emission.specs.Source as s
use Rattle.bicep_emission.specs.Target.{number_of, target_of}
use Rattle.emitted_declarations.specs.Declarations.{BodyTree}
use Rattle.emitted_declarations.specs.Declarations as d
use Rattle.bicep_emission.specs.Declared.{body_at}
use Rattle.bicep_emission.specs.Files.{SourceFile, declaration, parent, inside, below, type_of}
use Rattle.bicep_emission.specs.Emittable.{IsEmittable, IsValue, IsReach}
use Rattle.emitted_declarations.specs.ChildTypes.{IsChildType}
use Rattle.arm_ids.specs.Members.{deployment_type}

-- the type of a resource: of two segments or more, and not that of nested deployments
pub record IsResourceType (kind : List ℕ) : Type 0 where
  pub has_segments : 1 < length (segments kind)
  pub is_resource : fold kind ≡ fold deployment_type → ⊥

-- the expressions of a file can be emitted, and the types of its resources are in order
pub record IsSound (f : SourceFile) : Type 0 where
  -- a for-expression is no value of a variable without an entry
  pub variables : (n at : ℕ) (v : ValueTree) → declaration f n ≡ Some (d.variable at v) → f.has_entry n ≡ false
      → IsValue v
  pub names : (n : ℕ) (b : BodyTree) (v : ValueTree) → body_at f n ≡ Some b
      → field_named (codes "name") b.fields ≡ Some v → IsValue v
  pub loops : (n at : ℕ) (b : BodyTree) (xs : SourceTree) → body_at f n ≡ Some b → b.each ≡ Some (s.loop at xs)
      → IsEmittable xs
  pub conditions : (n : ℕ) (b : BodyTree) (c : SourceTree) → body_at f n ≡ Some b → b.condition ≡ Some c
      → IsEmittable c
  pub parents : (n : ℕ) (r : ReachTree) → parent f n ≡ below r → IsReach r
  pub types : (n at : ℕ) (q : Quoted) (existing : Bool) (b : BodyTree)
      → declaration f n ≡ Some (d.a_resource at q existing b) → IsResourceType (type_of f n).kind
  pub types_inside : (n m : ℕ) → parent f n ≡ inside m → IsChildType (type_of f n).kind (type_of f m).kind
  pub types_below : (n : ℕ) (r : ReachTree) → parent f n ≡ below r
      → IsChildType (type_of f n).kind (type_of f (number_of (target_of r))).kind
