-- What the names in a file of a program without faults are not, so that a template reads them as names: none makes a
-- loop, and none declares a resource beside its body.
use Rattle.std.specs.Prelude.{◌≡◌, ℕ, Bool, false, List, Option, Some, None, codes}
use Rattle.template_meaning.specs.Resources.{is_outside}
use Rattle.bicep_tree.specs.declared.leaf.Quoted.{Quoted}
use Rattle.bicep_resolved.specs.Source.{PropertyTrees, ValueTree}
use Rattle.bicep_resolved.specs.Source as s
use Rattle.bicep_declared.specs.Declarations.{BodyTree}
use Rattle.bicep_declared.specs.Declarations as d
use Rattle.bicep_meaning.specs.Files.{SourceFile, declaration}
use Rattle.bicep_meaning.specs.Instances.{is_own, variable_named, argument_of}

-- a value that is no loop
abbrev pub IsPlain : ValueTree → Type 0
IsPlain (s.plain e) = Unit {0}
IsPlain (s.each l e) = ⊥

-- a member of the name is one of the body of a resource in a template, whether or not it has a symbolic name
abbrev pub IsBodyName : List ℕ → Type 0
IsBodyName x = (symbol : Option (List ℕ)) → is_outside symbol x ≡ false

-- each field of the body of a resource is plain, and a member of its name is one of the body in a template
abbrev pub AreFieldsPlaced : PropertyTrees → Type 0
AreFieldsPlaced s.no_property = Unit {0}
AreFieldsPlaced (s.property at x v ps) =
    (is_own x ≡ false → IsPlain v × IsBodyName x) × AreFieldsPlaced ps

-- no variable and no argument of a module is named `copy`, but for the case of ASCII letters
pub record IsPlaced (f : SourceFile) : Type 0 where
  pub variables : variable_named (codes "copy") f ≡ None
  pub arguments : (n : ℕ) → argument_of (codes "copy") (declaration f n) ≡ None
  pub fields : (n at : ℕ) (q : Quoted) (existing : Bool) (b : BodyTree)
      → declaration f n ≡ Some (d.a_resource at q existing b) → AreFieldsPlaced b.fields
