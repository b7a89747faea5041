-- What a program without faults has, as far as its template is concerned.
use Rattle.std.specs.Prelude.{◌≡◌, ℕ, false, List, Some, option_and_then}
use Rattle.deploy_cells.specs.Cells.{Position}
use Rattle.bicep_resolved.specs.Source.{SourceTree, ValueTree}
use Rattle.bicep_resolved.specs.Source as s
use Rattle.bicep_declared.specs.Declarations.{OutputTree}
use Rattle.bicep_meaning.specs.Files.{SourceFile, declaration}
use Rattle.bicep_meaning.specs.Instances.{SourceProgram, Put, put_of, file_at, variable_named, output_folded}
use Rattle.bicep_meaning.specs.Instances.{default_of, argument_of, body_fields}
use Rattle.bicep_emission.specs.Answered.{IsPlainPlace}
use Rattle.declaration_laws.specs.Sound as declarations
use Rattle.emitted_trees.specs.EmittedTrees.{has_copy}
use Rattle.emitted_trees.specs.Sound.{IsSound, IsSoundValue, allowed}

-- the values of a file, in each place where a template has one
pub record IsSoundFile (f : SourceFile) : Type 0 where
  pub declarations : declarations.IsSound f
  pub variables : (x : List ℕ) (v : ValueTree) → variable_named x f ≡ Some v → IsSoundValue allowed v
  pub outputs : (x : List ℕ) (o : OutputTree) → output_folded f x ≡ Some o → IsSoundValue allowed o.value
  pub defaults : (n : ℕ) (e : SourceTree) → option_and_then default_of (declaration f n) ≡ Some e
      → IsSound allowed e
  pub arguments : (n : ℕ) (x : List ℕ) (v : ValueTree) → argument_of x (declaration f n) ≡ Some v
      → IsSoundValue allowed v
  -- the fields of a resource that is put, of which none is named `copy`
  pub bodies : (n : ℕ) (y : Put) → put_of n f ≡ Some y → y.kind.is_deployment ≡ false
      → IsSound allowed (s.object y.body.at (body_fields y.body.fields))
  pub no_copies : (n : ℕ) (y : Put) → put_of n f ≡ Some y → y.kind.is_deployment ≡ false
      → has_copy (body_fields y.body.fields) ≡ false

pub record IsSoundProgram (d : SourceProgram) : Type 0 where
  pub place : IsPlainPlace d.place
  pub files : (p : Position) (f : SourceFile) → file_at d.files p ≡ Some f → IsSoundFile f
