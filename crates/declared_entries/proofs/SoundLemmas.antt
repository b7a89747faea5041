-- What a sound file has of a declaration.
use Rattle.std.proofs.Common.{◌≡◌, ℕ, Option, Some, None, Bor, codes, refl, sym, ap, ◌∙◌}
use Rattle.std.specs.Prelude.{option_and_then, option_map, option_copied}
use Rattle.bicep_resolved.specs.Source.{SourceTree, ValueTree}
use Rattle.bicep_resolved.specs.View.{source_of}
use Rattle.bicep_resolved.specs.declared.source.Source.{Source}
use Rattle.bicep_declared.specs.Declarations.{BodyTree, DeclaredTree}
use Rattle.bicep_meaning.specs.Declared.{body_of}
use Rattle.bicep_resolved.specs.Source.{field_named}
use Rattle.bicep_meaning.specs.Files.{SourceFile, declaration, Parent, parent, no_parent, inside, below}
use Rattle.bicep_emission.specs.Emittable.{IsEmittable, IsValue}
use Rattle.declaration_laws.specs.Sound.{IsSound}
use Rattle.declared_entries.specs.Heads.{HasParent}

pub has_parent : (f : SourceFile) (n : ℕ) (p : Parent) → IsSound f → p ≡ parent f n → HasParent p
has_parent f n no_parent sound e = tt
has_parent f n (inside m) sound e = tt
has_parent f n (below r) sound e = sound.parents n r (sym e)

module _ (f : SourceFile) (n : ℕ) (o : Option DeclaredTree) (sound : IsSound f) (is : declaration f n ≡ o)
    (b : BodyTree) (body : option_and_then body_of o ≡ Some b) where
  pub name_value : (v : ValueTree) → field_named (codes "name") b.fields ≡ Some v → IsValue v
  name_value v e = sound.names n b v (ap (option_and_then body_of) is ∙ body) e

  pub own_condition : (c : SourceTree) → b.condition ≡ Some c → IsEmittable c
  own_condition c e = sound.conditions n b c (ap (option_and_then body_of) is ∙ body) e

pub borrowed : (o : Option (Bor Source)) → option_map source_of (option_copied o) ≡ option_map (λ e. source_of e.now) o
borrowed None = refl
borrowed (Some e) = refl
